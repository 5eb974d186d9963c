pub mod Handles
pub mod Records
pub mod Fields
pub mod Ranges
