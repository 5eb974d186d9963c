pub mod Handles
pub mod Records
pub mod Decoding
pub mod Ranges
pub mod Stored
