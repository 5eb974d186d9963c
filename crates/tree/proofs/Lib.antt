pub mod Theorem
pub mod Zeros
pub mod Startable
