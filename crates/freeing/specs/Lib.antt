pub mod Freed
pub mod Asked
