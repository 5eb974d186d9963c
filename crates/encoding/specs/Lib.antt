pub mod Records
pub mod Given
pub mod Positions
