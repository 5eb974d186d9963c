pub mod Tests
pub mod Scratch
pub mod Turns
