pub mod Appended
pub mod Moved
pub mod Planned
pub mod Replaced
