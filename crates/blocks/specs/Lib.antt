pub mod Arena
pub mod Rule
pub mod Held
pub mod Answer
pub mod Claims
pub mod Compact
pub mod Examples
