pub mod Found
pub mod Bounded
