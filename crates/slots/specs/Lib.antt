pub mod Regions
pub mod Slots
pub mod FreeRule
pub mod WordsRule
pub mod Examples
