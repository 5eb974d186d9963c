pub mod Asked
pub mod Slot
pub mod Pooled
pub mod Stores
pub mod Replacing
