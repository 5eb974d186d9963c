pub mod Removable
pub mod Attributes
