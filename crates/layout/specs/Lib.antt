pub mod Layout
pub mod Record
