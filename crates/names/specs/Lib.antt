pub mod Table
pub mod Rule
pub mod Words
pub mod Expanded
