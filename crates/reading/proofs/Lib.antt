pub mod Lists
pub mod Tested
pub mod Listed
pub mod Keyed
pub mod Elements
pub mod Live
pub mod Texts
pub mod Orders
