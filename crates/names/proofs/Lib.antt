pub mod Lists
pub mod Table
pub mod Words
pub mod Search
pub mod Append
