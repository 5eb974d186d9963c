pub mod Places
pub mod Pool
pub mod Rule
pub mod Lists
pub mod Words
pub mod Written
pub mod Held
