pub mod Pool
pub mod Rule
pub mod Words
