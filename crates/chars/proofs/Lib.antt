pub mod Ranges
pub mod Steps
pub mod Rows
pub mod Decoding
pub mod Ascii
pub mod Encoding
pub mod Numbers
