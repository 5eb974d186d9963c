pub mod Productions
pub mod Classes
pub mod Utf8
pub mod Checks
pub mod Scan
