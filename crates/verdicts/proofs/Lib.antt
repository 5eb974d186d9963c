pub mod Verdicts
pub mod Refusing
