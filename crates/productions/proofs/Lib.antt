pub mod Rules
pub mod Verdicts
pub mod Spelling
