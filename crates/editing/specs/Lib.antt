pub mod Contract
pub mod Answers
