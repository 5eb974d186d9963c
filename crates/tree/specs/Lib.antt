pub mod Contract
pub mod Answers
pub mod Claim
