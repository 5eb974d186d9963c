pub mod Walking
pub mod Contract
pub mod Claim
