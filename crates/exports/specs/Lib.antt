pub mod Contract
pub mod Walks
