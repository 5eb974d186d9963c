pub mod Nodes
pub mod View
pub mod Marks
pub mod Entering
pub mod Paths
pub mod Fields
