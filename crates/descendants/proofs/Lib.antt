pub mod Hints
pub mod Stack
pub mod Walks
pub mod Anywhere
pub mod Listing
pub mod InOrder
pub mod Claim
