pub mod Moves
pub mod EitherOrder
pub mod Example
