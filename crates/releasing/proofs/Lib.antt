mod Laid
mod Gaps
pub mod Released
