pub mod Wrote
pub mod Told
pub mod Front
pub mod Bound
pub mod Whole
