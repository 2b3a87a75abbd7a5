pub mod Items
pub mod Parts
pub mod Stated
pub mod ReadBack
pub mod Examples
