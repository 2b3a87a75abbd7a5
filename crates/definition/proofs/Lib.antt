pub mod Steps
pub mod AcceptedIs
pub mod Unchecked
pub mod Given
pub mod Within
