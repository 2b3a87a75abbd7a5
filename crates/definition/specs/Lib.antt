pub mod Definition
pub mod AcceptedIs
pub mod Unchecked
