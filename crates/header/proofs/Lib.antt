pub mod Names
pub mod Starts
pub mod Step
pub mod HeaderIs
