pub mod Counted
pub mod Ending
pub mod Stored
