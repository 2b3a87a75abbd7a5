pub mod Reached
pub mod Stands
pub mod AtField
