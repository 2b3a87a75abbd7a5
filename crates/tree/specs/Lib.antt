pub mod Tree
pub mod Stands
pub mod IsForm
pub mod Meaning
pub mod Examples
