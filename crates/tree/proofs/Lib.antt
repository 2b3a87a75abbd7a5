pub mod Stands
pub mod IsForm
pub mod Meaning
