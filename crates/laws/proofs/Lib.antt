pub mod Fields
pub mod Exactly
pub mod Demand
pub mod Entries
pub mod AtLocator
