pub mod Fields
pub mod Demand
pub mod Exactly
pub mod Entries
pub mod AtLocator
