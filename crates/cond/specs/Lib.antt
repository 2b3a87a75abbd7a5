pub mod Ranges
pub mod Step
pub mod ConditionsAre
pub mod RangesRead
