pub mod Named
pub mod Step
pub mod LengthsAre
