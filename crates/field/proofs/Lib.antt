pub mod Inferred
pub mod FieldIs
pub mod Sound
