pub mod Fields
pub mod FieldIs
pub mod Sound
