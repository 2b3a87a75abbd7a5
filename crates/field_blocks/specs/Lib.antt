pub mod OnBlock
pub mod Step
pub mod FieldsAre
pub mod ItemsRead
