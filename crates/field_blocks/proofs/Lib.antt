pub mod SoundFields
pub mod FieldsAre
pub mod ItemsRead
