pub mod Template
pub mod Working
