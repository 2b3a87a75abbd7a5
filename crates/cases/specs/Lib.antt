pub mod Sheets
pub mod Table
pub mod Listed
