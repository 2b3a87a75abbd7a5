pub mod Locators
pub mod BySheet
