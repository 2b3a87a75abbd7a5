pub mod Locator
pub mod Stands
pub mod Working
