pub mod Blocks
pub mod Sheet
pub mod SheetIs
pub mod Working
