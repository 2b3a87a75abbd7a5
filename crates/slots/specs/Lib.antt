pub mod Slots
pub mod Expresses
pub mod ExprRead
