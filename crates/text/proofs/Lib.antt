pub mod Emit
pub mod Decimal
pub mod Lengths
pub mod Whole
