pub mod Numerals
pub mod Amounts
pub mod Widths
pub mod Lines
