pub mod Splits
pub mod Parts
pub mod Lists
pub mod Texts
