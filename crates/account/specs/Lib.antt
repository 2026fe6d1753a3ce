pub mod Bounds
pub mod View
pub mod Balances
