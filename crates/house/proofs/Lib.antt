pub mod Facts
pub mod Keeps
pub mod CashLimits
pub mod Listed
pub mod Checks
pub mod Tests
pub mod Closes
