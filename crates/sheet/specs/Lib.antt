pub mod Number
pub mod Amount
pub mod Name
pub mod Word
pub mod Row
pub mod Layout
pub mod Worked
