pub mod Number
pub mod Words
pub mod Fields
pub mod Commands
pub mod Line
pub mod Answers
pub mod Worked
