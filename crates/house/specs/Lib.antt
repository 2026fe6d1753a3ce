pub mod Sound
pub mod View
pub mod Reply
pub mod Places
pub mod Closings
pub mod States
pub mod Spending
