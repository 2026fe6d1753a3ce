pub mod Sizes
pub mod Sums
pub mod Sides
pub mod Levels
pub mod Fills
pub mod Settling
pub mod Listings
