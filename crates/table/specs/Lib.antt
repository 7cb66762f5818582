pub mod Bounds
pub mod Cards
pub mod Comparing
