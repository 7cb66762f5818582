pub mod Added
pub mod Bounds
