pub mod Outside
pub mod Lowest
pub mod Crossed
