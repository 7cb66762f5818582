pub mod Granted
pub mod Ranges
pub mod Compared
