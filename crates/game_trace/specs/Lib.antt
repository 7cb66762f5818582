pub mod Steps
pub mod Trace
pub mod Starts
