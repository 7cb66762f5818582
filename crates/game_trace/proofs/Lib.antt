mod Starts
mod Stepping
