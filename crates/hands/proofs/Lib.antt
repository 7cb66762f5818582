pub mod Ways
pub mod Orders
pub mod Kept
pub mod Accounts
pub mod Floors
