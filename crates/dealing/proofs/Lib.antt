pub mod Rows
pub mod Seats
pub mod Listed
