pub mod Funding
pub mod Book
pub mod Lawful
