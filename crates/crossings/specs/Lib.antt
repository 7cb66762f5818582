pub mod Views
pub mod Noted
