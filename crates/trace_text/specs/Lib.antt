pub mod Places
pub mod Lines
pub mod Pushed
pub mod Words
