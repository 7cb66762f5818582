pub mod Figures
pub mod Books
pub mod Steps
