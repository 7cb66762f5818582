pub mod OneWriting
pub mod Steps
pub mod WholeFile
