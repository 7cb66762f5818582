pub mod Entry
pub mod Writing
pub mod Reading
pub mod Whole
pub mod Laws
pub mod Text
