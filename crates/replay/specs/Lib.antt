pub mod Calls
pub mod Playing
pub mod Whole
pub mod Opening
pub mod Cards
pub mod Games
pub mod Laws
