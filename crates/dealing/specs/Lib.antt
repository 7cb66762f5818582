pub mod Refusal
pub mod Opening
pub mod Listing
