pub mod Kind
pub mod Refusal
pub mod Carry
pub mod Tallies
pub mod Totals
