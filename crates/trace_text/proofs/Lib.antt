pub mod Growing
mod Numbering
