pub mod Steps
mod Dividends
