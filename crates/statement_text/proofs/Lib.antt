mod Adding
mod Lengths
