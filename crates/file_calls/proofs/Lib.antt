mod Players
mod Reached
