pub mod Printed
pub mod Ranges
