pub mod Adder
pub mod Truncation
