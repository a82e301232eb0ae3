pub mod Carries
pub mod Adder
pub mod Truncation
