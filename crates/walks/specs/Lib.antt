pub mod Workers
pub mod Halts
pub mod Dealers
