pub mod Together
pub mod Ran
