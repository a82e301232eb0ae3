pub mod Gates
pub mod Sharing
pub mod Answers
