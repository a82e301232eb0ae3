pub mod Trials
pub mod Answers
