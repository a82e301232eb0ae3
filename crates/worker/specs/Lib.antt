pub mod Answers
pub mod Jobs
pub mod Days
