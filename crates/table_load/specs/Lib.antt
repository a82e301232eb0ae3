pub mod Loading
pub mod Answers
pub mod Texts
pub mod Loads
