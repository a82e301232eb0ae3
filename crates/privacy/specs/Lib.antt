pub mod Privacy
pub mod DayPrivacy
pub mod Unseen
