pub mod Ranges
pub mod Calendar
pub mod Quarters
pub mod Answers
pub mod Hours
pub mod OpeningHours
