pub mod Needs
pub mod Days
