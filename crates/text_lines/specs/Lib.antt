pub mod Lines
pub mod Buffers
pub mod Input
pub mod Answers
