pub mod Reading
pub mod Numbers
pub mod Encodings
pub mod Loads
pub mod Refusals
pub mod Worked
