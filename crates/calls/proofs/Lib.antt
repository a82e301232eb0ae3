pub mod Lists
pub mod Hearing
pub mod Scripts
pub mod Faults
