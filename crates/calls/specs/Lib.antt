pub mod Places
pub mod Scripts
pub mod Lent
pub mod Calls
