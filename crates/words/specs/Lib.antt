pub mod Ring
pub mod Words
pub mod Signed
