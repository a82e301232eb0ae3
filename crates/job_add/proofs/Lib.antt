pub mod Here
pub mod Written
