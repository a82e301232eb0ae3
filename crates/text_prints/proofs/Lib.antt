pub mod Decimals
pub mod Signs
pub mod Rows
pub mod Worked
