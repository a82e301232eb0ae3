pub mod Rules
pub mod Slopes
pub mod Rows
pub mod HouseTable
