pub mod Positions
pub mod Ends
pub mod Turns
pub mod Leaves
pub mod Ran
