pub mod Hosts
pub mod Hours
pub mod Days
