pub mod Jobs
pub mod Pieces
pub mod Places
pub mod Days
pub mod DayCalls
