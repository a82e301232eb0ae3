pub mod Places
pub mod ByKind
pub mod Placing
pub mod Products
