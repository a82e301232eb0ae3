pub mod Curve
pub mod Count
