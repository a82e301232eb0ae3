pub mod Integers
pub mod Scaled
pub mod Curve
pub mod Counting
pub mod Wrapping
pub mod WordCurve
pub mod Above
pub mod Segments
