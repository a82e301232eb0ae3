pub mod Day
pub mod DayCalls
pub mod WholeDay
pub mod Orders
