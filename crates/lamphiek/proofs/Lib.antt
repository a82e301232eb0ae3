-- The laws of the layout, from what the calls ensure to what their exported forms ensure, and calls from C as steps of runs.
mod Packing
mod Told
mod Lanes
mod Left
pub mod FromC
mod DayLeft
pub mod DayFromC
pub mod LoadFromC
