pub mod Job
pub mod Refusals
pub mod Counts
pub mod CostTable
pub mod Answers
pub mod FirstFault
pub mod Additions
