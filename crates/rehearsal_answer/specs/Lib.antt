pub mod Rehearsal
pub mod Trial
