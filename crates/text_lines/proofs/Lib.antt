pub mod Reading
pub mod Signs
pub mod Worked
pub mod Buffers
pub mod Chunks
