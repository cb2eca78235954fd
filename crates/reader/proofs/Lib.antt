pub mod Promised
pub mod Parts
pub mod Chained
pub mod Peek
pub mod Only
