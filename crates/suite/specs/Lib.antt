pub mod Types
pub mod Code
pub mod Session
pub mod Told
