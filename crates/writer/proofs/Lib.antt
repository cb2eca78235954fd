pub mod Promised
pub mod Only
