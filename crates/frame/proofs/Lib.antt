pub mod Promised
pub mod Parts
pub mod Exact
pub mod Calls
pub mod Only
