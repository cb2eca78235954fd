pub mod Bits
pub mod Taking
pub mod Promised
pub mod Steps
pub mod Many
pub mod Counted
pub mod Calls
pub mod Only
