pub mod Guarded
pub mod Promised
pub mod Outer
pub mod Numbers
pub mod Reader
pub mod Calls
pub mod Many
pub mod Only
