pub mod Guard
pub mod Promise
pub mod Exact
