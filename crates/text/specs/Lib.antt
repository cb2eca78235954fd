pub mod Digits
pub mod Fields
pub mod Promise
pub mod Line
