pub mod Bytes
pub mod Number
pub mod Place
pub mod Tab
pub mod Equal
pub mod Promise
