pub mod Cbc
pub mod Promise
pub mod Halves
