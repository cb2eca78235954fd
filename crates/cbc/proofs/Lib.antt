pub mod Run
pub mod Blocks
pub mod Inverse
pub mod Halves
pub mod WrongHalves
pub mod Promise
pub mod Only
pub mod TwoCalls
