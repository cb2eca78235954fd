pub mod Vectors
pub mod InTwo
