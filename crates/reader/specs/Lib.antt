pub mod Uncbc
pub mod Answers
