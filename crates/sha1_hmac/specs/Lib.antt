pub mod Hash
pub mod View
pub mod Answers
