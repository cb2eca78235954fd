pub mod Auth
pub mod Status
pub mod Name
pub mod Block
pub mod OpenSession
pub mod Rakp
pub mod Answers
pub mod Promises
