pub mod Marks
pub mod Take
pub mod Promise
pub mod Many
