pub mod Fields
pub mod Values
pub mod Answer
pub mod Room
pub mod Input
