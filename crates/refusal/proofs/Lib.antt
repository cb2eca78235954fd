pub mod Order
pub mod Numbers
pub mod Told
pub mod Answer
pub mod Only
