pub mod Table
pub mod Order
pub mod Answer
pub mod Call
