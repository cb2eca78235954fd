pub mod Hash
pub mod Running
pub mod Mac
pub mod Promise
pub mod Given
