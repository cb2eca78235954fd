pub mod Keyed
pub mod Masked
pub mod Counted
pub mod Nested
