pub mod Quad
pub mod Mix
pub mod Keys
pub mod KeyBytes
pub mod Rounds
pub mod Block
pub mod Inverse
pub mod Only
