pub mod Pieces
pub mod Running
pub mod Named
pub mod Texts
pub mod Told
pub mod Only
pub mod Counts
