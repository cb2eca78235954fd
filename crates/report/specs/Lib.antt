pub mod Told
pub mod Fed
