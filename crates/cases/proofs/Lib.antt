pub mod Parts
pub mod Walk
pub mod Reading
pub mod Gathering
pub mod Only
pub mod Saying
