pub mod Digits
pub mod Tens
pub mod Cuts
pub mod Writing
pub mod Reading
pub mod Lines
pub mod Back
pub mod Only
