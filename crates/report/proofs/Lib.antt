pub mod Keyless
pub mod Telling
pub mod Only
