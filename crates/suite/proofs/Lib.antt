pub mod Suites
pub mod Coded
pub mod Marked
pub mod Only
