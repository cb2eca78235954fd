pub mod State
pub mod Cipher
pub mod Key
pub mod Schedule
pub mod Turn
