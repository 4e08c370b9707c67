pub mod Cipher
pub mod Schedule
