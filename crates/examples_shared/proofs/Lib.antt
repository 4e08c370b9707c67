pub mod Hex
pub mod Opened
pub mod Under
