pub mod Cipher
pub mod Sizes
pub mod Undo
pub mod RoundTrip
pub mod Calls
pub mod TableLaws
pub mod Agree
pub mod Readings
