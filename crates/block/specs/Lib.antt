pub mod Words
pub mod Halves
