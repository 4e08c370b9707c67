pub mod Answers
pub mod Terms
pub mod Inner
