pub mod ReadLaws
pub mod Isolation
