pub mod AddLaws
pub mod SameLaws
pub mod Additions
