pub mod Numbers
pub mod PlaceLaws
pub mod FileLaws
pub mod BuildLaws
pub mod BuiltLaws
