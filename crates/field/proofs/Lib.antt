pub mod FieldLaws
pub mod InverseLaws
pub mod BoxLaws
pub mod TableLaws
