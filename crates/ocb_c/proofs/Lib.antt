pub mod BufferLaws
pub mod LentLaws
