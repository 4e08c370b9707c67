pub mod BlockLaws
pub mod TableLaws
pub mod KeyLaws
pub mod OffsetLaws
pub mod NonceLaws
