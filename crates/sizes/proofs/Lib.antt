pub mod KeyLaws
