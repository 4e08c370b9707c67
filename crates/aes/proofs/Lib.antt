pub mod CipherLaws
pub mod Turns
pub mod KeyLaws
pub mod FrontLaws
pub mod Promise
pub mod Expansion
