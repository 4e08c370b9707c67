pub mod AesKey
pub mod AnyState
pub mod Outcomes
pub mod MadeState
pub mod Demands
