pub mod LookUp
pub mod Matrix
