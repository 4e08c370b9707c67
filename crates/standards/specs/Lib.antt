pub mod Strings
pub mod Fips197
pub mod Rfc7253
pub mod InBytes
pub mod AesOcb
pub mod Edges
