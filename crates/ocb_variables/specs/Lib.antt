pub mod State
pub mod Held
pub mod Nonce
