pub mod Buffer
pub mod Lent
