pub mod Over
pub mod Decimal
pub mod Lines
