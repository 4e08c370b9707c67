pub mod File
pub mod Accepted
pub mod Entries
pub mod Reading
pub mod Adding
pub mod Numbers
