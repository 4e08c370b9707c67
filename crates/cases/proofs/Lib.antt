pub mod Flaws
pub mod Placed
pub mod Laid
pub mod Answered
pub mod Responded
