pub mod WalkLaws
pub mod EndLaws
pub mod HashLaws
pub mod TagLaws
pub mod Single
