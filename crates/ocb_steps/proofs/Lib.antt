pub mod PadLaws
pub mod StepLaws
pub mod Single
