pub mod StepLaws
pub mod RaiseLaws
pub mod LayLaws
