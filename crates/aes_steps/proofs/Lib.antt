pub mod MixLaws
pub mod StateLaws
pub mod OwnedState
pub mod LookUpLaws
