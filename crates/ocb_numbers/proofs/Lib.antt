pub mod RuleLaws
pub mod Refusals
