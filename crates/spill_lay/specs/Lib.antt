pub mod Steps
pub mod Laying
