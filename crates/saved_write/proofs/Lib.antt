pub mod Laying
pub mod Limits
pub mod Sections
pub mod Refusals
pub mod Once
