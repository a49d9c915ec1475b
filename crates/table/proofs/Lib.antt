pub mod Soundness
pub mod Stacks
pub mod Laying
pub mod Longer
pub mod Answers
pub mod Stamps
pub mod Found
