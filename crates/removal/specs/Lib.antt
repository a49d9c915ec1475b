pub mod Removal
pub mod Inner
