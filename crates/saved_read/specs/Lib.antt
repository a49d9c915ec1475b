pub mod Restored
pub mod Inner
