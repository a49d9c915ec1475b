pub mod Rebuild
pub mod Inner
