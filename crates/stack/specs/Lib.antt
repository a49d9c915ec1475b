pub mod Tests
pub mod Inner
