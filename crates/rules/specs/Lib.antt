pub mod Walk
pub mod Clause
pub mod Blocking
pub mod Book
pub mod Elimination
pub mod Rebuild
pub mod Proposition
pub mod Inner
