pub mod Lines
pub mod Problem
pub mod Clauses
pub mod Text
pub mod Inner
pub mod Examples
