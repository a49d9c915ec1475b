pub mod Limits
pub mod Table
pub mod Lent
pub mod Stack
pub mod Values
pub mod Answer
pub mod Res
pub mod Inner
