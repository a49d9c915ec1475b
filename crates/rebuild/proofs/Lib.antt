pub mod Bytes
pub mod Rows
pub mod Replay
pub mod Refusals
pub mod Lowest
