pub mod Bytes
pub mod Scans
pub mod Digits
pub mod Once
