pub mod Numbers
pub mod Found
pub mod State
pub mod Rows
pub mod Whole
pub mod Once
