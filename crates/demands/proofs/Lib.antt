pub mod Choosing
pub mod Reaching
pub mod Third
pub mod Second
pub mod First
pub mod Saving
