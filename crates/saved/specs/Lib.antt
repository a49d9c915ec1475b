pub mod Bytes
pub mod Field
pub mod Form
pub mod Reading
pub mod Saved
