pub mod Marks
pub mod Holders
pub mod Links
pub mod Reasons
pub mod Plains
