pub mod Pushes
pub mod Desks
pub mod Questions
pub mod Rooms
pub mod Outcomes
