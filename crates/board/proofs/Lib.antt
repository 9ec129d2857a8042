pub mod OneEvent
pub mod Boards
pub mod Found
pub mod Sees
pub mod Tables
pub mod Kept
pub mod Beside
pub mod Steps
