pub mod After
pub mod Pigeon
pub mod Draw
pub mod Reading
pub mod Joined
pub mod Gathered
pub mod Holders
