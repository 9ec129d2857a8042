pub mod Beside
pub mod Turns
pub mod Determined
