pub mod Kept
pub mod Driver
