pub mod Kept
pub mod Free
