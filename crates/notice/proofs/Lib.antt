pub mod Least
pub mod Whole
pub mod Stricter
