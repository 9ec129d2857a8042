pub mod Texts
pub mod Digits
pub mod Determined
