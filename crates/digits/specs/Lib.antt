pub mod Digits
pub mod Written
pub mod Text
