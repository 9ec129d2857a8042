pub mod Cases
pub mod Zeros
