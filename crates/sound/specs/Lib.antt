pub mod Cases
pub mod Words
