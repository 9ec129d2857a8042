pub mod Line
pub mod Panel
pub mod Cases
