pub mod Pieces
pub mod Panel
pub mod Cases
