pub mod Bound
pub mod Due
pub mod Past
