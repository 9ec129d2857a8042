pub mod Turns
pub mod Laws
pub mod Determined
