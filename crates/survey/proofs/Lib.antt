pub mod Arms
pub mod Covers
pub mod Laws
pub mod Walk
