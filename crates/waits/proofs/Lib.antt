pub mod Laws
pub mod Counted
pub mod Kept
