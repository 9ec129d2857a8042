pub mod Bools
pub mod Ways
pub mod Walks
pub mod Pointwise
pub mod Determined
pub mod Lowest
pub mod Zeros
