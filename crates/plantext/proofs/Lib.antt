pub mod Faults
pub mod ReadBack
pub mod LastLine
pub mod Form
pub mod TooLong
pub mod Formed
