pub mod Panels
pub mod Offers
pub mod Tonight
pub mod Refusals
pub mod Circles
