pub mod Column
pub mod Held
pub mod Four
