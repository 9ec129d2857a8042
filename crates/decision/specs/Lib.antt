pub mod Decision
pub mod Words
