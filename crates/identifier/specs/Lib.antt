pub mod Identifier
pub mod Statements
