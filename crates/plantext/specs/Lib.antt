pub mod Text
pub mod Statements
pub mod Form
