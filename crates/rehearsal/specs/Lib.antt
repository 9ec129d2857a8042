pub mod Plan
pub mod Rehearsal
pub mod Statements
