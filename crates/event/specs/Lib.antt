pub mod Kinds
pub mod Fields
pub mod Remote
pub mod WellMade
pub mod Identifiers
pub mod Refusals
