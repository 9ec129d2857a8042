pub mod Folds
pub mod Playing
pub mod Bridge
