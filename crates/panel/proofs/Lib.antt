pub mod Boards
pub mod Playing
pub mod Records
pub mod Determined
