pub mod Explaining
pub mod Finished
pub mod SamePosition
pub mod RowLines
pub mod SearchedBytes
