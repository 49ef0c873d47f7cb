pub mod Columns
pub mod Inside
pub mod Passes
pub mod Resolved
pub mod Runs
