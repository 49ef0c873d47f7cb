pub mod Asks
pub mod ClassNumbers
pub mod Kinds
pub mod NumberedUnits
pub mod Seen
pub mod Sources
pub mod Splitting
