pub mod Spread
pub mod Remaining
pub mod Squeeze
pub mod Paragraph
pub mod Laid
pub mod PassedSets
