pub mod AllSequences
pub mod ClassSets
pub mod Covering
pub mod ComputedBeside
pub mod FlatLevels
pub mod ClassKinds
pub mod Scan
pub mod FirstSides
pub mod Unresolved
pub mod UniformLevels
pub mod KnownLevels
pub mod FlatApart
pub mod FewLevels
pub mod UniformSequences
pub mod KnownSets
pub mod LeftToRight
mod JoinedSets
