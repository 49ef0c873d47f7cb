-- What the proofs share.
pub mod CasesReturned
mod FileFaults
mod LineLengths
pub mod LineRunLists
pub mod LinesInBytes
pub mod OneLevel
mod LevelBlocks
