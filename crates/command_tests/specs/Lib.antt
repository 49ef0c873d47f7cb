pub mod KnownRuns
pub mod MemoryFiles
