pub mod EffectiveLevelRanges
pub mod EffectiveLevelRows
pub mod GivenLevels
pub mod GivenRows
pub mod Spans
pub mod LineRuns
pub mod NextRuns
pub mod VisualRuns
