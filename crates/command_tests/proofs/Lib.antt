pub mod KnownRuns
