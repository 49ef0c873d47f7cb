pub mod CommandLine
pub mod Outcomes
pub mod Rejections
pub mod WordRows
