pub mod Around
pub mod Sides
pub mod Passed
pub mod StrongInside
pub mod LevelUnder
