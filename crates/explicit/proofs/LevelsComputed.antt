pub mod OneCutting
pub mod ExplicitAt
pub mod Stretches
pub mod WantedLevels
pub mod Leveled
pub mod InsideIsolates
pub mod Alone
