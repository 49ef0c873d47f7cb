pub mod Decoded
pub mod Encodings
pub mod LossyRows
pub mod LossyTexts
pub mod Offsets
pub mod PlainUnits
pub mod Spelling
pub mod Starts
