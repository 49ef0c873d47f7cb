pub mod AskedLetters
pub mod FirstFaults
pub mod LengthPieces
pub mod MadeRows
pub mod PrintedFails
pub mod Rejected
pub mod TableEnds
pub mod Reported
