pub mod Numbering
pub mod TestedBrackets
pub mod TestedClasses
pub mod TestedMirrors
pub mod TestedTogether
