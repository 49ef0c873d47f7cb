pub mod FirstChars
pub mod Nothing
