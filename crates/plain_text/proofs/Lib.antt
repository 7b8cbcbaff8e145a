pub mod NumberTextLemmas
pub mod CutTexts
pub mod KeptTexts
pub mod Prefixes
pub mod LineTexts
pub mod TextLines
mod FirstBytes
