pub mod CodeTexts
pub mod OneLine
pub mod EntryTexts
pub mod BlockLines
pub mod Transcripts
pub mod Counts
