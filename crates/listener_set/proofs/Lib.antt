pub mod Rising
pub mod NumberBits
pub mod NumberSets
pub mod NumberSearch
pub mod DescriptorSlots
pub mod DescriptorPairs
pub mod DescriptorWords
pub mod AddressLaws
pub mod AddressGrammar
pub mod PaddedLists
pub mod AddressLists
pub mod PathTexts
pub mod ShortTexts
mod SlotWrites
