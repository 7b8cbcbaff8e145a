pub mod OrderedKeys
pub mod Services
pub mod ServedPlaces
