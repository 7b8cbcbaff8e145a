pub mod FileOrder
