pub mod LifeText
