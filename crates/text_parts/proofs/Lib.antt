pub mod GatheredTexts
mod Members
