pub mod OptionPairs
