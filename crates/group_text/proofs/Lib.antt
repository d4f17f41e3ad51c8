mod NamedGroups
mod SplitTexts
