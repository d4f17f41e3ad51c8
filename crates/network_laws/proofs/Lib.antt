mod RunsAsShort
mod FirstParts
pub mod EarlierTakes
pub mod CutTalks
pub mod GroupViews
