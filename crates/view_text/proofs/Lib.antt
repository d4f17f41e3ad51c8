pub mod SeenMessages
pub mod OutputWires
