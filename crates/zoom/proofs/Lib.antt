pub mod Steps
pub mod Bracket
pub mod RunEnd
pub mod PassOver
pub mod Numbers
pub mod Zooming
