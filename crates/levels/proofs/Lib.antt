pub mod Folds
pub mod Starts
pub mod LevelWindows
pub mod Flagging
pub mod PassLoops
pub mod Waiting
pub mod Rows
pub mod TwoPasses
