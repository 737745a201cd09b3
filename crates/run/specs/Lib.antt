pub mod Answering
pub mod Ready
