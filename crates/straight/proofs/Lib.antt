pub mod StraightLines
pub mod LineCounts
pub mod FlatBoxes
pub mod RowCounts
