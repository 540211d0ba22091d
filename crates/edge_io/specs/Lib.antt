pub mod Counts
pub mod Faults
pub mod Told
pub mod Lines
pub mod LineEnds
pub mod Memory
pub mod KeyFiles
pub mod Entropy
