pub mod MaterialLemmas
pub mod KeyLengths
