pub mod NameLemmas
pub mod TreeLemmas
pub mod RecordLemmas
pub mod SnapNameLemmas
pub mod RemoveLemmas
