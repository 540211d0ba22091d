pub mod FamiliesLemmas
pub mod RecordLemmas
pub mod KeyLemmas
pub mod FamilyRecords
pub mod PlanLemmas
pub mod ChangeLemmas
pub mod InheritLemmas
pub mod MaterialFaults
