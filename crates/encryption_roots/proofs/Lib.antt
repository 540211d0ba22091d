pub mod ByIdLemmas
pub mod OwnerLemmas
pub mod PathLemmas
pub mod OwnedLemmas
