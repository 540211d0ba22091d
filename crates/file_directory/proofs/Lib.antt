pub mod OrderLemmas
pub mod FormLemmas
pub mod TextLemmas
pub mod ReadLemmas
pub mod ChangeLemmas
pub mod BoundLemmas
