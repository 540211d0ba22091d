pub mod ActLemmas
pub mod MadeLemmas
pub mod HeldLemmas
pub mod IdLemmas
