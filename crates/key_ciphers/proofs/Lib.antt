pub mod OpenedMasters
pub mod CipherLaws
