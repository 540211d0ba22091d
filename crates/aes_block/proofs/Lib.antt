pub mod Checked
pub mod FieldLaws
pub mod CipherLaws
pub mod ScheduleLaws
pub mod LaneLaws
pub mod TowerLaws
pub mod TableLaws
mod Examples
pub mod TurnLaws
