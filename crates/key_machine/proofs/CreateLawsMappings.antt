-- The mappings of a state that grows by one dataset stay sound.
use Rattle.std.proofs.Common.{ℕ, List}
use Rattle.dataset_tree.specs.declared.tree.Row.{Row}
use Rattle.encryption_roots.specs.declared.props.Props.{Props}
use Rattle.key_machine.specs.Plain.{Plain, Stored}
use Rattle.key_machine.specs.Sound.{SoundMappings}
use Rattle.key_machine.proofs.CreateLawsGrown.{grown, Grows, encrypted_apart, encrypted_kept, key_stays}

pub mappings_kept : (p : Plain) (row : Row) (roots : List (ℕ × Props)) (wrapped : List (ℕ × Stored)) (loaded : List (ℕ × List ℕ)) → Grows p row roots wrapped loaded
    → SoundMappings p → SoundMappings (grown p row roots wrapped loaded)
mappings_kept p row roots wrapped loaded g sound = record {
  mapped = sound.mapped;
  encrypted = λ k d within. encrypted_kept p row roots wrapped loaded g _ (sound.encrypted k d within);
  slots = sound.slots;
  keys = λ k d within. key_stays p row roots wrapped loaded g _ (encrypted_apart p row roots wrapped loaded g _ (sound.encrypted k d within)) (sound.keys k d within);
  mounted = sound.mounted;
  mounts = sound.mounts;
}
