-- What a write or a cut gives.
use Rattle.std.specs.Prelude.{ℕ, ◌+◌, ◌≤◌, ◌≡◌, length, Result, Ok, Err}
use Rattle.block_crypt.specs.Blocks.{KeyValue}
use Rattle.salt_rotation.specs.SaltState.{SaltState}
use Rattle.indirect_macs.specs.declared.refs.MacError.{MacError}
use Rattle.file_blocks.specs.declared.change.Wrote.{Wrote}
use Rattle.file_blocks.specs.Changes.{Change, after_draws, last_number, refs_to}
use Rattle.file_blocks.specs.Objects.{IsObject, blocks_for}

-- on every shelf: an object of this length, references to blocks of it, and a draw for each of them
pub record IsWrote (record_size new_length : ℕ) (salts left : SaltState) (wrote : Wrote) : Type 0 where
  pub object : IsObject record_size wrote.object
  pub bytes : wrote.object.length ≡ new_length
  pub within : wrote.first + length wrote.refs.items ≤ blocks_for record_size new_length
  pub number : wrote.last_number ≡ last_number salts (length wrote.refs.items)
  pub drawn : left ≡ after_draws (length wrote.refs.items) salts

-- where the shelf tells: the references are those to the texts of the change
abbrev pub IsNoted : KeyValue → SaltState → (base : ℕ) → Result Change MacError → Wrote → Type 0
IsNoted key salts base (Ok c) wrote =
    (wrote.first ≡ c.first) × (wrote.refs.items ≡ refs_to key salts base c.texts)
IsNoted key salts base (Err failed) wrote = ⊥
