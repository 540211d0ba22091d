-- What the calls on a host's families say of their answers, and what want of memory leaves.
use Rattle.std.specs.Prelude.{◌≡◌, ℕ, ◌+◌, ◌==◌, ◌⊎◌, if◌then◌else◌, List, Option, None, Some, Result, Ok, Err}
use Rattle.dataset_tree.specs.declared.refusal.Refusal.TheVariants.{NoSnapshot}
use Rattle.dataset_tree.specs.declared.refusal.Stop.{Stop}
use Rattle.dataset_tree.specs.declared.refusal.Stop.TheVariants as stops
use Rattle.encryption_roots.specs.declared.command.KeyCmd.TheVariants as commands
use Rattle.encryption_roots.specs.ById.{at_id, with_id, without_id}
use Rattle.family_log.specs.declared.entry.Spot.{Spot}
use Rattle.family_log.specs.Model.{FamilyState}
use Rattle.family_log.specs.Snapshots.{clone_added}
use Rattle.key_machine.specs.Plain.{Plain}
use Rattle.key_machine.specs.Step.{key_step}
use Rattle.key_machine.specs.Told.{nothing_told}
use Rattle.host_state.specs.SpotLines.{clone_refusal, id_used, without_head}

-- what a call leaves: this, and where memory was wanting what was there before
abbrev pub left_after : {X : Type 0} → Result (Unit {0}) Stop → (before after : X) → X
left_after (Ok done) before after = after
left_after (Err (stops.Refused why)) before after = after
left_after (Err stops.NoMemory) before after = before

-- a clone of a spot of this family is made in the keystore and in the family, or in neither; where memory is wanting an
-- id may be used up
abbrev pub Clones : Result (Unit {0}) Stop → (from name : List ℕ) → Spot → (keys keys_left : Plain)
    → (state state_left : FamilyState) → Type 0
Clones (Ok done) from name spot keys keys_left state state_left =
    (clone_refusal keys from name spot state ≡ None)
    × (keys_left ≡ (key_step keys (commands.Clone from name) nothing_told).state)
    × (state_left ≡ clone_added spot (keys.tree.last + 1) state)
Clones (Err (stops.Refused why)) from name spot keys keys_left state state_left =
    (clone_refusal keys from name spot state ≡ Some why) × (keys_left ≡ keys) × (state_left ≡ state)
Clones (Err stops.NoMemory) from name spot keys keys_left state state_left =
    ((keys_left ≡ keys) ⊎ (keys_left ≡ id_used keys)) × (state_left ≡ state)

-- the same among families, of which the one at this id is the origin's; without it there is no such snapshot
pub record ClonesOne (result : Result (Unit {0}) Stop) (from name : List ℕ) (spot : Spot) (keys keys_left : Plain) (at : ℕ)
    (families left : List (ℕ × FamilyState)) (state : FamilyState) : Type 0 where
  pub state_left : FamilyState
  pub clones : Clones result from name spot keys keys_left state state_left
  pub put : left ≡ with_id at state_left families

abbrev pub ClonesIn : Result (Unit {0}) Stop → (from name : List ℕ) → Spot → (keys keys_left : Plain) → (at : ℕ)
    → (families left : List (ℕ × FamilyState)) → Option FamilyState → Type 0
ClonesIn result from name spot keys keys_left at families left None =
    (result ≡ Err (stops.Refused NoSnapshot)) × (keys_left ≡ keys) × (left ≡ families)
ClonesIn result from name spot keys keys_left at families left (Some state) =
    ClonesOne result from name spot keys keys_left at families left state

-- the families without a head, and without the family at this id where that is its first dataset
abbrev pub head_forgotten : List (ℕ × FamilyState) → (at head : ℕ) → List (ℕ × FamilyState)
head_forgotten families at head =
    if at == head then without_id at families else without_head families at head (at_id at families)
