-- What a snapshot and a clone have when they are made, and later on.
use Rattle.std.proofs.Common.{◌≡◌, ℕ, true, false, List, Option, Some, None, Ok, refl, ap, ◌∙◌}
use Rattle.std.specs.Prelude.{is_none, is_some}
use Rattle.std.specs.List.{All}
use Rattle.std.specs.Option.{option_and_then, option_map}
use Rattle.dataset_tree.specs.declared.refusal.Refusal.{Refusal}
use Rattle.dataset_tree.specs.declared.refusal.Refusal.TheVariants.{NoHead}
use Rattle.family_log.specs.declared.table.Table.{Table}
use Rattle.family_log.specs.declared.head.Head.{Head}
use Rattle.family_log.specs.declared.entry.Spot.{Spot}
use Rattle.family_log.specs.Log.{head_spot, snap_spot}
use Rattle.family_log.specs.Model.{FamilyState, IsFamily, head_of, table_in}
use Rattle.family_log.specs.Snapshots.{IsNewHead, clone_added, snapshot_added, with_guid}
use Rattle.family_log.proofs.SpotLemmas.{clone-made, kept-clone, kept-snapshot, snapshot-made}
use Rattle.snap_clone.specs.Answers.{first_of, is_snapshot, name_refusal, snapshot_answer, unless}
use Rattle.snap_clone.specs.Acts.{Act, Continues, Follows, drops, touches}
use Rattle.snap_clone.proofs.ActLemmas.{always, by_space, last_then, name_is_new, stands, true_is_false}

no_place : (why : Refusal) (name : Option Refusal) → unless (first_of (Some why) name) ≡ Ok tt → ⊥
no_place why name is = cc

-- a snapshot that isn't refused has a head
head_is_there : (family : FamilyState) (head : ℕ) (part : List ℕ) → snapshot_answer head part family ≡ Ok tt
    → is_none (head_of head family.heads) ≡ false
head_is_there family head part is =
    by_space (is_none (head_of head family.heads))
    (λ none. absurd (no_place (NoHead head) (name_refusal head part family) (rw none at is)))
    (λ there. there)

table_there : (found : Option Head) (guid : ℕ) → is_none found ≡ false
    → is_some (option_map (with_guid guid) (option_and_then (λ (head : Head). table_in None head) found)) ≡ true
table_there None guid there = absurd (true_is_false there)
table_there (Some head) guid there = refl

pub snapshot_continues : (acts : List Act) (family later : FamilyState) (head : ℕ) (part : List ℕ) (guid : ℕ) → IsFamily family
    → snapshot_answer head part family ≡ Ok tt → Follows acts (snapshot_added head part guid family) later
    → All (λ (act : Act). drops (snap_spot head part) act ≡ false) acts
    → Continues family (head_spot head) guid later (snap_spot head part)
snapshot_continues acts family later head part guid kept is follows others =
    let made = snapshot_added head part guid family in
    let table = snapshot-made family head part guid kept (name_is_new family head part is) in
    let there : is_snapshot (snap_spot head part) made.heads ≡ true =
    ap (λ (found : Option Table). is_some found) table ∙ table_there (head_of head family.heads) guid (head_is_there family head part is) in
    let keeps = stands acts made later (snap_spot head part) follows there others in
    record {
      table = keeps.table ∙ table;
      last = last_then family.log made.log later.log (head_spot head) (snap_spot head part) (snap_spot head part)
          (kept-snapshot family.log head part) keeps.last;
    }

pub clone_continues : (acts : List Act) (family later : FamilyState) (from : Spot) (head : ℕ) → IsNewHead head family
    → Follows acts (clone_added from head family) later → All (λ (act : Act). touches (head_spot head) act ≡ false) acts
    → Continues family from 0 later (head_spot head)
clone_continues acts family later from head new follows others =
    let made = clone_added from head family in
    let keeps = always acts made later (head_spot head) follows others in
    record {
      table = keeps.table ∙ clone-made family from head new.absent;
      last = last_then family.log made.log later.log from (head_spot head) (head_spot head) (kept-clone family.log from head) keeps.last;
    }
