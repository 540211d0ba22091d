-- The guid of a family stays, over plain variables: for callers.
use Rattle.std.proofs.Common.{◌≡◌, ℕ, Bool, true, false, List, refl, ap, ◌∙◌, Result, Ok, Err}
use Rattle.std.specs.Prelude.{if◌then◌else◌, is_err}
use Rattle.dataset_tree.specs.declared.refusal.Refusal.{Refusal}
use Rattle.dataset_tree.specs.declared.refusal.Stop.{Stop}
use Rattle.dataset_tree.specs.declared.refusal.Stop.TheVariants as stops
use Rattle.block_crypt.specs.Blocks.{KeyValue}
use Rattle.family_log.specs.declared.table.Table.{Table}
use Rattle.family_log.specs.declared.entry.Spot.{Spot}
use Rattle.family_log.specs.Model.{FamilyState}
use Rattle.family_log.specs.Calls.{new_place}
use Rattle.file_dataset.specs.declared.kind.Kind.{Kind}
use Rattle.file_dataset.specs.Calls.{Reads, noted_by, with_note}
use Rattle.file_dataset.specs.ChangeCalls.{Edits, LeavesHead, used, with_refusal}
use Rattle.file_dataset.specs.Changes.{Edit}

chosen : (test : Bool) (one other : FamilyState) (guid : ℕ) → one.guid ≡ guid → other.guid ≡ guid
    → (let family : FamilyState = if test then one else other in family.guid ≡ guid)
chosen true one other guid first second = first
chosen false one other guid first second = second

noted_guid : {X : Type 0} (spot : Spot) (result : Result X Stop) (family : FamilyState) → (noted_by spot result family).guid ≡ family.guid
noted_guid spot result family =
    chosen (is_err (new_place family spot.head)) family (with_note spot result family) family.guid refl (by_result result)
  where
    by_result : {X : Type 0} (result : Result X Stop) → (with_note spot result family).guid ≡ family.guid
    by_result (Ok x) = refl
    by_result (Err (stops.Refused why)) = refl
    by_result (Err stops.NoMemory) = refl

pub guid_read : {X : Type 0} (most : Table → ℕ) (spot : Spot) (result : Result X Stop) (old new : FamilyState) → Reads most spot result old new
    → old.guid ≡ 1 → new.guid ≡ 1
guid_read most spot result old new reads is =
    ap (λ (family : FamilyState). family.guid) reads.left ∙ noted_guid spot result _ ∙ is

left_guid : {X : Type 0} (hmac_key : List ℕ) (head draws puts : ℕ) (result : Result X Stop) (spent new : FamilyState)
    → LeavesHead hmac_key head draws puts result spent new → new.guid ≡ spent.guid
left_guid hmac_key head draws puts (Ok x) spent new left = ap (λ (family : FamilyState). family.guid) left.2
left_guid hmac_key head draws puts (Err (stops.Refused why)) spent new left =
    ap (λ (family : FamilyState). family.guid) left ∙ chosen (is_err (new_place spent head)) spent _ spent.guid refl refl
left_guid hmac_key head draws puts (Err stops.NoMemory) spent new left = ap (λ (family : FamilyState). family.guid) left

pub guid_changed : {X : Type 0} {cost : Table → ℕ} (kind : Kind) (key : KeyValue) (hmac_key : List ℕ) (head : ℕ)
    (edit : (held : List (List ℕ)) → Table → Result Edit Refusal) (numbers : List ℕ) (answer : ℕ → X) (result : Result X Stop)
    (old new : FamilyState) → Edits kind key hmac_key head edit cost numbers answer result old new → old.guid ≡ 1 → new.guid ≡ 1
guid_changed kind key hmac_key head edit numbers answer result old new edits is =
    left_guid hmac_key head edits.draws _ result _ new edits.left ∙ is
