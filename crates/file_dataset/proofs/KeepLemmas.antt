-- A call that changes a head keeps the files of every other spot, and of the head where it is refused.
use Rattle.std.proofs.Common.{◌≡◌, ℕ, zero, suc, Bool, true, false, ◌==◌, ◌&&◌, List, [], ◌∷◌, ◌++◌, length, Option, Some, None, Result, Ok, Err, refl, ap, sym, subst, ◌∙◌}
use Rattle.std.specs.Prelude.{IfSome, OnErr, is_err, is_none, min}
use Rattle.std.specs.Option.{option_eq, option_map}
use Rattle.std.specs.Str.{bytes_eq}
use Rattle.dataset_tree.specs.declared.refusal.Refusal.{Refusal}
use Rattle.dataset_tree.specs.declared.refusal.Stop.{Stop}
use Rattle.dataset_tree.specs.declared.refusal.Stop.TheVariants as stops
use Rattle.block_crypt.specs.Blocks.{KeyValue}
use Rattle.shelf_store.specs.ShelfState.{ShelfState, after_calls, counted}
use Rattle.indirect_macs.specs.Replaced.{with_blocks}
use Rattle.family_log.specs.declared.table.Table.{Table}
use Rattle.family_log.specs.declared.entry.Spot.{Spot}
use Rattle.family_log.specs.declared.entry.HeadChange.{HeadChange}
use Rattle.family_log.specs.declared.entry.LogEntry.{LogEntry}
use Rattle.family_log.specs.declared.entry.LogEntry.TheVariants.{Make, Write, Cut, Remove, Receive, Snapshot, Clone, Read, Refused}
use Rattle.family_log.specs.Calls.{new_place, with_change}
use Rattle.family_log.specs.Log.{KeepsLast, changed_head, head_spot, is_head}
use Rattle.family_log.specs.Model.{FamilyState}
use Rattle.family_log.specs.Snapshots.{is_about, same_spot}
use Rattle.family_log.proofs.SpotLemmas.{kept-one}
use Rattle.file_dataset.specs.ChangeCalls.{Edits, LeavesHead, if_fault, used, with_refusal}
use Rattle.file_dataset.specs.Changes.{Edit}
use Rattle.file_dataset.specs.declared.kind.Kind.{Kind}
use Rattle.file_dataset.specs.declared.limits.TheConstants.{MAX_PUTS}
use Rattle.file_dataset.specs.Edits.{Files}
use Rattle.file_dataset.specs.Files.{KeepsFiles, KeepsOthers, files}
use Rattle.file_dataset.proofs.FileLists.{by_space}
use Rattle.file_dataset.proofs.FilesLemmas.{keeps_files}

-- ---- what an entry is about

none_alike : (snap : Option (List ℕ)) → is_none snap ≡ option_eq bytes_eq snap None
none_alike None = refl
none_alike (Some part) = refl

is_head-same : (head : ℕ) (spot : Spot) → is_head head spot ≡ same_spot spot (head_spot head)
is_head-same head spot = ap (λ (b : Bool). spot.head == head && b) (none_alike spot.snap)

-- a change of a head is about no other spot
about_head : (spot : Spot) (entry : LogEntry) (head : ℕ) → changed_head entry ≡ Some head → same_spot spot (head_spot head) ≡ false
    → is_about spot entry ≡ false
about_head spot (Make of_head lengths refs) head is other =
    let same : of_head ≡ head = cc in ap (λ (h : ℕ). is_head h spot) same ∙ is_head-same head spot ∙ other
about_head spot (Write of_head lengths refs) head is other =
    let same : of_head ≡ head = cc in ap (λ (h : ℕ). is_head h spot) same ∙ is_head-same head spot ∙ other
about_head spot (Cut of_head lengths refs) head is other =
    let same : of_head ≡ head = cc in ap (λ (h : ℕ). is_head h spot) same ∙ is_head-same head spot ∙ other
about_head spot (Remove of_head lengths refs) head is other =
    let same : of_head ≡ head = cc in ap (λ (h : ℕ). is_head h spot) same ∙ is_head-same head spot ∙ other
about_head spot (Receive of_head lengths refs) head is other =
    let same : of_head ≡ head = cc in ap (λ (h : ℕ). is_head h spot) same ∙ is_head-same head spot ∙ other
about_head spot (Snapshot of_head part) head is other = absurd (cc)
about_head spot (Clone from of_head) head is other = absurd (cc)
about_head spot (Read of_spot) head is other = refl
about_head spot (Refused of_spot why draws puts) head is other = refl

-- ---- what is used of a shelf

pub placed_still : (calls : ℕ) (s : ShelfState) → (after_calls calls s).placed ≡ s.placed
placed_still zero s = refl
placed_still (suc calls) s = placed_still calls (counted s)

-- ---- what a call leaves

-- a spot's record size, what the log tells of it, and the shelf
pub record Keeps (spot : Spot) (spent new : FamilyState) : Type 0 where
  pub block : new.block ≡ spent.block
  pub last : KeepsLast spent.log spot new.log spot
  pub shelf : new.shelf ≡ spent.shelf

keeps_all : (spot : Spot) (spent new : FamilyState) → new ≡ spent → Keeps spot spent new
keeps_all spot spent new same =
    subst (λ (f : FamilyState). Keeps spot spent f) (sym same)
    (record { block = refl; last = record { lengths = λ object. refl; refs = λ record_size object index. refl }; shelf = refl })

keeps_changed : (spot : Spot) (head : ℕ) (change : HeadChange) (spent new : FamilyState) → changed_head change.entry ≡ Some head
    → same_spot spot (head_spot head) ≡ false → new ≡ with_change head change spent → Keeps spot spent new
keeps_changed spot head change spent new of_head other same =
    subst (λ (f : FamilyState). Keeps spot spent f) (sym same)
    (record { block = refl; last = kept-one spent.log change.entry spot (about_head spot change.entry head of_head other); shelf = refl })

keeps_refused : (spot : Spot) (head : ℕ) (why : Refusal) (draws puts : ℕ) (spent new : FamilyState) → new ≡ with_refusal head why draws puts spent
    → Keeps spot spent new
keeps_refused spot head why draws puts spent new same =
    by_space (is_err (new_place spent head))
    (λ none. keeps_all spot spent new (rw none at same))
    (λ added. subst (λ (f : FamilyState). Keeps spot spent f) (sym (rw added at same))
    (record {
      block = refl;
      last = kept-one spent.log (Refused (head_spot head) why (if_fault why draws) (if_fault why (min puts MAX_PUTS))) spot refl;
      shelf = refl;
    }))

leaves_others : {X : Type 0} (hmac_key : List ℕ) (head draws puts : ℕ) (result : Result X Stop) (spent new : FamilyState) (spot : Spot)
    → LeavesHead hmac_key head draws puts result spent new → same_spot spot (head_spot head) ≡ false → Keeps spot spent new
leaves_others hmac_key head draws puts (Ok x) spent new spot left other = keeps_changed spot head left.0 spent new left.1.told.of_head other left.2
leaves_others hmac_key head draws puts (Err (stops.Refused why)) spent new spot left other = keeps_refused spot head why draws puts spent new left
leaves_others hmac_key head draws puts (Err stops.NoMemory) spent new spot left other = keeps_all spot spent new left

leaves_refused : (X : Type 0) (hmac_key : List ℕ) (head draws puts : ℕ) (stop : Stop) (spent new : FamilyState) (spot : Spot)
    → LeavesHead {X = X} hmac_key head draws puts (Err stop) spent new → Keeps spot spent new
leaves_refused X hmac_key head draws puts (stops.Refused why) spent new spot left = keeps_refused spot head why draws puts spent new left
leaves_refused X hmac_key head draws puts stops.NoMemory spent new spot left = keeps_all spot spent new left

-- behind what was used of a family
keeps_used : (key : KeyValue) (spot : Spot) (calls draws : ℕ) (put : List (List ℕ)) (old new : FamilyState) → Keeps spot (used calls put draws old) new
    → KeepsFiles key spot old new
keeps_used key spot calls draws put old new keeps =
    keeps_files key spot put old new keeps.block keeps.last
    (ap (λ (s : ShelfState). s.placed) keeps.shelf ∙ placed_still calls (with_blocks put old.shelf))

-- ---- a call

pub edits_keep_others : {X : Type 0} {cost : Table → ℕ} (kind : Kind) (key : KeyValue) (hmac_key : List ℕ) (head : ℕ) (edit : List (List ℕ) → Table → Result Edit Refusal)
    (numbers : List ℕ) (answer : ℕ → X) (result : Result X Stop) (old new : FamilyState)
    → Edits kind key hmac_key head edit cost numbers answer result old new → KeepsOthers key head old new
edits_keep_others kind key hmac_key head edit numbers answer result old new edits = λ spot other.
    keeps_used key spot edits.calls edits.draws edits.put old new
    (leaves_others hmac_key head edits.draws (length edits.put) result (used edits.calls edits.put edits.draws old) new spot edits.left other)

pub refused_edits_keep : {X : Type 0} {cost : Table → ℕ} (kind : Kind) (key : KeyValue) (hmac_key : List ℕ) (head : ℕ) (edit : List (List ℕ) → Table → Result Edit Refusal)
    (numbers : List ℕ) (answer : ℕ → X) (result : Result X Stop) (old new : FamilyState)
    → Edits kind key hmac_key head edit cost numbers answer result old new → OnErr result (KeepsFiles key (head_spot head) old new)
refused_edits_keep kind key hmac_key head edit numbers answer (Ok x) old new edits = tt
refused_edits_keep {X = X} kind key hmac_key head edit numbers answer (Err stop) old new edits =
    keeps_used key (head_spot head) edits.calls edits.draws edits.put old new
    (leaves_refused X hmac_key head edits.draws (length edits.put) stop (used edits.calls edits.put edits.draws old) new (head_spot head) edits.left)

-- ---- nothing was done

pub kept_still : (key : KeyValue) (spot : Spot) (family : FamilyState) → KeepsFiles key spot family family
kept_still key spot family = by_files (files key family spot) refl
  where
    by_files : (found : Option Files) → files key family spot ≡ found → IfSome found (λ before. files key family spot ≡ Some before)
    by_files None same = tt
    by_files (Some all) same = same

pub others_still : (key : KeyValue) (head : ℕ) (family : FamilyState) → KeepsOthers key head family family
others_still key head family = λ spot other. kept_still key spot family
