-- What the calls answer and leave on a family whose shelf tells what it holds and has no failure armed: unless memory
-- runs out, both follow from the family.
use Rattle.std.specs.Prelude.{ℕ, ◌+◌, ◌≤◌, ◌≡◌, min, nat_lt, if◌then◌else◌, List, [], ◌∷◌, length, sum, None, IsSome, Result, Ok, Err, ⊤}
use Rattle.std.specs.Option.{option_map_or}
use Rattle.std.specs.Result.{result_map_both}
use Rattle.dataset_tree.specs.declared.refusal.Refusal.{Refusal}
use Rattle.dataset_tree.specs.declared.refusal.Refusal.TheVariants as refusals
use Rattle.dataset_tree.specs.declared.refusal.Stop.{Stop}
use Rattle.dataset_tree.specs.declared.refusal.Stop.TheVariants as stops
use Rattle.block_crypt.specs.Blocks.{KeyValue}
use Rattle.salt_rotation.specs.declared.salts.TheConstants.{MAX_DRAWS}
use Rattle.shelf_store.specs.declared.shelf.TheConstants.{SHELF_BYTES}
use Rattle.shelf_store.specs.ShelfState.{ShelfState}
use Rattle.family_log.specs.declared.table.Table.{Table}
use Rattle.family_log.specs.declared.entry.HeadChange.{HeadChange}
use Rattle.family_log.specs.declared.entry.Spot.{Spot}
use Rattle.family_log.specs.Log.{head_spot}
use Rattle.family_log.specs.Model.{FamilyState}
use Rattle.family_log.specs.Calls.{with_change}
use Rattle.file_dataset.specs.declared.kind.Kind.{Kind}
use Rattle.file_dataset.specs.declared.kind.Kind.TheVariants as kinds
use Rattle.file_dataset.specs.declared.wrote.Wrote.{Wrote}
use Rattle.file_dataset.specs.Calls.{answered_at, noted_by}
use Rattle.file_dataset.specs.ChangeCalls.{used, with_refusal, wrote_by}
use Rattle.file_dataset.specs.Changes.{Edit, change_by, cut_edit, edit_draws, edit_puts, if_read, make_edit, remove_edit, write_edit}

-- the shelf tells what it holds, no failure of it is armed, and no more draws were made than there are
pub record IsSteady (family : FamilyState) : Type 0 where
  pub armed : family.shelf.armed ≡ None
  pub held : IsSome family.shelf.held
  pub drawn : family.salts.made ≤ MAX_DRAWS

-- the blocks that a shelf holds, none where it doesn't tell them
abbrev pub held_by : ShelfState → List (List ℕ)
held_by shelf = option_map_or (λ blocks. blocks) shelf.held []

-- what a call answers, and the family after it
pub record Called (X : Type 0) : Type 0 where
  pub answer : Result X Refusal
  pub family : FamilyState

-- ---- calls that read

-- the family with the entry of this answer
abbrev pub with_answer : {X : Type 0} → Spot → Result X Refusal → FamilyState → FamilyState
with_answer spot answer family =
    noted_by spot (result_map_both (λ x. x) (λ why. stops.Refused why) answer) family

-- a call that answers what a spot's table and the held blocks give
abbrev pub called_read : {X : Type 0} → (answer : (held : List (List ℕ)) → Table → Result X Refusal) → Spot
    → FamilyState → Called X
called_read answer spot family = record {
  answer = answered_at (answer (held_by family.shelf)) family spot;
  family = with_answer spot (answered_at (answer (held_by family.shelf)) family spot) family;
}

-- ---- calls that change a head

-- how such a call ends: what of its blocks is put, how many draws are made, and the change, or why there is none
pub record Ending : Type 0 where
  pub put : List (List ℕ)
  pub draws : ℕ
  pub change : Result HeadChange Refusal

-- of these blocks the front that fits on a shelf behind so many bytes
unfoldable pub fitting : (bytes : ℕ) → List (List ℕ) → List (List ℕ)
fitting bytes [] = []
fitting bytes (block ∷ blocks) =
    if nat_lt SHELF_BYTES (bytes + length block) then [] else block ∷ fitting (bytes + length block) blocks

-- the change is made where all blocks are put. Before the first that isn't, each of those that are sealed has its draw,
-- and so has that one
abbrev pub ended_at : (put puts : List (List ℕ)) → (draws : ℕ) → HeadChange → Ending
ended_at put puts draws change = record {
  put = put;
  draws = min draws (length put + 1);
  change = if nat_lt (length put) (length puts) then Err (refusals.Full SHELF_BYTES) else Ok change;
}

abbrev pub unput : Refusal → Ending
unput why = record { put = []; draws = 0; change = Err why }

-- nothing is put for a change that is refused, or for which too few draws are left; else what fits
abbrev pub ending_of : FamilyState → Result HeadChange Refusal → (puts : List (List ℕ)) → (draws : ℕ) → Ending
ending_of family (Err why) puts draws = unput why
ending_of family (Ok change) puts draws =
    if nat_lt MAX_DRAWS (family.salts.made + draws) then unput (refusals.Full MAX_DRAWS)
    else ended_at (fitting (sum family.shelf.sizes) puts) puts draws change

-- the change of a head by an edit, or why it can't be edited so
abbrev pub change_at : Kind → KeyValue → (hmac_key : List ℕ) → (head : ℕ)
    → (edit : (held : List (List ℕ)) → Table → Result Edit Refusal) → FamilyState → Result HeadChange Refusal
change_at kind key hmac_key head edit family =
    let held = held_by family.shelf in
    answered_at
    (λ table. if_read (change_by kind key hmac_key family.salts held (length family.shelf.sizes) head table)
    (edit held table)) family (head_spot head)

abbrev pub edit_ending : Kind → KeyValue → (hmac_key : List ℕ) → (head : ℕ)
    → (edit : (held : List (List ℕ)) → Table → Result Edit Refusal) → FamilyState → Ending
edit_ending kind key hmac_key head edit family =
    let held = held_by family.shelf in
    let edited = answered_at (edit held) family (head_spot head) in
    ending_of family (change_at kind key hmac_key head edit family)
    (edit_puts key family.salts held (length family.shelf.sizes) edited) (edit_draws edited)

-- the head is changed and the log tells it, or head and log are as before but for the entry of the refusal
abbrev pub with_ending : (head draws puts : ℕ) → Result HeadChange Refusal → FamilyState → FamilyState
with_ending head draws puts (Ok change) spent = with_change head change spent
with_ending head draws puts (Err why) spent = with_refusal head why draws puts spent

-- a call that ends so, and answers this for its draws
abbrev pub ended_by : {X : Type 0} → (head : ℕ) → (answer : ℕ → X) → Ending → FamilyState → Called X
ended_by head answer ending family = record {
  answer = result_map_both (λ _. answer ending.draws) (λ why. why) ending.change;
  family = with_ending head ending.draws (length ending.put) ending.change (used 0 ending.put ending.draws family);
}

abbrev pub called_edit : {X : Type 0} → Kind → KeyValue → (hmac_key : List ℕ) → (head : ℕ)
    → (edit : (held : List (List ℕ)) → Table → Result Edit Refusal) → (answer : ℕ → X) → FamilyState → Called X
called_edit kind key hmac_key head edit answer family =
    ended_by head answer (edit_ending kind key hmac_key head edit family) family

-- the four calls, under a master key's block key and HMAC key
abbrev pub called_make : KeyValue → (hmac_key : List ℕ) → (head : ℕ) → (name : List ℕ) → FamilyState → Called (Unit {0})
called_make key hmac_key head name family =
    called_edit kinds.Make key hmac_key head (make_edit key hmac_key name) (λ _. tt) family

abbrev pub called_write : KeyValue → (hmac_key : List ℕ) → (head : ℕ) → (name : List ℕ) → (from : ℕ)
    → (bytes : List ℕ) → FamilyState → Called Wrote
called_write key hmac_key head name from bytes family =
    called_edit kinds.Write key hmac_key head (write_edit key hmac_key name from bytes) (wrote_by family.salts) family

abbrev pub called_cut : KeyValue → (hmac_key : List ℕ) → (head : ℕ) → (name : List ℕ) → (to : ℕ) → FamilyState
    → Called (Unit {0})
called_cut key hmac_key head name to family =
    called_edit kinds.Cut key hmac_key head (cut_edit key hmac_key name to) (λ _. tt) family

abbrev pub called_remove : KeyValue → (hmac_key : List ℕ) → (head : ℕ) → (name : List ℕ) → FamilyState
    → Called (Unit {0})
called_remove key hmac_key head name family =
    called_edit kinds.Remove key hmac_key head (remove_edit key hmac_key name) (λ _. tt) family

-- ---- what calls do

-- a call answers so, seen so, and leaves this family, unless memory ran out
abbrev pub Does : {X Y : Type 0} → (X → Y) → Result X Stop → FamilyState → Called Y → Type 0
Does sees (Ok x) new called = (called.answer ≡ Ok (sees x)) × (new ≡ called.family)
Does sees (Err (stops.Refused why)) new called = (called.answer ≡ Err why) × (new ≡ called.family)
Does sees (Err stops.NoMemory) new called = ⊤

-- and the family is steady, also where memory ran out
pub record IsCalled {X Y : Type 0} (sees : X → Y) (result : Result X Stop) (new : FamilyState) (called : Called Y)
    : Type 0 where
  pub steady : IsSteady new
  pub does : Does sees result new called

-- ---- samples

-- so, on a shelf with room for two bytes more, and before the first draw
abbrev pub nearly_full : FamilyState → FamilyState
nearly_full family = record family {
  salts = record family.salts { made = 0 };
  shelf = record family.shelf { sizes = 33554430 ∷ [] };
}
