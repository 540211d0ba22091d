-- Calls on a family whose shelf tells what it holds and has no failure armed, over plain variables.
use Rattle.std.proofs.Common.{◌≡◌, ℕ, zero, suc, ◌+◌, ◌<◌, ◌≤◌, ◌⊎◌, ◌↔◌, Bool, true, false, nat_lt, List, [], ◌∷◌, ◌++◌, length, map, refl, sym, ap, subst, ◌∙◌, inl, inr, arith, append-nil, length-append, Option, Some, None, Result, Ok, Err, if◌then◌else◌}
use Rattle.std.specs.Prelude.{IfErr, IfSome, IsOk, IsSome, is_err, min, sum}
use Rattle.std.specs.List.{fold}
use Rattle.std.specs.Option.{option_map, option_map_or}
use Rattle.std.proofs.lemmas.List.Sums.{fold-append, sum_by_from}
use Rattle.dataset_tree.specs.declared.refusal.Refusal.{Refusal}
use Rattle.dataset_tree.specs.declared.refusal.Refusal.TheVariants as refusals
use Rattle.dataset_tree.specs.declared.refusal.Stop.{Stop}
use Rattle.dataset_tree.specs.declared.refusal.Stop.TheVariants as stops
use Rattle.block_crypt.specs.Blocks.{KeyValue}
use Rattle.salt_rotation.specs.declared.salts.TheConstants.{MAX_DRAWS}
use Rattle.shelf_store.specs.declared.shelf.TheConstants.{SHELF_BYTES}
use Rattle.shelf_store.specs.ShelfState.{HasToldSizes, ShelfState, after_calls, armed_after, counted, faults_after, is_due}
use Rattle.shelf_store.proofs.ArmingLaws.{armed_after-None, faults_after-idle}
use Rattle.indirect_macs.specs.Calls.{fails_within}
use Rattle.indirect_macs.specs.Replaced.{IsTooMuch, with_blocks}
use Rattle.family_log.specs.declared.table.Table.{Table}
use Rattle.family_log.specs.declared.entry.HeadChange.{HeadChange}
use Rattle.family_log.specs.declared.entry.Spot.{Spot}
use Rattle.family_log.specs.declared.entry.LogEntry.{LogEntry}
use Rattle.family_log.specs.Log.{head_spot}
use Rattle.family_log.specs.Model.{FamilyState, table_of}
use Rattle.family_log.specs.Calls.{new_place, with_change, with_entry}
use Rattle.file_blocks.specs.Changes.{AreDraws, after_draws, nodes_in}
use Rattle.file_blocks.proofs.Sealing.{sealed_size}
use Rattle.file_dataset.specs.declared.kind.Kind.{Kind}
use Rattle.file_dataset.specs.Calls.{Answers, IsRefusedBefore, Reads, TellsFault, answered_at, noted_by, with_note}
use Rattle.file_dataset.specs.ChangeCalls.{Edits, IsCause, IsToldEdit, refused_edit, used, with_refusal}
use Rattle.file_dataset.specs.Changes.{Edit, change_by, edit_draws, edit_puts, if_read}
use Rattle.file_dataset.specs.Reads.{then_read}
use Rattle.file_dataset.specs.Steady.{Does, Ending, IsCalled, IsSteady, called_edit, called_read, change_at, edit_ending, ended_by, ending_of, fitting, held_by, unput}

-- ---- nothing is armed

idle_same : (s : ShelfState) → s.armed ≡ None → counted s ≡ s
idle_same s none =
    let armed : armed_after s.armed ≡ s.armed = rw none armed_after-None in
    let faults : faults_after s.armed s.faults ≡ s.faults = faults_after-idle s.armed s.faults (rw none refl) in
    λ i. record s { faults = faults i; armed = armed i }

pub idle_stays : (calls : ℕ) (s : ShelfState) → s.armed ≡ None → after_calls calls s ≡ s
idle_stays zero s none = refl
idle_stays (suc calls) s none = ap (after_calls calls) (idle_same s none) ∙ idle_stays calls s none

pub idle_fails : (calls : ℕ) (armed : Option ℕ) → armed ≡ None → fails_within calls armed ≡ false
idle_fails zero armed none = refl
idle_fails (suc calls) armed none =
    let due : is_due armed ≡ false = rw none refl in
    let rest : fails_within calls (armed_after armed) ≡ false = idle_fails calls (armed_after armed) (ap armed_after none ∙ armed_after-None) in
    rw (due, rest) refl

pub no_fault : (calls : ℕ) (armed : Option ℕ) (why : Refusal) → armed ≡ None
    → ((why ≡ refusals.ShelfFault) ↔ (fails_within calls armed ≡ true)) → why ≡ refusals.ShelfFault → ⊥
no_fault calls armed why none tells same =
    let failed : fails_within calls armed ≡ true = tells.0 same in
    absurd (true_false (sym failed ∙ idle_fails calls armed none))
  where
    true_false : true ≡ false → ⊥
    true_false same = absurd (cc)

pub told_at : (P : List (List ℕ) → Type 0) (held : Option (List (List ℕ))) → IsSome held → IfSome held P
    → P (option_map_or (λ blocks. blocks) held [])
told_at P None some told = absurd (cc)
told_at P (Some held) some told = told

-- ---- calls that read

steady_entry : {X : Type 0} (spot : Spot) (result : Result X Stop) (family : FamilyState) → IsSteady family
    → IsSteady (noted_by spot result family)
steady_entry {X = X} spot result family steady = by_place (is_err (new_place family spot.head)) (by_result result)
  where
    by_result : (result : Result X Stop) → IsSteady (with_note spot result family)
    by_result (Ok x) = record { armed = steady.armed; held = steady.held; drawn = steady.drawn }
    by_result (Err (stops.Refused why)) = record { armed = steady.armed; held = steady.held; drawn = steady.drawn }
    by_result (Err stops.NoMemory) = steady

    by_place : (none : Bool) → IsSteady (with_note spot result family)
        → IsSteady (if none then family else with_note spot result family)
    by_place true noted = steady
    by_place false noted = noted

read_does : {X Y : Type 0} (sees : X → Y) (answer : List (List ℕ) → Table → Result Y Refusal) (calls : ℕ) (spot : Spot)
    (result : Result X Stop) (old new : FamilyState) → IsSteady old → TellsFault (fails_within calls old.shelf.armed) result
    → Answers sees (answered_at (answer (held_by old.shelf)) old spot) result → new ≡ noted_by spot result old
    → Does sees result new (called_read answer spot old)
read_does sees answer calls spot (Ok x) old new steady fault is left = (is, rw is left)
read_does sees answer calls spot (Err (stops.Refused why)) old new steady fault (inl failed) left =
    absurd (no_fault calls old.shelf.armed why steady.armed fault failed)
read_does sees answer calls spot (Err (stops.Refused why)) old new steady fault (inr is) left = (is, rw is left)
read_does sees answer calls spot (Err stops.NoMemory) old new steady fault is left = tt

pub read_called : {X Y : Type 0} (sees : X → Y) (answer : List (List ℕ) → Table → Result Y Refusal) (most : Table → ℕ) (spot : Spot)
    (result : Result X Stop) (old new : FamilyState) → IsSteady old → Reads most spot result old new
    → IfSome old.shelf.held (λ held. Answers sees (answered_at (answer held) old spot) result)
    → IsCalled sees result new (called_read answer spot old)
read_called sees answer most spot result old new steady reads told =
    let is : Answers sees (answered_at (answer (held_by old.shelf)) old spot) result =
    told_at (λ (held : List (List ℕ)). Answers sees (answered_at (answer held) old spot) result) old.shelf.held steady.held told in
    let same = idle_stays reads.calls old.shelf steady.armed in
    let left : new ≡ noted_by spot result old =
    reads.left ∙ ap (λ (shelf : ShelfState). noted_by spot result (record old { shelf = shelf })) same in
    record {
      steady = subst IsSteady (sym left) (steady_entry spot result old steady);
      does = read_does sees answer reads.calls spot result old new steady reads.fault is left;
    }

-- ---- what fits

fits_from : (bytes : ℕ) (blocks : List (List ℕ)) → bytes ≤ fold (λ a x. a + x) bytes (map length blocks)
fits_from bytes blocks =
    let total = sum_by_from (λ (x : ℕ). x) bytes (map length blocks) in
    omega (arith, total)

front_fits : (bytes : ℕ) (put rest : List (List ℕ)) → fold (λ a x. a + x) bytes (map length put) ≤ SHELF_BYTES
    → fitting bytes (put ++ rest) ≡ put ++ fitting (fold (λ a x. a + x) bytes (map length put)) rest
unfolding fitting
front_fits bytes [] rest fits = refl
front_fits bytes (block ∷ put) rest fits =
    let first = fits_from (bytes + length block) put in
    let few : bytes + length block ≤ SHELF_BYTES = omega (arith, first, fits) in
    let no_more : nat_lt SHELF_BYTES (bytes + length block) ≡ false = grind (arith, few) in
    rw no_more (ap (λ (blocks : List (List ℕ)). block ∷ blocks) (front_fits (bytes + length block) put rest fits))

sum_behind : (sizes : List ℕ) (put : List (List ℕ))
    → sum (sizes ++ map length put) ≡ fold (λ a x. a + x) (sum sizes) (map length put)
sum_behind sizes put = fold-append (λ (a x : ℕ). a + x) 0 sizes (map length put)

all_fit : (sizes : List ℕ) (put : List (List ℕ)) → sum (sizes ++ map length put) ≤ SHELF_BYTES → fitting (sum sizes) put ≡ put
unfolding fitting
all_fit sizes put fits =
    ap (fitting (sum sizes)) (sym (append-nil put))
    ∙ front_fits (sum sizes) put [] (subst (λ (n : ℕ). n ≤ SHELF_BYTES) (sum_behind sizes put) fits)
    ∙ nothing_more (fold (λ a x. a + x) (sum sizes) (map length put))
  where
    nothing_more : (bytes : ℕ) → put ++ fitting bytes [] ≡ put
    nothing_more bytes = append-nil put

none_fits : (bytes : ℕ) (rest : List (List ℕ)) (s : ShelfState) → sum s.sizes ≡ bytes → IsTooMuch rest s → fitting bytes rest ≡ []
unfolding fitting
none_fits bytes [] s same much = refl
none_fits bytes (block ∷ rest) s same much =
    let more : SHELF_BYTES < bytes + length block = omega (arith, same, much) in
    let test : nat_lt SHELF_BYTES (bytes + length block) ≡ true = grind (arith, more) in
    rw test refl

front_fitting : (put rest : List (List ℕ)) (s : ShelfState) → sum (s.sizes ++ map length put) ≤ SHELF_BYTES
    → IsTooMuch rest (with_blocks put s) → fitting (sum s.sizes) (put ++ rest) ≡ put
front_fitting put rest s fits much =
    let at = sum_behind s.sizes put in
    front_fits (sum s.sizes) put rest (subst (λ (n : ℕ). n ≤ SHELF_BYTES) at fits)
    ∙ ap (λ (blocks : List (List ℕ)). put ++ blocks) (none_fits (fold (λ a x. a + x) (sum s.sizes) (map length put)) rest (with_blocks put s) at much)
    ∙ append-nil put

-- ---- how a change ends

enough_left : (made count : ℕ) → made + count ≤ MAX_DRAWS → nat_lt MAX_DRAWS (made + count) ≡ false
enough_left made count few = grind (arith, few)

pub ending_made : (family : FamilyState) (change : HeadChange) (put : List (List ℕ)) (count draws : ℕ)
    → family.salts.made + count ≤ MAX_DRAWS → sum (family.shelf.sizes ++ map length put) ≤ SHELF_BYTES
    → count ≤ length put → AreDraws count (length put) draws
    → ending_of family (Ok change) put count ≡ record { put = put; draws = draws; change = Ok change }
ending_made family change put count draws enough fits many counted =
    let all = all_fit family.shelf.sizes put fits in
    let whole : nat_lt (length put) (length put) ≡ false = grind arith in
    let drawn : min count (length put + 1) ≡ draws = omega (arith, counted.low, counted.high, many) in
    rw (enough_left family.salts.made count enough, all, whole, drawn) refl

pub ending_crowded : (family : FamilyState) (change : HeadChange) (put rest : List (List ℕ)) (count draws : ℕ)
    → family.salts.made + count ≤ MAX_DRAWS → sum (family.shelf.sizes ++ map length put) ≤ SHELF_BYTES
    → IsTooMuch rest (with_blocks put family.shelf) → draws ≡ min count (length put + 1)
    → ending_of family (Ok change) (put ++ rest) count
    ≡ record { put = put; draws = draws; change = Err (refusals.Full SHELF_BYTES) }
ending_crowded family change put rest count draws enough fits much drawn =
    let front = front_fitting put rest family.shelf fits much in
    rw (enough_left family.salts.made count enough, front, shorter rest much, drawn) refl
  where
    shorter : (rest : List (List ℕ)) → IsTooMuch rest (with_blocks put family.shelf) → nat_lt (length put) (length (put ++ rest)) ≡ true
    shorter [] much = absurd much
    shorter (block ∷ rest) much =
        let long : length (put ++ block ∷ rest) ≡ length put + suc (length rest) = length-append put (block ∷ rest) in
        let more : length put < length (put ++ block ∷ rest) = omega (arith, long) in
        grind (arith, more)

pub ending_drained : (family : FamilyState) (change : HeadChange) (puts : List (List ℕ)) (count : ℕ)
    → MAX_DRAWS < family.salts.made + count → ending_of family (Ok change) puts count ≡ unput (refusals.Full MAX_DRAWS)
ending_drained family change puts count more =
    let test : nat_lt MAX_DRAWS (family.salts.made + count) ≡ true = grind (arith, more) in
    rw test refl

-- ---- what a table gives

same_err : {Y Z : Type 0} (a b : Refusal) → (let first : Result Y Refusal = Err a in first ≡ Err b)
    → (let second : Result Z Refusal = Err a in second ≡ Err b)
same_err {Y = Y} {Z = Z} a b same = ap (λ (why : Refusal). let r : Result Z Refusal = Err why in r) (inside same)
  where
    inside : (let first : Result Y Refusal = Err a in first ≡ Err b) → a ≡ b
    inside same = cc

read_err : {Y Z : Type 0} (make : Y → Z) (found : Result Y Refusal) (why : Refusal) → found ≡ Err why → if_read make found ≡ Err why
read_err make (Ok y) why is = absurd (cc)
read_err {Y = Y} {Z = Z} make (Err other) why is = same_err {Y = Y} {Z = Z} other why is

at_err : {Y Z : Type 0} (make : Table → Y → Z) (answer : Table → Result Y Refusal) (place : Result ℕ Refusal) (found : Option Table) (why : Refusal)
    → then_read (λ _. option_map_or answer found (Err refusals.NoSnapshot)) place ≡ Err why
    → then_read (λ _. option_map_or (λ table. if_read (make table) (answer table)) found (Err refusals.NoSnapshot)) place ≡ Err why
at_err {Y = Y} {Z = Z} make answer (Err other) found why is = same_err {Y = Y} {Z = Z} other why is
at_err {Y = Y} {Z = Z} make answer (Ok at) None why is = same_err {Y = Y} {Z = Z} refusals.NoSnapshot why is
at_err make answer (Ok at) (Some table) why is = read_err (make table) (answer table) why is

at_ok : {Y Z : Type 0} (make : Table → Y → Z) (answer : Table → Result Y Refusal) (place : Result ℕ Refusal) (found : Option Table) (y : Y)
    → then_read (λ _. option_map_or answer found (Err refusals.NoSnapshot)) place ≡ Ok y
    → (z : Z) × (then_read (λ _. option_map_or (λ table. if_read (make table) (answer table)) found (Err refusals.NoSnapshot)) place ≡ Ok z)
at_ok make answer (Err other) found y is = absurd (cc)
at_ok make answer (Ok at) None y is = absurd (cc)
at_ok make answer (Ok at) (Some table) y is = (make table y, ap (if_read (make table)) is)

there_is : {Y : Type 0} (answer : Table → Result Y Refusal) (place : Result ℕ Refusal) (found : Option Table) (table : Table)
    → is_err place ≡ false → found ≡ Some table
    → then_read (λ _. option_map_or answer found (Err refusals.NoSnapshot)) place ≡ answer table
there_is answer (Err other) found table there is = absurd (cc)
there_is answer (Ok at) found table there is = rw is refl

-- ---- calls that change a head

spent_same : (calls : ℕ) (put : List (List ℕ)) (draws : ℕ) (old : FamilyState) → IsSteady old
    → used calls put draws old ≡ used 0 put draws old
spent_same calls put draws old steady =
    ap (λ (shelf : ShelfState). let family : FamilyState = record old { salts = after_draws draws old.salts; shelf = shelf } in family)
    (idle_stays calls (with_blocks put old.shelf) steady.armed)

steady_spent : (put : List (List ℕ)) (draws : ℕ) (old : FamilyState) → IsSteady old → old.salts.made + draws ≤ MAX_DRAWS
    → IsSteady (used 0 put draws old)
steady_spent put draws old steady few =
    record { armed = steady.armed; held = still old.shelf.held steady.held; drawn = few }
  where
    still : (held : Option (List (List ℕ))) → IsSome held → IsSome (option_map (λ before. before ++ put) held)
    still None some = absurd (cc)
    still (Some held) some = refl

steady_change : (head : ℕ) (change : HeadChange) (family : FamilyState) → IsSteady family → IsSteady (with_change head change family)
steady_change head change family steady = record { armed = steady.armed; held = steady.held; drawn = steady.drawn }

steady_unless : (none : Bool) (entry : LogEntry) (family : FamilyState) → IsSteady family
    → IsSteady (if none then family else with_entry entry family)
steady_unless true entry family steady = steady
steady_unless false entry family steady = record { armed = steady.armed; held = steady.held; drawn = steady.drawn }

steady_refusal : (head : ℕ) (why : Refusal) (draws puts : ℕ) (family : FamilyState) → IsSteady family
    → IsSteady (with_refusal head why draws puts family)
steady_refusal head why draws puts family steady = steady_unless (is_err (new_place family head)) _ family steady

shelf_unless : (none : Bool) (entry : LogEntry) (family : FamilyState)
    → (if none then family else with_entry entry family).shelf ≡ family.shelf
shelf_unless true entry family = refl
shelf_unless false entry family = refl

refusal_shelf : (head : ℕ) (why : Refusal) (draws puts : ℕ) (family : FamilyState) → (with_refusal head why draws puts family).shelf ≡ family.shelf
refusal_shelf head why draws puts family = shelf_unless (is_err (new_place family head)) _ family

draws_left : (made count puts draws : ℕ) → AreDraws count puts draws → (draws ≡ 0) ⊎ (made + count ≤ MAX_DRAWS) → made ≤ MAX_DRAWS
    → made + draws ≤ MAX_DRAWS
draws_left made count puts draws counted (inl none) few = omega (arith, none, few)
draws_left made count puts draws counted (inr enough) few = omega (arith, enough, counted.high)

does_change : {X : Type 0} (head : ℕ) (answer : ℕ → X) (ending : Ending) (put : List (List ℕ)) (draws : ℕ) (change : HeadChange) (x : X)
    (old new : FamilyState) → ending ≡ record { put = put; draws = draws; change = Ok change } → x ≡ answer draws
    → new ≡ with_change head change (used 0 put draws old) → Does (λ x. x) (Ok x) new (ended_by head answer ending old)
does_change {X = X} head answer ending put draws change x old new is same left =
    subst (λ (e : Ending). Does (λ (x : X). x) (Ok x) new (ended_by head answer e old)) (sym is)
    (ap (λ (x : X). let r : Result X Refusal = Ok x in r) (sym same), left)

does_refusal : {X : Type 0} (head : ℕ) (answer : ℕ → X) (ending : Ending) (put : List (List ℕ)) (draws : ℕ) (why : Refusal)
    (old new : FamilyState) → ending ≡ record { put = put; draws = draws; change = Err why }
    → new ≡ with_refusal head why draws (length put) (used 0 put draws old)
    → Does {X = X} (λ x. x) (Err (stops.Refused why)) new (ended_by head answer ending old)
does_refusal {X = X} head answer ending put draws why old new is left =
    subst (λ (e : Ending). Does {X = X} (λ (x : X). x) (Err (stops.Refused why)) new (ended_by head answer e old)) (sym is)
    (refl, left)

empty_front : (put rest : List (List ℕ)) → put ++ rest ≡ [] → put ≡ []
empty_front [] rest none = refl
empty_front (block ∷ put) rest none = absurd (cc)

ok_is : (r : Result Edit Refusal) → IsOk r → (e : Edit) × (r ≡ Ok e)
ok_is (Ok e) done = (e, refl)
ok_is (Err why) done = absurd (cc)

abbrev edited_at : (head : ℕ) → (edit : List (List ℕ) → Table → Result Edit Refusal) → FamilyState → Result Edit Refusal
edited_at head edit old = answered_at (edit (held_by old.shelf)) old (head_spot head)

abbrev puts_at : KeyValue → FamilyState → Result Edit Refusal → List (List ℕ)
puts_at key old edited = edit_puts key old.salts (held_by old.shelf) (length old.shelf.sizes) edited

module _ {X : Type 0} (kind : Kind) (key : KeyValue) (hmac_key : List ℕ) (head : ℕ)
    (edit : List (List ℕ) → Table → Result Edit Refusal) (answer : ℕ → X) (old new : FamilyState) (steady : IsSteady old)
    (calls : ℕ) (put : List (List ℕ)) (draws : ℕ) where
  abbrev changed : Table → Edit → HeadChange
  changed table made = change_by kind key hmac_key old.salts (held_by old.shelf) (length old.shelf.sizes) head table made

  edit_does : (x : X)
      → IsToldEdit kind key hmac_key head (held_by old.shelf) (edit (held_by old.shelf)) put draws (Ok x) old (used calls put draws old) new
      → is_err (new_place old head) ≡ false → sum new.shelf.sizes ≤ SHELF_BYTES → x ≡ answer draws
      → IsCalled (λ x. x) (Ok x) new (called_edit kind key hmac_key head edit answer old)
  edit_does x told there sizes same =
      let done = told.ended in
      let change : HeadChange = changed done.table done.made in
      let place = new_place old head in
      let found = table_of (head_spot head) old.heads in
      let edited : edited_at head edit old ≡ Ok done.made = there_is (edit (held_by old.shelf)) place found done.table there done.of_head ∙ done.is in
      let changes : change_at kind key hmac_key head edit old ≡ Ok change =
      there_is (λ (table : Table). if_read (changed table) (edit (held_by old.shelf) table)) place found done.table there done.of_head
      ∙ ap (if_read (changed done.table)) done.is in
      let count = length done.made.change.texts in
      let whole : puts_at key old (Ok done.made) ≡ put =
      ap (puts_at key old) (sym edited) ∙ sym told.parts ∙ ap (λ (rest : List (List ℕ)). put ++ rest) done.all ∙ append-nil put in
      let counted : AreDraws count (length put) draws =
      subst (λ (r : Result Edit Refusal). AreDraws (edit_draws r) (length put) draws) edited told.counted in
      let size : length (puts_at key old (Ok done.made)) ≡ length put = ap (λ (blocks : List (List ℕ)). length blocks) whole in
      let sealed = sealed_size key old.salts done.made.change.texts (nodes_in key old.salts (held_by old.shelf) (length old.shelf.sizes) done.made.change) in
      let many : count ≤ length put = omega (arith, size, sealed) in
      let left : new ≡ with_change head change (used 0 put draws old) =
      done.left ∙ ap (with_change head change) (spent_same calls put draws old steady) in
      let fits : sum (old.shelf.sizes ++ map length put) ≤ SHELF_BYTES = subst (λ (family : FamilyState). sum family.shelf.sizes ≤ SHELF_BYTES) left sizes in
      let ending =
      ap (λ (r : Result HeadChange Refusal). ending_of old r (puts_at key old (edited_at head edit old)) (edit_draws (edited_at head edit old))) changes
      ∙ ap (λ (r : Result Edit Refusal). ending_of old (Ok change) (puts_at key old r) (edit_draws r)) edited
      ∙ ap (λ (puts : List (List ℕ)). ending_of old (Ok change) puts count) whole
      ∙ ending_made old change put count draws done.enough fits many counted in
      let few = draws_left old.salts.made count (length put) draws counted (inr done.enough) steady.drawn in
      record {
        steady = subst IsSteady (sym left) (steady_change head change (used 0 put draws old) (steady_spent put draws old steady few));
        does = does_change head answer (edit_ending kind key hmac_key head edit old) put draws change x old new ending same left;
      }

  edit_refused : (why : Refusal)
      → IsToldEdit {X = X} kind key hmac_key head (held_by old.shelf) (edit (held_by old.shelf)) put draws (Err (stops.Refused why)) old
      (used calls put draws old) new
      → ((why ≡ refusals.ShelfFault) ↔ (fails_within calls old.shelf.armed ≡ true)) → sum new.shelf.sizes ≤ SHELF_BYTES
      → new ≡ with_refusal head why draws (length put) (used calls put draws old)
      → IsCalled {X = X} (λ x. x) (Err (stops.Refused why)) new (called_edit kind key hmac_key head edit answer old)
  edit_refused why told fault sizes is =
      record {
        steady = subst IsSteady (sym left) (steady_refusal head why draws (length put) (used 0 put draws old) (steady_spent put draws old steady few));
        does = does_refusal head answer (edit_ending kind key hmac_key head edit old) put draws why old new (by_cause told.ended.1) left;
      }
    where
      edited : Result Edit Refusal
      edited = edited_at head edit old

      left : new ≡ with_refusal head why draws (length put) (used 0 put draws old)
      left = is ∙ ap (with_refusal head why draws (length put)) (spent_same calls put draws old steady)

      few : old.salts.made + draws ≤ MAX_DRAWS
      few = draws_left old.salts.made (edit_draws edited) (length put) draws told.counted told.ended.0 steady.drawn

      fits : sum (old.shelf.sizes ++ map length put) ≤ SHELF_BYTES
      fits =
          subst (λ (shelf : ShelfState). sum shelf.sizes ≤ SHELF_BYTES)
          (ap (λ (family : FamilyState). family.shelf) left ∙ refusal_shelf head why draws (length put) (used 0 put draws old)) sizes

      by_change : (r : Result HeadChange Refusal) → change_at kind key hmac_key head edit old ≡ r
          → edit_ending kind key hmac_key head edit old ≡ ending_of old r (puts_at key old edited) (edit_draws edited)
      by_change r is = ap (λ (r : Result HeadChange Refusal). ending_of old r (puts_at key old edited) (edit_draws edited)) is

      unput_is : (other : Refusal) → why ≡ other → put ≡ [] → draws ≡ 0 → unput other ≡ record { put = put; draws = draws; change = Err why }
      unput_is other same nothing none = rw (same, nothing, none) refl

      unedited : edited ≡ Err why → edit_ending kind key hmac_key head edit old ≡ record { put = put; draws = draws; change = Err why }
      unedited is =
          let nothing : put ≡ [] = empty_front put told.rest (told.parts ∙ ap (puts_at key old) is) in
          let counted : AreDraws 0 (length put) draws = subst (λ (r : Result Edit Refusal). AreDraws (edit_draws r) (length put) draws) is told.counted in
          by_change (Err why) (at_err changed (edit (held_by old.shelf)) (new_place old head) (table_of (head_spot head) old.heads) why is)
          ∙ unput_is why refl nothing (omega (arith, counted.high))

      drained : IsOk edited → why ≡ refusals.Full MAX_DRAWS → MAX_DRAWS < old.salts.made + edit_draws edited → put ≡ [] → draws ≡ 0
          → edit_ending kind key hmac_key head edit old ≡ record { put = put; draws = draws; change = Err why }
      drained done full more nothing none =
          let e = ok_is edited done in
          let change = at_ok changed (edit (held_by old.shelf)) (new_place old head) (table_of (head_spot head) old.heads) e.0 e.1 in
          by_change (Ok change.0) change.1 ∙ ending_drained old change.0 (puts_at key old edited) (edit_draws edited) more
          ∙ unput_is (refusals.Full MAX_DRAWS) full nothing none

      enough : (draws ≡ 0) ⊎ (old.salts.made + edit_draws edited ≤ MAX_DRAWS) → draws ≡ min (edit_draws edited) (length put + 1)
          → old.salts.made + edit_draws edited ≤ MAX_DRAWS
      enough (inl none) drawn = omega (arith, none, drawn, steady.drawn)
      enough (inr less) drawn = less

      crowded : IsOk edited → why ≡ refusals.Full SHELF_BYTES → IsTooMuch told.rest (used calls put draws old).shelf
          → draws ≡ min (edit_draws edited) (length put + 1)
          → edit_ending kind key hmac_key head edit old ≡ record { put = put; draws = draws; change = Err why }
      crowded done full much drawn =
          let e = ok_is edited done in
          let change = at_ok changed (edit (held_by old.shelf)) (new_place old head) (table_of (head_spot head) old.heads) e.0 e.1 in
          let more = subst (IsTooMuch told.rest) (idle_stays calls (with_blocks put old.shelf) steady.armed) much in
          by_change (Ok change.0) change.1
          ∙ ap (λ (puts : List (List ℕ)). ending_of old (Ok change.0) puts (edit_draws edited)) (sym told.parts)
          ∙ ending_crowded old change.0 put told.rest (edit_draws edited) draws (enough told.ended.0 drawn) fits more drawn
          ∙ ap (λ (other : Refusal). let e : Ending = record { put = put; draws = draws; change = Err other } in e) (sym full)

      by_cause : IsCause old.salts edited put told.rest draws (used calls put draws old).shelf why
          → edit_ending kind key hmac_key head edit old ≡ record { put = put; draws = draws; change = Err why }
      by_cause (inl failed) = absurd (no_fault calls old.shelf.armed why steady.armed fault failed)
      by_cause (inr (inl is)) = unedited is
      by_cause (inr (inr (inl full))) = drained full.1.0 full.0 full.1.1 full.1.2 full.1.3
      by_cause (inr (inr (inr full))) = crowded full.1.0 full.0 full.1.1 full.1.2

  edit_stopped : IsToldEdit {X = X} kind key hmac_key head (held_by old.shelf) (edit (held_by old.shelf)) put draws (Err stops.NoMemory) old
      (used calls put draws old) new
      → new ≡ used calls put draws old
      → IsCalled {X = X} (λ x. x) (Err stops.NoMemory) new (called_edit kind key hmac_key head edit answer old)
  edit_stopped told is =
      let few = draws_left old.salts.made (edit_draws (edited_at head edit old)) (length put) draws told.counted told.ended steady.drawn in
      record {
        steady = subst IsSteady (sym (is ∙ spent_same calls put draws old steady)) (steady_spent put draws old steady few);
        does = tt;
      }

there_before : {X : Type 0} (spot : Spot) (x : X) (old new : FamilyState) (next : ℕ → Result (Unit {0}) Refusal) (place : Result ℕ Refusal)
    → IfErr (then_read next place) (IsRefusedBefore spot (Ok x) old new) → is_err place ≡ false
there_before spot x old new next (Ok at) before = refl
there_before spot x old new next (Err why) before = absurd before.refused

told_edit : {X : Type 0} {cost : Table → ℕ} (kind : Kind) (key : KeyValue) (hmac_key : List ℕ) (head : ℕ) (edit : List (List ℕ) → Table → Result Edit Refusal)
    (numbers : List ℕ) (answer : ℕ → X) (result : Result X Stop) (old new : FamilyState) → IsSteady old
    → (edits : Edits kind key hmac_key head edit cost numbers answer result old new)
    → IsToldEdit kind key hmac_key head (held_by old.shelf) (edit (held_by old.shelf)) edits.put edits.draws result old
    (used edits.calls edits.put edits.draws old) new
told_edit kind key hmac_key head edit numbers answer result old new steady edits =
    told_at (λ (held : List (List ℕ)). IsToldEdit kind key hmac_key head held (edit held) edits.put edits.draws result old
    (used edits.calls edits.put edits.draws old) new) old.shelf.held steady.held edits.told

pub edit_called : {X : Type 0} {cost : Table → ℕ} (kind : Kind) (key : KeyValue) (hmac_key : List ℕ) (end head : ℕ)
    (edit : List (List ℕ) → Table → Result Edit Refusal) (numbers : List ℕ) (answer : ℕ → X) (result : Result X Stop)
    (old new : FamilyState) → IsSteady old → HasToldSizes new.shelf
    → Edits kind key hmac_key head edit cost numbers answer result old new
    → IfErr (refused_edit hmac_key end head old) (IsRefusedBefore (head_spot head) result old new)
    → IsCalled (λ x. x) result new (called_edit kind key hmac_key head edit answer old)
edit_called kind key hmac_key end head edit numbers answer (Ok x) old new steady sizes edits before =
    let told = told_edit kind key hmac_key head edit numbers answer (Ok x) old new steady edits in
    let there = there_before (head_spot head) x old new _ (new_place old head) before in
    edit_does kind key hmac_key head edit answer old new steady edits.calls edits.put edits.draws x told there sizes.within_limit edits.answered
edit_called kind key hmac_key end head edit numbers answer (Err (stops.Refused why)) old new steady sizes edits before =
    let told = told_edit kind key hmac_key head edit numbers answer (Err (stops.Refused why)) old new steady edits in
    edit_refused kind key hmac_key head edit answer old new steady edits.calls edits.put edits.draws why told edits.fault sizes.within_limit edits.left
edit_called kind key hmac_key end head edit numbers answer (Err stops.NoMemory) old new steady sizes edits before =
    let told = told_edit kind key hmac_key head edit numbers answer (Err stops.NoMemory) old new steady edits in
    edit_stopped kind key hmac_key head edit answer old new steady edits.calls edits.put edits.draws told edits.left
