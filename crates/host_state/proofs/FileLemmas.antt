-- What a command about files leaves of a family, and of a host.
use Rattle.std.proofs.Common.{◌≡◌, ℕ, zero, suc, ◌+◌, ◌<◌, ◌≤◌, Bool, true, false, List, [], ◌∷◌, ◌++◌, length, get_or, set, append-nil, Option, Some, None, Result, Ok, Err, IfOk, IfSome, OnOk, is_err, refl, ap, sym, ◌∙◌, subst, arith, if◌then◌else◌, ◌==◌}
use Rattle.std.proofs.lemmas.Bool.Decides.{nat_tests}
use Rattle.std.proofs.lemmas.List.Elements.{All-head, All-tail}
use Rattle.std.specs.Prelude.{IfErr, is_none, nat_le}
use Rattle.std.specs.List.{All}
use Rattle.std.specs.Option.{option_and_then, option_map}
use Rattle.std.specs.declared.alloc.AllocError.{AllocError}
use Rattle.dataset_tree.specs.declared.refusal.Refusal.{Refusal}
use Rattle.dataset_tree.specs.declared.refusal.Refusal.TheVariants.{Full, KeyUnavailable, NoHead}
use Rattle.dataset_tree.specs.declared.refusal.Stop.{Stop}
use Rattle.dataset_tree.specs.declared.refusal.Stop.TheVariants as stops
use Rattle.dataset_tree.specs.Tree.{id_named}
use Rattle.encryption_roots.specs.ById.{IsRisingById, at_id, with_id}
use Rattle.encryption_roots.specs.Owners.{family}
use Rattle.encryption_roots.proofs.ByIdLemmas.{IsRisingById-with_id, at_id-found, with_id-replaced}
use Rattle.wrapped_keys.specs.Values.{MasterValue}
use Rattle.shelf_store.specs.ShelfState.{after_calls}
use Rattle.family_log.specs.declared.entry.LogEntry.TheVariants as entries
use Rattle.family_log.specs.declared.entry.ReadNote.TheVariants as notes
use Rattle.family_log.specs.declared.entry.Spot.{Spot}
use Rattle.family_log.specs.declared.head.Head.{Head}
use Rattle.family_log.specs.declared.table.Table.{Table}
use Rattle.family_log.specs.Calls.{new_place, with_entry}
use Rattle.family_log.specs.Log.{head_spot}
use Rattle.family_log.specs.Model.{FamilyState, head_of}
use Rattle.file_dataset.specs.declared.command.FileCmd.{FileCmd}
use Rattle.file_dataset.specs.declared.reply.FileReply.{FileReply}
use Rattle.file_dataset.specs.declared.reply.FileReply.TheVariants as replies
use Rattle.file_dataset.specs.Calls.{Answers, IsRefusedBefore, Reads, answered_at, noted_by, refused_before, with_note}
use Rattle.file_dataset.specs.ChangeCalls.{LeavesHead, refused_edit, used, with_refusal}
use Rattle.file_dataset.specs.Reads.{then_read}
use Rattle.file_dataset.specs.Steady.{Called, IsCalled, IsSteady, called_read}
use Rattle.file_dataset.proofs.SteadyLemmas.{read_called}
use Rattle.key_ciphers.specs.Ciphers.{ciphers, master_of, value_of}
use Rattle.key_machine.specs.Counts.{is_opened}
use Rattle.key_machine.specs.Plain.{Master, Plain, Stored, mkey, owner_of}
use Rattle.key_machine.specs.Refusals.{first_of}
use Rattle.key_machine.specs.Unmount.{unmount_cases}
use Rattle.key_store.specs.State.{opened_key}
use Rattle.snap_clone.specs.Acts.{Change, Note}
use Rattle.snap_clone.specs.Ids.{IsUpTo}
use Rattle.snap_clone.proofs.IdLemmas.{up_to_still}
use Rattle.host_state.specs.Hosts.{HostState, IsHost, KeyFacts, by_id, facts_of_family, facts_of_record, guid_in}
use Rattle.host_state.specs.FileLines.{FileStepped, Served, file_refusal, file_step, on_family, refused_file, refused_first, replied, served, served_by, set_of, unless_unmounted}
use Rattle.host_state.specs.FileAnswers.{HasChanged, HasDone, HasRead, IsPlaceOf, IsServed, Replies, Serves, ServesAt, ServesFiles, ServesUnder, ServesUnless}
use Rattle.host_state.proofs.HostParts.{Pairs}
use Rattle.host_state.proofs.HostLemmas.{at_each}
use Rattle.host_state.proofs.PairedLemmas.{opened_to}

-- ---- a call of a family

stopped : (told : Result FileReply AllocError) (new : FamilyState) (done : Served) → IsSteady new → is_err told ≡ true → IsServed told new done
stopped (Ok reply) new done steady none = absurd (cc)
stopped (Err stop) new done steady none = record { steady = steady; does = tt }

called_served : {X Y : Type 0} (sees : X → Y) (reply : Y → FileReply) (result : Result X Stop) (told : Result FileReply AllocError) (new : FamilyState) (called : Called Y)
    → IsCalled sees result new called → Replies (λ x. reply (sees x)) result told → IsServed told new (served reply called)
called_served sees reply (Ok x) told new called is told_is =
    subst (λ (t : Result FileReply AllocError). IsServed t new (served reply called)) (sym told_is)
    (record { steady = is.steady; does = (ap (replied reply) is.does.0, is.does.1) })
called_served sees reply (Err (stops.Refused why)) told new called is told_is =
    subst (λ (t : Result FileReply AllocError). IsServed t new (served reply called)) (sym told_is)
    (record { steady = is.steady; does = (ap (replied reply) is.does.0, is.does.1) })
called_served sees reply (Err stops.NoMemory) told new called is told_is = stopped told new (served reply called) is.steady told_is

noted_facts : {X : Type 0} (spot : Spot) (result : Result X Stop) (family : FamilyState) → facts_of_family (noted_by spot result family) ≡ facts_of_family family
noted_facts {X = X} spot result family = by_place (is_err (new_place family spot.head)) where
  noted : (result : Result X Stop) → facts_of_family (with_note spot result family) ≡ facts_of_family family
  noted (Ok x) = refl
  noted (Err (stops.Refused why)) = refl
  noted (Err stops.NoMemory) = refl

  by_place : (none : Bool) → facts_of_family (if none then family else with_note spot result family) ≡ facts_of_family family
  by_place true = refl
  by_place false = noted result

-- ---- up to which id a family goes

same_id : (a b : ℕ) → (a == b) ≡ true → a ≡ b
same_id a b same = grind (arith, nat_tests)

-- a head that is there isn't above
there_below : (last id : ℕ) (heads : List Head) → All (λ (head : Head). head.id ≤ last) heads → is_none (head_of id heads) ≡ false → id ≤ last
there_below last id [] below there = absurd (cc)
there_below last id (head ∷ heads) below there =
    by_test (head.id == id) refl (λ later. there_below last id heads (All-tail (λ (head : Head). head.id ≤ last) head heads below) later) there
  where
    by_test : (own : Bool) → (head.id == id) ≡ own → (is_none (head_of id heads) ≡ false → id ≤ last) → is_none (if own then Some head else head_of id heads) ≡ false → id ≤ last
    by_test true same rest there = subst (λ (n : ℕ). n ≤ last) (same_id head.id id same) (All-head (λ (head : Head). head.id ≤ last) head heads below)
    by_test false apart rest there = rest there

placed_below : (family : FamilyState) (head last : ℕ) → IsUpTo last family → is_err (new_place family head) ≡ false → head ≤ last
placed_below family head last below placed = by_none (is_none (head_of head family.heads)) refl placed where
  by_none : (none : Bool) → is_none (head_of head family.heads) ≡ none
      → is_err (if none then Err (NoHead head) else (if nat_le family.room (length family.log) then Err (Full family.room) else Ok (length family.log))) ≡ false → head ≤ last
  by_none true is placed = absurd (cc)
  by_none false is placed = there_below last head family.heads below.heads is

noted_below : {X : Type 0} (spot : Spot) (result : Result X Stop) (family : FamilyState) (last : ℕ) → IsUpTo last family → IsUpTo last (noted_by spot result family)
noted_below {X = X} spot result family last below = by_place (is_err (new_place family spot.head)) refl where
  noted : spot.head ≤ last → (result : Result X Stop) → IsUpTo last (with_note spot result family)
  noted within (Ok x) = up_to_still (Note spot notes.Read) family last below tt within
  noted within (Err (stops.Refused why)) = up_to_still (Note spot (notes.Refused why 0 0)) family last below tt within
  noted within (Err stops.NoMemory) = below

  by_place : (none : Bool) → is_err (new_place family spot.head) ≡ none → IsUpTo last (if none then family else with_note spot result family)
  by_place true is = below
  by_place false is = noted (placed_below family spot.head last below is) result

refused_below : (spot : Spot) (why : Refusal) (draws puts : ℕ) (family : FamilyState) (last : ℕ) → IsUpTo last family → spot.head ≤ last → IsUpTo last (with_entry (entries.Refused spot why draws puts) family)
refused_below spot why draws puts family last below within = up_to_still (Note spot (notes.Refused why draws puts)) family last below tt within

refusal_below : (head draws puts : ℕ) (why : Refusal) (family : FamilyState) (last : ℕ) → IsUpTo last family → IsUpTo last (with_refusal head why draws puts family)
refusal_below head draws puts why family last below =
    by_place (is_err (new_place family head)) refl _ (λ within. refused_below (head_spot head) why _ _ family last below within)
  where
    by_place : (none : Bool) → is_err (new_place family head) ≡ none → (later : FamilyState) → (head ≤ last → IsUpTo last later) → IsUpTo last (if none then family else later)
    by_place true is later up = below
    by_place false is later up = up (placed_below family head last below is)

-- a call that is done has found its head
done_there : {X : Type 0} (spot : Spot) (x : X) (old new : FamilyState) (next : ℕ → Result (Unit {0}) Refusal) (place : Result ℕ Refusal) → IfErr (then_read next place) (IsRefusedBefore spot (Ok x) old new)
    → is_err place ≡ false
done_there spot x old new next (Ok at) before = refl
done_there spot x old new next (Err why) before = absurd before.refused

left_below : {X : Type 0} (hmac_key : List ℕ) (end head draws puts : ℕ) (result : Result X Stop) (old spent new : FamilyState) (last : ℕ) → IsUpTo last old → IsUpTo last spent
    → LeavesHead hmac_key head draws puts result spent new → IfErr (refused_edit hmac_key end head old) (IsRefusedBefore (head_spot head) result old new) → IsUpTo last new
left_below hmac_key end head draws puts (Ok x) old spent new last before_up spent_up left before =
    let within : head ≤ last = placed_below old head last before_up (done_there (head_spot head) x old new _ (new_place old head) before) in
    subst (λ (f : FamilyState). IsUpTo last f) (sym left.2) (up_to_still (Change head left.0) spent last spent_up left.1.told within)
left_below hmac_key end head draws puts (Err (stops.Refused why)) old spent new last before_up spent_up left before =
    subst (λ (f : FamilyState). IsUpTo last f) (sym left) (refusal_below head draws puts why spent last spent_up)
left_below hmac_key end head draws puts (Err stops.NoMemory) old spent new last before_up spent_up left before =
    subst (λ (f : FamilyState). IsUpTo last f) (sym left) spent_up

-- ---- what a call has done, by its reply

option_unput : (told : Option (List (List ℕ))) → option_map (λ blocks. blocks ++ []) told ≡ told
option_unput None = refl
option_unput (Some blocks) = ap (λ (found : List (List ℕ)). let told : Option (List (List ℕ)) = Some found in told) (append-nil blocks)

-- a call that draws and puts nothing
read_used : (calls : ℕ) (family : FamilyState) → used calls [] 0 family ≡ record family { shelf = after_calls calls family.shelf }
read_used calls family =
    let drawn : family.salts.made + 0 ≡ family.salts.made = omega arith in
    λ i. record family {
      salts = record family.salts { made = drawn i };
      shelf = after_calls calls (record family.shelf { sizes = append-nil family.shelf.sizes i; placed = option_unput family.shelf.placed i; held = option_unput family.shelf.held i });
    }

noted_same : (X : Type 0) (spot : Spot) (earlier new : FamilyState) → new ≡ noted_by {X = X} spot (Err stops.NoMemory) earlier → new ≡ earlier
noted_same X spot earlier new left = left ∙ by (is_err (new_place earlier spot.head)) where
  by : (none : Bool) → (if none then earlier else earlier) ≡ earlier
  by true = refl
  by false = refl

memory_done : (told : Result FileReply AllocError) (head : ℕ) (earlier new : FamilyState) → is_err told ≡ true → new ≡ earlier → HasDone told head earlier new
memory_done (Ok reply) head earlier new none same = absurd (cc)
memory_done (Err stop) head earlier new none same = same

read_done : {X Y : Type 0} (sees : X → Y) (reply : Y → FileReply) (spot : Spot) (result : Result X Stop) (earlier new : FamilyState) (told : Result FileReply AllocError)
    → ((y : Y) → HasRead spot.head earlier new → HasDone (Ok (reply y)) spot.head earlier new) → OnOk result (is_err (new_place earlier spot.head) ≡ false) → new ≡ noted_by spot result earlier
    → Replies (λ x. reply (sees x)) result told → HasDone told spot.head earlier new
read_done {X = X} sees reply spot (Ok x) earlier new told reads placed left told_is =
    let found : Result X Stop = Ok x in
    let noted : new ≡ with_note spot found earlier = left ∙ ap (λ (none : Bool). if none then earlier else with_note spot found earlier) placed in
    subst (λ (t : Result FileReply AllocError). HasDone t spot.head earlier new) (sym told_is) (reads (sees x) (spot.snap, noted))
read_done sees reply spot (Err (stops.Refused why)) earlier new told reads placed left told_is =
    subst (λ (t : Result FileReply AllocError). HasDone t spot.head earlier new) (sym told_is) (spot.snap, 0, 0, left)
read_done {X = X} sees reply spot (Err stops.NoMemory) earlier new told reads placed left told_is =
    memory_done told spot.head earlier new told_is (noted_same X spot earlier new left)

edit_done : {X : Type 0} (reply : X → FileReply) (hmac_key : List ℕ) (head draws puts : ℕ) (result : Result X Stop) (spent new : FamilyState) (told : Result FileReply AllocError)
    → ((x : X) → HasChanged head spent new → HasDone (Ok (reply x)) head spent new) → LeavesHead hmac_key head draws puts result spent new → Replies reply result told → HasDone told head spent new
edit_done reply hmac_key head draws puts (Ok x) spent new told changes left told_is =
    subst (λ (t : Result FileReply AllocError). HasDone t head spent new) (sym told_is) (changes x (left.0, left.1.told, left.2))
edit_done reply hmac_key head draws puts (Err (stops.Refused why)) spent new told changes left told_is =
    subst (λ (t : Result FileReply AllocError). HasDone t head spent new) (sym told_is) (None, _, _, left)
edit_done reply hmac_key head draws puts (Err stops.NoMemory) spent new told changes left told_is = memory_done told head spent new told_is left

-- a call that is refused so has used nothing
abbrev IsRefusedFirst : Result FileReply AllocError → (head : ℕ) → (old new : FamilyState) → Refusal → Type 0
IsRefusedFirst told head old new why = IfOk told (λ reply. reply ≡ replies.Refused why) × HasDone told head old new

memory_first : (told : Result FileReply AllocError) (head : ℕ) (old new : FamilyState) (why : Refusal) → is_err told ≡ true → new ≡ old → IsRefusedFirst told head old new why
memory_first (Ok reply) head old new why none same = absurd (cc)
memory_first (Err stop) head old new why none same = (tt, same)

first_done : {X : Type 0} (reply : X → FileReply) (spot : Spot) (result : Result X Stop) (old new : FamilyState) (told : Result FileReply AllocError) (why : Refusal)
    → IsRefusedBefore spot result old new why → Replies reply result told → IsRefusedFirst told spot.head old new why
first_done reply spot (Ok x) old new told why before told_is = absurd before.refused
first_done reply spot (Err (stops.Refused other)) old new told why before told_is =
    subst (λ (t : Result FileReply AllocError). IsRefusedFirst t spot.head old new why) (sym told_is) (ap (λ (w : Refusal). replies.Refused w) before.refused, (spot.snap, 0, 0, before.left))
first_done {X = X} reply spot (Err stops.NoMemory) old new told why before told_is =
    memory_first told spot.head old new why told_is (noted_same X spot old new before.left)

first_each : {X : Type 0} (reply : X → FileReply) (spot : Spot) (result : Result X Stop) (old new : FamilyState) (told : Result FileReply AllocError) (first : Result (Unit {0}) Refusal)
    → IfErr first (IsRefusedBefore spot result old new) → Replies reply result told → IfErr first (IsRefusedFirst told spot.head old new)
first_each reply spot result old new told (Ok done) before told_is = tt
first_each reply spot result old new told (Err why) before told_is = first_done reply spot result old new told why before told_is

placed_by : {X : Type 0} (hmac_key : List ℕ) (spot : Spot) (result : Result X Stop) (old new : FamilyState) → IfErr (refused_before hmac_key old spot) (IsRefusedBefore spot result old new)
    → OnOk result (is_err (new_place old spot.head) ≡ false)
placed_by hmac_key spot (Ok x) old new before = done_there spot x old new _ (new_place old spot.head) before
placed_by hmac_key spot (Err stop) old new before = tt

-- where memory was wanting in front of the call
pub untouched : (stop : AllocError) (old : FamilyState) (head : ℕ) (before : Result (Unit {0}) Refusal) (done : Served) → Serves (Err stop) old old head before done
untouched stop old head before done = record {
  calls = 0;
  put = [];
  draws = 0;
  left = sym (read_used 0 old);
  refused = each before;
  facts = refl;
  up_to = λ last below. below;
  served = λ steady. record { steady = steady; does = tt };
} where
  each : (first : Result (Unit {0}) Refusal) → IfErr first (IsRefusedFirst (Err stop) head old old)
  each (Ok done) = tt
  each (Err why) = (tt, refl)

-- ---- a call of a family serves it

pub read_served : {X Y : Type 0} (sees : X → Y) (reply : Y → FileReply) (hmac_key : List ℕ) (answer : List (List ℕ) → Table → Result Y Refusal) (most : Table → ℕ) (spot : Spot) (result : Result X Stop) (old new : FamilyState)
    (told : Result FileReply AllocError) → ((y : Y) (earlier : FamilyState) → HasRead spot.head earlier new → HasDone (Ok (reply y)) spot.head earlier new) → Reads most spot result old new
    → IfErr (refused_before hmac_key old spot) (IsRefusedBefore spot result old new)
    → IfSome old.shelf.held (λ held. Answers sees (answered_at (answer held) old spot) result) → Replies (λ x. reply (sees x)) result told
    → Serves told old new spot.head (refused_before hmac_key old spot) (served reply (called_read answer spot old))
read_served sees reply hmac_key answer most spot result old new told replies_read reads before is told_is =
    let walked : FamilyState = record old { shelf = after_calls reads.calls old.shelf } in
    record {
      calls = reads.calls;
      put = [];
      draws = 0;
      left = subst (λ (spent : FamilyState). HasDone told spot.head spent new) (sym (read_used reads.calls old))
          (read_done sees reply spot result walked new told (λ y. replies_read y walked) (placed_by hmac_key spot result old new before) reads.left told_is);
      refused = first_each (λ x. reply (sees x)) spot result old new told (refused_before hmac_key old spot) before told_is;
      facts = ap facts_of_family reads.left ∙ noted_facts spot result walked;
      up_to = λ last below. subst (λ (f : FamilyState). IsUpTo last f) (sym reads.left)
          (noted_below spot result walked last (record { heads = below.heads; entries = below.entries }));
      served = λ steady. called_served sees reply result told new (called_read answer spot old) (read_called sees answer most spot result old new steady reads is) told_is;
    }

refusal_facts : (head draws puts : ℕ) (why : Refusal) (family : FamilyState) → facts_of_family (with_refusal head why draws puts family) ≡ facts_of_family family
refusal_facts head draws puts why family = by_place (is_err (new_place family head)) _ refl where
  by_place : (none : Bool) (with_entry : FamilyState) → facts_of_family with_entry ≡ facts_of_family family → facts_of_family (if none then family else with_entry) ≡ facts_of_family family
  by_place true with_entry same = refl
  by_place false with_entry same = same

left_facts : {X : Type 0} (hmac_key : List ℕ) (head draws puts : ℕ) (result : Result X Stop) (spent new : FamilyState) → LeavesHead hmac_key head draws puts result spent new → facts_of_family new ≡ facts_of_family spent
left_facts hmac_key head draws puts (Ok x) spent new left = ap facts_of_family left.2
left_facts hmac_key head draws puts (Err (stops.Refused why)) spent new left = ap facts_of_family left ∙ refusal_facts head draws puts why spent
left_facts hmac_key head draws puts (Err stops.NoMemory) spent new left = ap facts_of_family left

pub edit_served : {X : Type 0} (reply : X → FileReply) (hmac_key : List ℕ) (end head calls draws : ℕ) (put : List (List ℕ)) (result : Result X Stop) (old new : FamilyState) (told : Result FileReply AllocError) (called : Called X)
    → ((x : X) (earlier : FamilyState) → HasChanged head earlier new → HasDone (Ok (reply x)) head earlier new)
    → LeavesHead hmac_key head draws (length put) result (used calls put draws old) new → IfErr (refused_edit hmac_key end head old) (IsRefusedBefore (head_spot head) result old new)
    → (IsSteady old → IsCalled (λ x. x) result new called) → Replies reply result told → Serves told old new head (refused_edit hmac_key end head old) (served reply called)
edit_served reply hmac_key end head calls draws put result old new told called changes left before is told_is = record {
  calls = calls;
  put = put;
  draws = draws;
  left = edit_done reply hmac_key head draws (length put) result (used calls put draws old) new told (λ x. changes x (used calls put draws old)) left told_is;
  refused = first_each reply (head_spot head) result old new told (refused_edit hmac_key end head old) before told_is;
  facts = left_facts hmac_key head draws (length put) result (used calls put draws old) new left;
  up_to = λ last below. left_below hmac_key end head draws (length put) result old (used calls put draws old) new last below (record { heads = below.heads; entries = below.entries }) left before;
  served = λ steady. called_served (λ x. x) reply result told new called (is steady) told_is;
}

-- ---- one of the families

set_facts : (entries : List (ℕ × FamilyState)) (at : ℕ) (entry : ℕ × FamilyState) (left : FamilyState) → at < length entries → get_or entries at entry ≡ entry → facts_of_family left ≡ facts_of_family entry.1
    → by_id facts_of_family (set entries at (entry.0, left)) ≡ by_id facts_of_family entries
set_facts [] at entry left within here same = absurd (omega arith)
set_facts (first ∷ entries) zero entry left within here same =
    ap (λ (facts : KeyFacts). (entry.0, facts) ∷ by_id facts_of_family entries) same ∙ ap (λ (e : ℕ × FamilyState). (e.0, facts_of_family e.1) ∷ by_id facts_of_family entries) (sym here)
set_facts (first ∷ entries) (suc at) entry left within here same =
    ap (λ (rest : List (ℕ × KeyFacts)). (first.0, facts_of_family first.1) ∷ rest) (set_facts entries at entry left (omega (arith, within)) here same)

pub at_place : (entries : List (ℕ × FamilyState)) (at id : ℕ) (entry : ℕ × FamilyState) → IsPlaceOf id entries (Some at) → entry ≡ get_or entries at entry → at_id id entries ≡ Some entry.1
at_place entries at id entry place here =
    at_id-found id entries at entry place.0 place.1 (place.2 entry) ∙ ap (λ (e : ℕ × FamilyState). let found : Option FamilyState = Some e.1 in found) (sym here)

pub held_at : (P : FamilyState → Type 0) (entries : List (ℕ × FamilyState)) (at id : ℕ) (entry : ℕ × FamilyState) → IsPlaceOf id entries (Some at) → entry ≡ get_or entries at entry → IfSome (at_id id entries) P → P entry.1
held_at P entries at id entry place here holds = subst (λ (found : Option FamilyState). IfSome found P) (at_place entries at id entry place here) holds

pub served_one : (result : Result FileReply AllocError) (entries : List (ℕ × FamilyState)) (at of head : ℕ) (entry : ℕ × FamilyState) (left : FamilyState) (key : MasterValue) (command : FileCmd)
    → IsPlaceOf of entries (Some at) → entry ≡ get_or entries at entry → Serves result entry.1 left head (refused_first key head command entry.1) (served_by key head command entry.1)
    → ServesAt result entries (set entries at (entry.0, left)) of head key command (at_id of entries)
served_one result entries at of head entry left key command place here serves =
    let own : entry.0 ≡ of = ap (λ (e : ℕ × FamilyState). e.0) here ∙ place.2 entry in
    subst (λ (found : Option FamilyState). ServesAt result entries (set entries at (entry.0, left)) of head key command found) (sym (at_place entries at of entry place here))
    (record {
      left = left;
      put = ap (λ (i : ℕ). set entries at (i, left)) own ∙ with_id-replaced of left entries at entry place.0 place.1 (place.2 entry);
      kept = set_facts entries at entry left place.0 (sym here) serves.facts;
      serves = serves;
    })

-- ---- the guid of an opened key is its family's

pub at_by_id : {X Y : Type 0} (f : X → Y) (id : ℕ) (entries : List (ℕ × X)) → at_id id (by_id f entries) ≡ option_map f (at_id id entries)
at_by_id f id [] = refl
at_by_id {X = X} {Y = Y} f id (entry ∷ entries) = by_test (entry.0 == id) (at_by_id f id entries) where
  by_test : (own : Bool) → at_id id (by_id f entries) ≡ option_map f (at_id id entries)
      → (if own then Some (f entry.1) else at_id id (by_id f entries)) ≡ option_map f (if own then Some entry.1 else at_id id entries)
  by_test true rest = refl
  by_test false rest = rest

module _ (p : Plain) (of : ℕ) (key : MasterValue) where
  abbrev opens_to : Stored → Option ℕ → Option Master
  opens_to stored owner = option_and_then (λ root. option_and_then (λ loaded. ciphers.opens stored.wrapped loaded) (at_id root p.loaded)) owner

  by_loaded : (stored : Stored) (loaded : Option (List ℕ)) → option_and_then (λ loaded. ciphers.opens stored.wrapped loaded) loaded ≡ Some (master_of key) → key.guid ≡ guid_in stored.wrapped
  by_loaded stored None is = absurd (cc)
  by_loaded stored (Some loaded) is = (opened_to stored.wrapped loaded (master_of key) is).0

  by_owner : (stored : Stored) (owner : Option ℕ) → opens_to stored owner ≡ Some (master_of key) → key.guid ≡ guid_in stored.wrapped
  by_owner stored None is = absurd (cc)
  by_owner stored (Some root) is = by_loaded stored (at_id root p.loaded) is

  by_stored : (found : Option Stored) → option_and_then (λ stored. opens_to stored (owner_of p of)) found ≡ Some (master_of key) → (stored : Stored) × (found ≡ Some stored) × (key.guid ≡ guid_in stored.wrapped)
  by_stored None is = absurd (cc)
  by_stored (Some stored) is = (stored, refl, by_owner stored (owner_of p of) is)

  by_opened : (opened : Bool) → Some (master_of key) ≡ (if opened then mkey ciphers p of else None) → (stored : Stored) × (at_id of p.wrapped ≡ Some stored) × (key.guid ≡ guid_in stored.wrapped)
  by_opened true is = by_stored (at_id of p.wrapped) (sym is)
  by_opened false is = absurd (cc)

  by_family : (found : Option FamilyState) (stored : Stored) → key.guid ≡ guid_in stored.wrapped → option_map facts_of_family found ≡ Some (facts_of_record stored) → IfSome found (λ state. state.guid ≡ key.guid)
  by_family None stored guid same = tt
  by_family (Some state) stored guid same =
      let facts : facts_of_family state ≡ facts_of_record stored = cc in
      ap (λ (f : KeyFacts). f.guid) facts ∙ sym guid

  pub family_guid : (families : List (ℕ × FamilyState)) → by_id facts_of_family families ≡ by_id facts_of_record p.wrapped → Some (master_of key) ≡ opened_key p of → IfSome (at_id of families) (λ state. state.guid ≡ key.guid)
  family_guid families paired is =
      let found = by_opened (is_opened p of) is in
      by_family (at_id of families) found.0 found.2
      (sym (at_by_id facts_of_family of families) ∙ ap (λ (es : List (ℕ × KeyFacts)). at_id of es) paired ∙ at_by_id facts_of_record of p.wrapped ∙ ap (option_map facts_of_record) found.1)

-- ---- the host

pub served_pairs : (tells : Bool) (keys : Plain) (families new : List (ℕ × FamilyState)) (limit : ℕ) (result : Result FileReply AllocError) (id head : ℕ) (key : MasterValue) (command : FileCmd) → Pairs tells keys families limit
    → ServesAt result families new id head key command (at_id id families) → Pairs tells keys new limit
served_pairs tells keys families new limit result id head key command host is = by_found (at_id id families) refl is where
  by_found : (found : Option FamilyState) → at_id id families ≡ found → ServesAt result families new id head key command found → Pairs tells keys new limit
  by_found None none is = subst (λ (fs : List (ℕ × FamilyState)). Pairs tells keys fs limit) (sym is.1) host
  by_found (Some state) there is = record {
    rising = subst (λ (fs : List (ℕ × FamilyState)). IsRisingById fs) (sym is.put) (IsRisingById-with_id id is.left families host.rising);
    paired = is.kept ∙ host.paired;
    steady = λ told at.
        let steady : IsSteady state = subst (λ (found : Option FamilyState). IfSome found IsSteady) there (host.steady told id) in
        subst (λ (fs : List (ℕ × FamilyState)). IfSome (at_id at fs) IsSteady) (sym is.put)
        (at_each IsSteady families id at is.left (is.serves.served steady).steady (host.steady told at));
    up_to = λ at.
        let below : IsUpTo keys.tree.last state = subst (λ (found : Option FamilyState). IfSome found (IsUpTo keys.tree.last)) there (host.up_to id) in
        subst (λ (fs : List (ℕ × FamilyState)). IfSome (at_id at fs) (IsUpTo keys.tree.last)) (sym is.put)
        (at_each (IsUpTo keys.tree.last) families id at is.left (is.serves.up_to keys.tree.last below) (host.up_to at));
    least = host.least;
    most = host.most;
  }

-- the reply, and the state that is left, are a step's
abbrev pub Steps : Result FileReply AllocError → (after : HostState) → FileStepped → Type 0
Steps result after step = IfOk result (λ reply. reply ≡ step.reply) × OnOk result (after ≡ step.state)

module _ (h : HostState) (command : FileCmd) where
  step_refused : (why : Refusal) → first_of (unmount_cases h.keys (set_of command)) ≡ Some why → file_step h command ≡ refused_file h why
  step_refused why is = ap (λ (fault : Option Refusal). unless_unmounted h command fault (id_named (set_of command) h.keys.tree.rows)) is

  pub refused_steps : (why : Refusal) → first_of (unmount_cases h.keys (set_of command)) ≡ Some why
      → Steps (let reply : Result FileReply AllocError = Ok (replies.Refused why) in reply) h (file_step h command)
  refused_steps why is =
      (ap (λ (s : FileStepped). s.reply) (sym (step_refused why is)), ap (λ (s : FileStepped). s.state) (sym (step_refused why is)))

  module _ (id : ℕ) (free : first_of (unmount_cases h.keys (set_of command)) ≡ None) (named : id_named (set_of command) h.keys.tree.rows ≡ Some id) where
    abbrev of : ℕ
    of = family h.keys.tree.rows id

    pub step_is : file_step h command ≡ on_family h id of command (at_id of h.families) (opened_key h.keys of)
    step_is =
        ap (λ (fault : Option Refusal). unless_unmounted h command fault (id_named (set_of command) h.keys.tree.rows)) free
        ∙ ap (λ (at : Option ℕ). unless_unmounted h command None at) named

    module _ (result : Result FileReply AllocError) (new : List (ℕ × FamilyState)) where
      unserved : result ≡ Ok (replies.Refused KeyUnavailable) → new ≡ h.families → Steps result (record h { families = new }) (refused_file h KeyUnavailable)
      unserved is same =
          subst (λ (r : Result FileReply AllocError). Steps r (record h { families = new }) (refused_file h KeyUnavailable)) (sym is)
          (refl, ap (λ (fs : List (ℕ × FamilyState)). record h { families = fs }) same)

      by_result : (answer : Result FileReply AllocError) (key : Master) (state left : FamilyState) → IsServed answer left (served_by (value_of key) id command state) → new ≡ with_id of left h.families
          → Steps answer (record h { families = new }) (on_family h id of command (Some state) (Some key))
      by_result (Ok reply) key state left is put =
          (sym is.does.0, ap (λ (fs : List (ℕ × FamilyState)). record h { families = fs }) (put ∙ ap (λ (f : FamilyState). with_id of f h.families) is.does.1))
      by_result (Err stop) key state left is put = (tt, tt)

      by_found : (key : Master) (found : Option FamilyState) → IfSome found IsSteady → ServesAt result h.families new of id (value_of key) command found
          → Steps result (record h { families = new }) (on_family h id of command found (Some key))
      by_found key None steady is = unserved is.0 is.1
      by_found key (Some state) steady is = by_result result key state is.left (is.serves.served steady) is.put

      keyless : (found : Option FamilyState) → result ≡ Ok (replies.Refused KeyUnavailable) → new ≡ h.families → Steps result (record h { families = new }) (on_family h id of command found None)
      keyless None is same = unserved is same
      keyless (Some state) is same = unserved is same

      by_key : (key : Option Master) → IfSome (at_id of h.families) IsSteady → ServesUnder result h.families new of id command key
          → Steps result (record h { families = new }) (on_family h id of command (at_id of h.families) key)
      by_key None steady is = keyless (at_id of h.families) is.0 is.1
      by_key (Some key) steady is = by_found key (at_id of h.families) steady is

      pub under_steps : IfSome (at_id of h.families) IsSteady → ServesUnder result h.families new of id command (opened_key h.keys of) → Steps result (record h { families = new }) (file_step h command)
      under_steps steady is =
          subst (λ (s : FileStepped). Steps result (record h { families = new }) s) (sym step_is) (by_key (opened_key h.keys of) steady is)

-- ---- the keystore's part

pub under_pairs : (tells : Bool) (keys : Plain) (families new : List (ℕ × FamilyState)) (limit : ℕ) (result : Result FileReply AllocError) (of id : ℕ) (command : FileCmd) (key : Option Master)
    → Pairs tells keys families limit → ServesUnder result families new of id command key → Pairs tells keys new limit
under_pairs tells keys families new limit result at id command None host is = subst (λ (fs : List (ℕ × FamilyState)). Pairs tells keys fs limit) (sym is.1) host
under_pairs tells keys families new limit result at id command (Some key) host is = served_pairs tells keys families new limit result at id (value_of key) command host is

pub under_key : (p : Plain) (families new : List (ℕ × FamilyState)) (result : Result FileReply AllocError) (of id : ℕ) (command : FileCmd) (key : Option Master) → of ≡ family p.tree.rows id → key ≡ opened_key p of
    → ServesUnder result families new of id command key → ServesUnder result families new (family p.tree.rows id) id command (opened_key p (family p.tree.rows id))
under_key p families new result of id command key of_is key_is is =
    subst (λ (f : ℕ). ServesUnder result families new f id command (opened_key p f)) of_is
    (subst (λ (k : Option Master). ServesUnder result families new of id command k) key_is is)

-- behind the two looks at the keystore
pub file_pairs : (tells : Bool) (p q : Plain) (families new : List (ℕ × FamilyState)) (limit : ℕ) (result : Result FileReply AllocError) (id : ℕ) (command : FileCmd) → q ≡ p → Pairs tells p families limit
    → ServesUnder result families new (family q.tree.rows id) id command (opened_key q (family q.tree.rows id)) → Pairs tells p new limit
file_pairs tells p q families new limit result id command same host is =
    subst (λ (r : Plain). Pairs tells r new limit) same
    (under_pairs tells q families new limit result (family q.tree.rows id) id command (opened_key q (family q.tree.rows id)) (subst (λ (r : Plain). Pairs tells r families limit) (sym same) host) is)

pub file_steps : (h : HostState) (host : IsHost h.tells h.keys h.families h.limit) (p q : Plain) (set : List ℕ) (new : List (ℕ × FamilyState)) (result : Result FileReply AllocError) (id : ℕ) (command : FileCmd)
    → p ≡ h.keys → q ≡ h.keys → set ≡ set_of command → (first_of (unmount_cases p set) ≡ None) × (id_named set p.tree.rows ≡ Some id) → h.tells ≡ true
    → ServesUnder result h.families new (family q.tree.rows id) id command (opened_key q (family q.tree.rows id)) → Steps result (record h { families = new }) (file_step h command)
file_steps h host p q set new result id command p_is q_is set_is found tells is =
    let there : (first_of (unmount_cases h.keys (set_of command)) ≡ None) × (id_named (set_of command) h.keys.tree.rows ≡ Some id) =
    subst (λ (r : Plain). (first_of (unmount_cases r (set_of command)) ≡ None) × (id_named (set_of command) r.tree.rows ≡ Some id)) p_is
    (subst (λ (s : List ℕ). (first_of (unmount_cases p s) ≡ None) × (id_named s p.tree.rows ≡ Some id)) set_is found) in
    under_steps h command id there.0 there.1 result new (host.steady tells (family h.keys.tree.rows id))
    (subst (λ (r : Plain). ServesUnder result h.families new (family r.tree.rows id) id command (opened_key r (family r.tree.rows id))) q_is is)

pub file_refuses : (h : HostState) (p : Plain) (set : List ℕ) (command : FileCmd) (why : Refusal) → p ≡ h.keys → set ≡ set_of command → first_of (unmount_cases p set) ≡ Some why
    → Steps (let reply : Result FileReply AllocError = Ok (replies.Refused why) in reply) h (file_step h command)
file_refuses h p set command why p_is set_is is =
    refused_steps h command why
    (subst (λ (r : Plain). first_of (unmount_cases r (set_of command)) ≡ Some why) p_is (subst (λ (s : List ℕ). first_of (unmount_cases p s) ≡ Some why) set_is is))

-- ---- what is left, whatever the shelves tell

pub files_under : (h : HostState) (p q : Plain) (set : List ℕ) (new : List (ℕ × FamilyState)) (result : Result FileReply AllocError) (id : ℕ) (command : FileCmd)
    → p ≡ h.keys → q ≡ h.keys → set ≡ set_of command → (first_of (unmount_cases p set) ≡ None) × (id_named set p.tree.rows ≡ Some id)
    → ServesUnder result h.families new (family q.tree.rows id) id command (opened_key q (family q.tree.rows id)) → ServesFiles result h (record h { families = new }) command
files_under h p q set new result id command p_is q_is set_is found is =
    let after : HostState = record h { families = new } in
    let there : (first_of (unmount_cases h.keys (set_of command)) ≡ None) × (id_named (set_of command) h.keys.tree.rows ≡ Some id) =
    subst (λ (r : Plain). (first_of (unmount_cases r (set_of command)) ≡ None) × (id_named (set_of command) r.tree.rows ≡ Some id)) p_is
    (subst (λ (s : List ℕ). (first_of (unmount_cases p s) ≡ None) × (id_named s p.tree.rows ≡ Some id)) set_is found) in
    let under : ServesUnless result h after command None (Some id) =
    subst (λ (r : Plain). ServesUnder result h.families new (family r.tree.rows id) id command (opened_key r (family r.tree.rows id))) q_is is in
    subst (λ (at : Option ℕ). ServesUnless result h after command (file_refusal h.keys (set_of command)) at) (sym there.1)
    (subst (λ (fault : Option Refusal). ServesUnless result h after command fault (Some id)) (sym there.0) under)

pub files_refused : (h : HostState) (p : Plain) (set : List ℕ) (command : FileCmd) (why : Refusal) → p ≡ h.keys → set ≡ set_of command → first_of (unmount_cases p set) ≡ Some why
    → ServesFiles (let reply : Result FileReply AllocError = Ok (replies.Refused why) in reply) h h command
files_refused h p set command why p_is set_is is =
    let refused : file_refusal h.keys (set_of command) ≡ Some why =
    subst (λ (r : Plain). first_of (unmount_cases r (set_of command)) ≡ Some why) p_is (subst (λ (s : List ℕ). first_of (unmount_cases p s) ≡ Some why) set_is is) in
    subst (λ (fault : Option Refusal). ServesUnless (let reply : Result FileReply AllocError = Ok (replies.Refused why) in reply) h h command fault (id_named (set_of command) h.keys.tree.rows)) (sym refused) (refl, refl)
