-- What putting blocks leaves of a shelf, block by block.
use Rattle.std.proofs.Common.{◌≡◌, ℕ, zero, suc, ◌+◌, ◌≤◌, Bool, true, false, ◌||◌, List, [], ◌∷◌, ◌++◌, length, map, refl, sym, ap, subst, ◌∙◌, arith, Option, Some, None, Ok, Err}
use Rattle.std.specs.Option.{option_map}
use Rattle.std.proofs.lemmas.List.{append_assoc, append-nil, length-append, map-append}
use Rattle.shelf_store.specs.ShelfState.{ShelfState, is_due, counted, after_calls, with_block}
use Rattle.indirect_macs.specs.declared.refs.NodeRef.{NodeRef}
use Rattle.indirect_macs.specs.declared.refs.MacError.{MacError}
use Rattle.indirect_macs.specs.declared.refs.MacError.TheVariants.{MacFailed, ShelfFault, Full, NoMemory}
use Rattle.indirect_macs.specs.Calls.{fails_within, is_fault}
use Rattle.indirect_macs.specs.Replaced.{with_blocks, IsTooMuch}
use Rattle.indirect_macs.specs.Steps.{Puts, PutEnded, HasPut}
use Rattle.indirect_macs.specs.Runs.{Node, is_put, puts_with, ref_with}
use Rattle.indirect_macs.proofs.Walking.{after_more, fails_more}
use Rattle.indirect_macs.proofs.RunMade.{IsFront, whole_front}

pub not_due : (due : Bool) → (due ≡ true → ⊥) → due ≡ false
not_due true h = absurd (h refl)
not_due false h = refl

-- ---- calls and blocks

block_behind_calls : (calls : ℕ) (s : ShelfState) (b : List ℕ) → with_block (after_calls calls s) b ≡ after_calls calls (with_block s b)
block_behind_calls zero s b = refl
block_behind_calls (suc calls) s b = block_behind_calls calls (counted s) b

option_twice : (o : Option (List (List ℕ))) (p : List (List ℕ)) (b : List ℕ)
    → option_map (λ blocks. blocks ++ b ∷ []) (option_map (λ before. before ++ p) o) ≡ option_map (λ before. before ++ (p ++ b ∷ [])) o
option_twice None p b = refl
option_twice (Some before) p b = ap Some (append_assoc before p (b ∷ []))

block_behind_blocks : (p : List (List ℕ)) (s : ShelfState) (b : List ℕ) → with_block (with_blocks p s) b ≡ with_blocks (p ++ b ∷ []) s
block_behind_blocks p s b =
    let sizes : (s.sizes ++ map length p) ++ length b ∷ [] ≡ s.sizes ++ map length (p ++ b ∷ []) =
    append_assoc s.sizes (map length p) (length b ∷ []) ∙ ap (λ (rest : List ℕ). s.sizes ++ rest) (sym (map-append length p (b ∷ []))) in
    λ i. record s { sizes = sizes i; placed = option_twice s.placed p b i; held = option_twice s.held p b i }

counted_last : (calls : ℕ) (s : ShelfState) → counted (after_calls calls s) ≡ after_calls (calls + 1) s
counted_last calls s = sym (after_more calls 1 s)

or_last : (b : Bool) → (b || false) ≡ b
or_last true = refl
or_last false = refl

due_last : (calls : ℕ) (s : ShelfState) → fails_within calls s.armed ≡ false → fails_within (calls + 1) s.armed ≡ is_due (after_calls calls s).armed
due_last calls s none = fails_more calls 1 s none ∙ or_last (is_due (after_calls calls s).armed)

no_rest : (put rest whole : List (List ℕ)) → put ++ rest ≡ whole → rest ≡ [] → put ≡ whole
no_rest put rest whole parts none = sym (append-nil put) ∙ ap (λ (r : List (List ℕ)). put ++ r) (sym none) ∙ parts

-- all that was to be put was
pub record IsPut (reads : ℕ) (whole : List (List ℕ)) (start new : ShelfState) : Type 0 where
  pub calls : ℕ
  pub bound : calls ≤ reads + length whole
  pub after : new ≡ after_calls calls (with_blocks whole start)
  pub quiet : fails_within calls start.armed ≡ false

pub put_all : (reads : ℕ) (whole : List (List ℕ)) (start new : ShelfState) → HasPut reads whole start new → IsPut reads whole start new
put_all reads whole start new had =
    record {
      calls = had.calls;
      bound = had.bound;
      after = had.after ∙ ap (λ (p : List (List ℕ)). after_calls had.calls (with_blocks p start)) (no_rest had.put had.rest whole had.parts had.ended);
      quiet = sym had.fault;
    }

pub has_put : {X : Type 0} (reads : ℕ) (whole : List (List ℕ)) (x : X) (start new : ShelfState) → IsPut reads whole start new → Puts {X = X} reads whole (Ok x) start new
has_put reads whole x start new put =
    record {
      calls = put.calls;
      put = whole;
      rest = [];
      parts = append-nil whole;
      bound = put.bound;
      after = put.after;
      fault = sym put.quiet;
      ended = refl;
    }

pub sizes_kept : (calls : ℕ) (s : ShelfState) → (after_calls calls s).sizes ≡ s.sizes
sizes_kept zero s = refl
sizes_kept (suc calls) s = sizes_kept calls (counted s)

length-map : (xs : List (List ℕ)) → length (map length xs) ≡ length xs
length-map [] = refl
length-map (x ∷ xs) = ap suc (length-map xs)

-- where the next block comes to stand
pub next_address : (reads : ℕ) (whole : List (List ℕ)) (start new : ShelfState) → IsPut reads whole start new → length new.sizes ≡ length start.sizes + length whole
next_address reads whole start new put =
    ap (λ (s : ShelfState). length s.sizes) put.after ∙ ap length (sizes_kept put.calls (with_blocks whole start))
    ∙ length-append start.sizes (map length whole) ∙ ap (λ (n : ℕ). length start.sizes + n) (length-map whole)

-- one more block
pub put_one : {X : Type 0} (reads : ℕ) (before : List (List ℕ)) (block : List ℕ) (x : X) (start old new : ShelfState) → HasPut reads before start old
    → is_due old.armed ≡ false → new ≡ with_block (counted old) block → Puts {X = X} reads (before ++ block ∷ []) (Ok x) start new
put_one reads before block x start old new had idle after =
    let put = put_all reads before start old had in
    let more : length (before ++ block ∷ []) ≡ length before + 1 = length-append before (block ∷ []) in
    has_put reads (before ++ block ∷ []) x start new (record {
      calls = put.calls + 1;
      bound = omega (arith, more, put.bound);
      after = after ∙ ap (λ (s : ShelfState). with_block (counted s) block) put.after
          ∙ ap (λ (s : ShelfState). with_block s block) (counted_last put.calls (with_blocks before start))
          ∙ block_behind_calls (put.calls + 1) (with_blocks before start) block
          ∙ ap (after_calls (put.calls + 1)) (block_behind_blocks before start block);
      quiet = due_last put.calls (with_blocks before start) put.quiet ∙ ap (λ (s : ShelfState). is_due s.armed) (sym put.after) ∙ idle;
    })

-- a block that wasn't put
pub put_none : {X : Type 0} (reads : ℕ) (before : List (List ℕ)) (block : List ℕ) (stop : MacError) (start old new : ShelfState) → HasPut reads before start old
    → new ≡ counted old → is_fault {X = X} (Err stop) ≡ is_due old.armed → PutEnded {X = X} (block ∷ []) (Err stop) new
    → Puts {X = X} reads (before ++ block ∷ []) (Err stop) start new
put_none reads before block stop start old new had after fault ended =
    let put = put_all reads before start old had in
    let more : length (before ++ block ∷ []) ≡ length before + 1 = length-append before (block ∷ []) in
    record {
      calls = put.calls + 1;
      put = before;
      rest = block ∷ [];
      parts = refl;
      bound = omega (arith, more, put.bound);
      after = after ∙ ap counted put.after ∙ counted_last put.calls (with_blocks before start);
      fault = fault ∙ ap (λ (s : ShelfState). is_due s.armed) put.after ∙ sym (due_last put.calls (with_blocks before start) put.quiet);
      ended = ended;
    }

-- a node that isn't put, and one that is
pub put_kept : (reads : ℕ) (before : List (List ℕ)) (node : Node) (stays x : Option NodeRef) (start old : ShelfState) → is_put node stays ≡ false → HasPut reads before start old
    → Puts {X = Option NodeRef} reads (puts_with node stays before) (Ok x) start old
put_kept reads before node stays x start old not had = rw not (has_put reads before x start old (put_all reads before start old had))

pub same_puts : {X Y : Type 0} (reads : ℕ) (whole : List (List ℕ)) (x : X) (y : Y) (start new : ShelfState) → Puts {X = X} reads whole (Ok x) start new → Puts {X = Y} reads whole (Ok y) start new
same_puts reads whole x y start new had =
    record { calls = had.calls; put = had.put; rest = had.rest; parts = had.parts; bound = had.bound; after = had.after; fault = had.fault; ended = had.ended }

pub too_much_front : (rest more : List (List ℕ)) (s : ShelfState) → IsTooMuch rest s → IsTooMuch (rest ++ more) s
too_much_front [] more s much = absurd much
too_much_front (b ∷ rest) more s much = much

ended_front : (X Y : Type 0) (rest more : List (List ℕ)) (stop : MacError) (s : ShelfState) → PutEnded {X = X} rest (Err stop) s → PutEnded {X = Y} (rest ++ more) (Err stop) s
ended_front X Y rest more (MacFailed level place) s ended = ended
ended_front X Y rest more ShelfFault s ended = tt
ended_front X Y rest more Full s ended = too_much_front rest more s ended
ended_front X Y rest more NoMemory s ended = tt

pub same_fault : (X Y : Type 0) (stop : MacError) → is_fault {X = X} (Err stop) ≡ is_fault {X = Y} (Err stop)
same_fault X Y (MacFailed level place) = refl
same_fault X Y ShelfFault = refl
same_fault X Y Full = refl
same_fault X Y NoMemory = refl

-- more would have been put behind
pub put_front_of : {X Y : Type 0} (reads : ℕ) (whole all : List (List ℕ)) (stop : MacError) (start new : ShelfState) → IsFront whole all
    → Puts {X = X} reads whole (Err stop) start new → Puts {X = Y} reads all (Err stop) start new
put_front_of {X = X} {Y = Y} reads whole all stop start new front had =
    let more : length all ≡ length whole + length front.more = ap length front.is ∙ length-append whole front.more in
    record {
      calls = had.calls;
      put = had.put;
      rest = had.rest ++ front.more;
      parts = sym (append_assoc had.put had.rest front.more) ∙ ap (λ (w : List (List ℕ)). w ++ front.more) had.parts ∙ sym front.is;
      bound = omega (arith, more, had.bound);
      after = had.after;
      fault = same_fault Y X stop ∙ had.fault;
      ended = ended_front X Y had.rest front.more stop new had.ended;
    }

-- memory ran out behind
pub put_no_memory : {X : Type 0} (reads : ℕ) (whole all : List (List ℕ)) (start new : ShelfState) → IsFront whole all
    → HasPut reads whole start new → Puts {X = X} reads all (Err NoMemory) start new
put_no_memory reads whole all start new front had =
    let more : length all ≡ length whole + length front.more = ap length front.is ∙ length-append whole front.more in
    record {
      calls = had.calls;
      put = had.put;
      rest = had.rest ++ front.more;
      parts = sym (append_assoc had.put had.rest front.more) ∙ ap (λ (w : List (List ℕ)). w ++ front.more) had.parts ∙ sym front.is;
      bound = omega (arith, more, had.bound);
      after = had.after;
      fault = had.fault;
      ended = tt;
    }

-- ---- a node of given entries

pub ref_holes : (n : ℕ) (node : Node) (stays : Option NodeRef) → node.holes ≡ true → None ≡ ref_with n node stays
ref_holes n node stays holes = rw holes refl

pub ref_kept : (n : ℕ) (node : Node) (stays : Option NodeRef) (old : NodeRef) → node.holes ≡ false → stays ≡ Some old → Some old ≡ ref_with n node stays
ref_kept n node stays old some is = rw (is, some) refl

pub ref_new : (n addr : ℕ) (mac : List ℕ) (node : Node) (stays : Option NodeRef) → node.holes ≡ false → stays ≡ None → addr ≡ n → mac ≡ node.mac
    → Some (record { addr = addr; mac = mac }) ≡ ref_with n node stays
ref_new n addr mac node stays some none at is = rw (none, some, at, is) refl

pub puts_holes : (reads : ℕ) (before : List (List ℕ)) (node : Node) (stays x : Option NodeRef) (start old : ShelfState) → node.holes ≡ true → HasPut reads before start old
    → Puts {X = Option NodeRef} reads (puts_with node stays before) (Ok x) start old
puts_holes reads before node stays x start old holes had = put_kept reads before node stays x start old (rw holes refl) had

pub puts_kept : (reads : ℕ) (before : List (List ℕ)) (node : Node) (stays x : Option NodeRef) (kept : NodeRef) (start old : ShelfState) → node.holes ≡ false → stays ≡ Some kept
    → HasPut reads before start old → Puts {X = Option NodeRef} reads (puts_with node stays before) (Ok x) start old
puts_kept reads before node stays x kept start old some is had = put_kept reads before node stays x start old (rw (is, some) refl) had

puts_new : (before : List (List ℕ)) (node : Node) (stays : Option NodeRef) (bytes : List ℕ) → node.holes ≡ false → stays ≡ None → bytes ≡ node.bytes
    → before ++ bytes ∷ [] ≡ puts_with node stays before
puts_new before node stays bytes some none is = rw (none, some, is) refl

pub puts_done : (reads : ℕ) (before : List (List ℕ)) (node : Node) (stays x : Option NodeRef) (bytes : List ℕ) (addr : ℕ) (start new : ShelfState) → node.holes ≡ false → stays ≡ None
    → bytes ≡ node.bytes → Puts {X = ℕ} reads (before ++ bytes ∷ []) (Ok addr) start new → Puts {X = Option NodeRef} reads (puts_with node stays before) (Ok x) start new
puts_done reads before node stays x bytes addr start new some none is put =
    subst (λ (whole : List (List ℕ)). Puts {X = Option NodeRef} reads whole (Ok x) start new) (puts_new before node stays bytes some none is)
    (same_puts reads (before ++ bytes ∷ []) addr x start new put)

pub puts_stopped : (reads : ℕ) (before : List (List ℕ)) (node : Node) (stays : Option NodeRef) (bytes : List ℕ) (stop : MacError) (start new : ShelfState) → node.holes ≡ false → stays ≡ None
    → bytes ≡ node.bytes → Puts {X = ℕ} reads (before ++ bytes ∷ []) (Err stop) start new → Puts {X = Option NodeRef} reads (puts_with node stays before) (Err stop) start new
puts_stopped reads before node stays bytes stop start new some none is put =
    subst (λ (whole : List (List ℕ)). Puts {X = Option NodeRef} reads whole (Err stop) start new) (puts_new before node stays bytes some none is)
    (put_front_of {X = ℕ} {Y = Option NodeRef} reads (before ++ bytes ∷ []) (before ++ bytes ∷ []) stop start new (whole_front (before ++ bytes ∷ [])) put)
