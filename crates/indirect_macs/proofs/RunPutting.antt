-- What putting one node more makes of a level, over plain variables.
use Rattle.std.proofs.Common.{◌≡◌, ℕ, suc, ◌+◌, ◌-◌, ◌<◌, ◌≤◌, Bool, true, false, ◌==◌, ◌&&◌, nat_lt, get_or, List, [], ◌∷◌, ◌++◌, length, map, take, drop, replicate, refl, sym, ap, subst, ◌∙◌, arith, Option, None, Result, Ok, Err, if◌then◌else◌}
use Rattle.std.specs.Prelude.{IfOk, IfErr}
use Rattle.std.specs.Cmp.Lexicographic.{pointwise}
use Rattle.std.specs.Option.{option_eq}
use Rattle.std.proofs.lemmas.Bool.{ne_eqb}
use Rattle.shelf_store.specs.ShelfState.{ShelfState}
use Rattle.indirect_macs.specs.declared.refs.BlockRef.{BlockRef}
use Rattle.indirect_macs.specs.declared.refs.NodeRef.{NodeRef}
use Rattle.indirect_macs.specs.declared.refs.MacError.{MacError}
use Rattle.indirect_macs.specs.declared.refs.MacError.TheVariants.{NoMemory}
use Rattle.indirect_macs.specs.Runs.{Run, Old, Made, Node, entries_at, target, new_ref, new_node, kept, leaf_of, inner_of, same_block, same_node, ref_with, puts_with, begun, nodes_made, levels_made, count_at, first_at, or_hole}
use Rattle.indirect_macs.specs.Steps.{IsRange, Puts, HasPut, added}
use Rattle.indirect_macs.proofs.Putting.{put_all, next_address, put_no_memory, put_front_of, same_puts}
use Rattle.indirect_macs.proofs.RunMade.{whole_front, nodes_front, nodes_raised, begun_refs}
use Rattle.indirect_macs.proofs.RunReading.{if_ok}
use Rattle.indirect_macs.proofs.Spans.{one_of_range}
use Rattle.std.proofs.lemmas.List.{get_or-map, take-map, drop-map}

pub leaf_node : (run : Run) (old : Old) (below : Made) (index : ℕ) (entries : List (Option BlockRef)) → entries ≡ entries_at (target run old) index
    → leaf_of entries ≡ new_node run old 1 below index
unfolding new_node
leaf_node run old below index entries is = ap leaf_of is

pub leaf_kept : (run : Run) (old : Old) (below : Made) (index : ℕ) (before entries : List (Option BlockRef)) (there stays : Option NodeRef) (same : Bool)
    → before ≡ entries_at old.block index → entries ≡ entries_at (target run old) index → there ≡ old.node 1 index
    → same ≡ pointwise (option_eq same_block) before entries → stays ≡ (if same then there else None) → stays ≡ kept run old 1 below index
unfolding kept
leaf_kept run old below index before entries there stays same was is at test stay = stay ∙ rw (test, was, is, at) refl

pub inner_node : (run : Run) (old : Old) (level : ℕ) (below : Made) (index : ℕ) (entries : List (Option NodeRef)) → 2 ≤ level → entries ≡ entries_at (new_ref run old (level - 1) below) index
    → inner_of level entries ≡ new_node run old level below index
unfolding new_node
inner_node run old level below index entries above is =
    let other : (level == 1) ≡ false = ne_eqb level 1 (λ e. omega (arith, e, above)) in
    rw other (ap (inner_of level) is)

pub inner_kept : (run : Run) (old : Old) (level : ℕ) (below : Made) (index : ℕ) (before entries : List (Option NodeRef)) (there stays : Option NodeRef) (same : Bool) → 2 ≤ level
    → before ≡ entries_at (old.node (level - 1)) index → entries ≡ entries_at (new_ref run old (level - 1) below) index → there ≡ old.node level index
    → same ≡ pointwise (option_eq same_node) before entries → stays ≡ (if same then there else None) → stays ≡ kept run old level below index
unfolding kept
inner_kept run old level below index before entries there stays same above was is at test stay =
    let other : (level == 1) ≡ false = ne_eqb level 1 (λ e. omega (arith, e, above)) in
    stay ∙ rw (other, test, was, is, at) refl

-- a node was put, and then its reference kept or not
pub add_done : (base reads : ℕ) (node made_node : Node) (stays made_stays x : Option NodeRef) (made : Made) (refs after : List (Option NodeRef)) (start old new : ShelfState) (result : Result (Unit {0}) MacError)
    → node ≡ made_node → stays ≡ made_stays → base ≡ length start.sizes → refs ≡ made.refs → HasPut reads made.puts start old
    → x ≡ ref_with (length old.sizes) node stays → Puts {X = Option NodeRef} reads (puts_with node stays made.puts) (Ok x) start new
    → IfOk result (λ _. after ≡ refs ++ x ∷ []) → IfErr result (λ stop. stop ≡ NoMemory)
    → IfOk result (λ _. after ≡ (added base made_node made_stays made).refs) × Puts reads (added base made_node made_stays made).puts result start new
add_done base reads node made_node stays made_stays x made refs after start old new (Ok done) is stay at refs_is had value puts pushed stop =
    let address : length old.sizes ≡ base + length made.puts = next_address reads made.puts start old (put_all reads made.puts start old had) ∙ ap (λ (n : ℕ). n + length made.puts) (sym at) in
    let same : Puts {X = Unit {0}} reads (puts_with node stays made.puts) (Ok done) start new = same_puts reads (puts_with node stays made.puts) x done start new puts in
    (pushed ∙ rw (refs_is, value, address, is, stay) refl, rw (is, stay) at same)
add_done base reads node made_node stays made_stays x made refs after start old new (Err stop) is stay at refs_is had value puts pushed gone =
    let same : HasPut reads (puts_with node stays made.puts) start new = same_puts reads (puts_with node stays made.puts) x tt start new puts in (
      tt,
      subst (λ (e : MacError). Puts {X = Unit {0}} reads (puts_with made_node made_stays made.puts) (Err e) start new) (sym gone)
          (rw (is, stay) at (put_no_memory {X = Unit {0}} reads (puts_with node stays made.puts) (puts_with node stays made.puts) start new (whole_front (puts_with node stays made.puts)) same)),
    )

pub add_stopped : (reads : ℕ) (node made_node : Node) (stays made_stays : Option NodeRef) (made : Made) (stop : MacError) (start new : ShelfState)
    → node ≡ made_node → stays ≡ made_stays → Puts {X = Option NodeRef} reads (puts_with node stays made.puts) (Err stop) start new
    → Unit {0} × Puts {X = Unit {0}} reads (puts_with made_node made_stays made.puts) (Err stop) start new
add_stopped reads node made_node stays made_stays made stop start new is stay puts = (
  tt,
  rw (is, stay) at (put_front_of {X = Option NodeRef} {Y = Unit {0}} reads (puts_with node stays made.puts) (puts_with node stays made.puts) stop start new
      (whole_front (puts_with node stays made.puts)) puts),
)

pub raised_put : (run : Run) (base level reads : ℕ) (made : Made) (entries : List (Option NodeRef)) (result : Result (Option NodeRef) MacError) (start old new : ShelfState)
    → (nat_lt run.levels level && nat_lt 0 (first_at run level)) ≡ true → entries ≡ made.raised ∷ replicate 31 None → base ≡ length start.sizes → HasPut reads made.puts start old
    → IfOk result (λ r. r ≡ ref_with (length old.sizes) (inner_of level entries) None) → Puts {X = Option NodeRef} reads (puts_with (inner_of level entries) None made.puts) result start new
    → IfOk result (λ r. r ≡ (begun run base level made).raised) × Puts {X = Option NodeRef} reads (begun run base level made).puts result start new
unfolding begun
raised_put run base level reads made entries result start old new is same at had value puts =
    let address : length old.sizes ≡ base + length made.puts = next_address reads made.puts start old (put_all reads made.puts start old had) ∙ ap (λ (n : ℕ). n + length made.puts) (sym at) in
    rw is (if_ok result (λ r v. v ∙ rw (address, same) refl) value, rw same at puts)

pub not_raised : (run : Run) (base level reads : ℕ) (made : Made) (raised : Option NodeRef) (start old : ShelfState)
    → (nat_lt run.levels level && nat_lt 0 (first_at run level)) ≡ false → raised ≡ made.raised → HasPut reads made.puts start old
    → (raised ≡ (begun run base level made).raised) × Puts {X = Option NodeRef} reads (begun run base level made).puts (Ok raised) start old
unfolding begun
not_raised run base level reads made raised start old is same had = rw is (same, same_puts reads made.puts tt raised start old had)

pub begun_low : (run : Run) (base level : ℕ) (made : Made) → level ≤ run.levels → begun run base level made ≡ record made { refs = [] }
unfolding begun
begun_low run base level made low =
    let is : nat_lt run.levels level ≡ false = grind (arith, low) in
    rw is refl

-- so many nodes of a level
pub record NodesPut (run : Run) (old : Old) (base level : ℕ) (below : Made) (n reads : ℕ) (refs : List (Option NodeRef)) (start new : ShelfState) : Type 0 where
  pub refs_is : refs ≡ (nodes_made run old base level below n).refs
  pub puts : HasPut reads (nodes_made run old base level below n).puts start new

nodes_next : (run : Run) (old : Old) (base level : ℕ) (below : Made) (n : ℕ)
    → added base (new_node run old level below (first_at run level + n)) (kept run old level below (first_at run level + n)) (nodes_made run old base level below n) ≡ nodes_made run old base level below (n + 1)
unfolding nodes_made
nodes_next run old base level below n =
    let next : n + 1 ≡ suc n = omega arith in
    rw next refl

pub nodes_none : (run : Run) (old : Old) (base level reads : ℕ) (below : Made) (start new : ShelfState) → HasPut reads (begun run base level below).puts start new
    → NodesPut run old base level below 0 reads [] start new
unfolding nodes_made
nodes_none run old base level reads below start new had = record { refs_is = sym (begun_refs run base level below); puts = had }

pub nodes_step : (run : Run) (old : Old) (base level reads : ℕ) (below : Made) (n index : ℕ) (refs : List (Option NodeRef)) (start new : ShelfState) → index ≡ first_at run level + n
    → (refs ≡ (added base (new_node run old level below index) (kept run old level below index) (nodes_made run old base level below n)).refs)
    × HasPut reads (added base (new_node run old level below index) (kept run old level below index) (nodes_made run old base level below n)).puts start new
    → NodesPut run old base level below (n + 1) reads refs start new
nodes_step run old base level reads below n index refs start new at put =
    let same = nodes_next run old base level below n in
    record {
      refs_is = put.0 ∙ ap (λ (i : ℕ). (added base (new_node run old level below i) (kept run old level below i) (nodes_made run old base level below n)).refs) at
          ∙ ap (λ (m : Made). m.refs) same;
      puts = subst (λ (w : List (List ℕ)). HasPut reads w start new)
          (ap (λ (i : ℕ). (added base (new_node run old level below i) (kept run old level below i) (nodes_made run old base level below n)).puts) at ∙ ap (λ (m : Made). m.puts) same) put.1;
    }

pub nodes_stop : (X Y : Type 0) (run : Run) (old : Old) (base level reads : ℕ) (below : Made) (n index count : ℕ) (stop : MacError) (start new : ShelfState) → index ≡ first_at run level + n → n < count
    → Puts {X = X} reads (added base (new_node run old level below index) (kept run old level below index) (nodes_made run old base level below n)).puts (Err stop) start new
    → Puts {X = Y} reads (nodes_made run old base level below count).puts (Err stop) start new
nodes_stop X Y run old base level reads below n index count stop start new at few puts =
    put_front_of {X = X} {Y = Y} reads (nodes_made run old base level below (n + 1)).puts (nodes_made run old base level below count).puts stop start new
    (nodes_front run old base level below (n + 1) count (omega (arith, few)))
    (subst (λ (w : List (List ℕ)). Puts {X = X} reads w (Err stop) start new)
    (ap (λ (i : ℕ). (added base (new_node run old level below i) (kept run old level below i) (nodes_made run old base level below n)).puts) at
    ∙ ap (λ (m : Made). m.puts) (nodes_next run old base level below n)) puts)

-- the old node of a touched place
pub old_node : (f : ℕ → Option NodeRef) (from i index : ℕ) (old : List (Result (Option NodeRef) MacError)) → i < length old → index ≡ from + i → IsRange f from (length old) (map or_hole old)
    → or_hole (get_or old i (Ok None)) ≡ f index
old_node f from i index old within at range =
    let g : Result (Option NodeRef) MacError → Option NodeRef = or_hole in
    sym (get_or-map g old i (Ok None) None within) ∙ one_of_range f from (length old) i (map g old) None within range ∙ ap f (sym at)

-- before the lowest level
abbrev pub none_made : Run → Made
none_made run = record { refs = []; raised = run.top; puts = [] }

pub leaves_none : (run : Run) (old : Old) (base reads : ℕ) (start new : ShelfState) → 1 ≤ run.levels → HasPut reads [] start new
    → NodesPut run old base 1 (none_made run) 0 reads [] start new
leaves_none run old base reads start new above had =
    nodes_none run old base 1 reads (none_made run) start new (rw (begun_low run base 1 (none_made run) above) had)

pub leaves_all : (run : Run) (old : Old) (base reads : ℕ) (refs : List (Option NodeRef)) (start new : ShelfState) → 1 ≤ run.levels
    → NodesPut run old base 1 (none_made run) (count_at run 1) reads refs start new
    → ((refs ≡ (levels_made run old base 1).refs) × (run.top ≡ (levels_made run old base 1).raised)) × HasPut reads (levels_made run old base 1).puts start new
unfolding levels_made
leaves_all run old base reads refs start new above so =
    ((so.refs_is, sym (nodes_raised run old base 1 (none_made run) (count_at run 1) ∙ ap (λ (m : Made). m.raised) (begun_low run base 1 (none_made run) above))), so.puts)

pub leaves_stop : (X Y : Type 0) (run : Run) (old : Old) (base reads n index : ℕ) (stop : MacError) (start new : ShelfState) → index ≡ first_at run 1 + n → n < count_at run 1
    → Puts {X = X} reads (added base (new_node run old 1 (none_made run) index) (kept run old 1 (none_made run) index) (nodes_made run old base 1 (none_made run) n)).puts (Err stop) start new
    → Puts {X = Y} reads (levels_made run old base 1).puts (Err stop) start new
unfolding levels_made
leaves_stop X Y run old base reads n index stop start new at few puts =
    nodes_stop X Y run old base 1 reads (none_made run) n index (count_at run 1) stop start new at few puts

pub map_part : {X Y : Type 0} (f : X → Y) (n k : ℕ) (xs : List X) → map f (take n (drop k xs)) ≡ take n (drop k (map f xs))
map_part f n k xs = sym (take-map f n (drop k xs)) ∙ ap (take n) (sym (drop-map f k xs))

pub leaf_added : (run : Run) (old : Old) (base index : ℕ) (one other made : Made)
    → added base (new_node run old 1 one index) (kept run old 1 one index) made ≡ added base (new_node run old 1 other index) (kept run old 1 other index) made
unfolding new_node kept
leaf_added run old base index one other made = refl

pub puts_any : (X Y : Type 0) (reads : ℕ) (whole : List (List ℕ)) (stop : MacError) (start new : ShelfState) → Puts {X = X} reads whole (Err stop) start new → Puts {X = Y} reads whole (Err stop) start new
puts_any X Y reads whole stop start new puts = put_front_of {X = X} {Y = Y} reads whole whole stop start new (whole_front whole) puts

pub level_stop : (X Y : Type 0) (run : Run) (old : Old) (base level reads count : ℕ) (below : Made) (stop : MacError) (start new : ShelfState)
    → Puts {X = X} reads (begun run base level below).puts (Err stop) start new → Puts {X = Y} reads (nodes_made run old base level below count).puts (Err stop) start new
unfolding nodes_made
level_stop X Y run old base level reads count below stop start new puts =
    put_front_of {X = X} {Y = Y} reads (begun run base level below).puts (nodes_made run old base level below count).puts stop start new
    (nodes_front run old base level below 0 count (omega arith)) puts
