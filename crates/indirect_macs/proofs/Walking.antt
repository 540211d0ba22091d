-- How the walk goes on from one node, over plain variables.
use Rattle.std.proofs.Common.{◌≡◌, ℕ, zero, suc, ◌+◌, ◌-◌, ◌*◌, ◌≤◌, Bool, true, false, ◌||◌, ◌==◌, List, length, map, take, drop, refl, sym, ap, subst, ◌∙◌, arith, Option, Some, None, Result, Ok, Err, if◌then◌else◌}
use Rattle.std.specs.Prelude.{IfSome, IfErr}
use Rattle.std.specs.Option.{option_map_or}
use Rattle.std.proofs.lemmas.Bool.{ne_eqb}
use Rattle.std.proofs.lemmas.Option.{IfSome_then}
use Rattle.shelf_store.specs.ShelfState.{ShelfState, is_due, armed_after, faults_after, counted, after_calls}
use Rattle.shelf_store.proofs.ArmingLaws.{faults_after-idle, armed_after-None, armed_after-due}
use Rattle.indirect_macs.specs.declared.refs.BlockRef.{BlockRef}
use Rattle.indirect_macs.specs.declared.refs.NodeRef.{NodeRef}
use Rattle.indirect_macs.specs.declared.refs.MacError.{MacError}
use Rattle.indirect_macs.specs.declared.refs.MacError.TheVariants.{MacFailed, ShelfFault, Full, NoMemory}
use Rattle.indirect_macs.specs.Nodes.{entry_at}
use Rattle.indirect_macs.specs.Walk.{names_node, reads_of, next_block, next_node, goes_on, walk, reads, fails_at}
use Rattle.indirect_macs.specs.Calls.{answered, fails_within, Gave, Answers, IsOver}
use Rattle.indirect_macs.proofs.Reading.{both, passed_unnamed}

-- ---- the entry that leads on

pub entry_above : (level slot at : ℕ) (node : List ℕ) → 2 ≤ level → at ≡ 25 * slot → take (at + 25 - at) (drop at node) ≡ entry_at level node slot
entry_above level slot at node above is =
    let other : (level == 1) ≡ false = ne_eqb level 1 (λ e. omega (arith, e, above)) in
    let width : at + 25 - at ≡ 25 = omega arith in
    rw (other, width, is) refl

pub entry_below : (slot at : ℕ) (node : List ℕ) → at ≡ 49 * slot → take (at + 49 - at) (drop at node) ≡ entry_at 1 node slot
entry_below slot at node is =
    let width : at + 49 - at ≡ 49 = omega arith in
    rw (width, is) refl

-- ---- from the test of a node to what stands in it

answer_fails : {X : Type 0} (f : List ℕ → X) (fails : Bool) (found : Option (List ℕ)) (failed stop : MacError)
    → (let tested : Result (Unit {0}) MacError = Err stop in tested ≡ (if fails then Err ShelfFault else option_map_or (λ _. Ok tt) found (Err failed)))
    → (let given : Result X MacError = Err stop in given ≡ (if fails then Err ShelfFault else option_map_or (λ bytes. Ok (f bytes)) found (Err failed)))
answer_fails f true found failed stop same = cc
answer_fails f false None failed stop same = cc
answer_fails f false (Some bytes) failed stop same = cc

pub gave_err : {X : Type 0} (f : List ℕ → X) (calls : ℕ) (found : Option (List ℕ)) (failed stop : MacError) (s t : ShelfState)
    → Gave {X = Unit {0}} calls (option_map_or (λ _. Ok tt) found (Err failed)) (Err stop) s t
    → Gave {X = X} calls (option_map_or (λ bytes. Ok (f bytes)) found (Err failed)) (Err stop) s t
gave_err f calls found failed stop s t gave =
    record { given = answer_fails f (fails_within calls s.armed) found failed stop gave.given; after = gave.after }

answer_stands : {X : Type 0} (fails : Bool) (y : Result (Unit {0}) MacError) (x : Result X MacError)
    → Ok tt ≡ (if fails then Err ShelfFault else y) → x ≡ (if fails then Err ShelfFault else x)
answer_stands true y x same = cc
answer_stands false y x same = refl

pub gave_ok : {X : Type 0} (f : List ℕ → X) (calls : ℕ) (found : Option (List ℕ)) (failed : MacError) (bytes : List ℕ) (s t : ShelfState)
    → Gave {X = Unit {0}} calls (option_map_or (λ _. Ok tt) found (Err failed)) (Ok tt) s t → found ≡ Some bytes
    → Gave {X = X} calls (option_map_or (λ bytes. Ok (f bytes)) found (Err failed)) (Ok (f bytes)) s t
gave_ok f calls found failed bytes s t gave is =
    rw is (record { given = answer_stands (fails_within calls s.armed) _ (Ok (f bytes)) gave.given; after = gave.after })

-- ---- calls one after another

idle_same : (s : ShelfState) → s.armed ≡ None → counted s ≡ s
idle_same s none =
    let armed : armed_after s.armed ≡ s.armed = rw none armed_after-None in
    let faults : faults_after s.armed s.faults ≡ s.faults = faults_after-idle s.armed s.faults (rw none refl) in
    λ i. record s { faults = faults i; armed = armed i }

idle_stays : (calls : ℕ) (s : ShelfState) → s.armed ≡ None → after_calls calls s ≡ s
idle_stays zero s none = refl
idle_stays (suc calls) s none =
    ap (after_calls calls) (idle_same s none) ∙ idle_stays calls s none

pub held_kept : (calls : ℕ) (s : ShelfState) → (after_calls calls s).held ≡ s.held
held_kept zero s = refl
held_kept (suc calls) s = held_kept calls (counted s)

pub after_more : (n m : ℕ) (s : ShelfState) → after_calls (n + m) s ≡ after_calls m (after_calls n s)
after_more zero m s = let e : 0 + m ≡ m = omega arith in rw e refl
after_more (suc n) m s =
    let e : suc n + m ≡ suc (n + m) = omega arith in
    ap (λ (k : ℕ). after_calls k s) e ∙ after_more n m (counted s)

or_false : (a b : Bool) → (a || b) ≡ false → (a ≡ false) × (b ≡ false)
or_false true b h = cc
or_false false b h = (refl, h)

pub fails_more : (n m : ℕ) (s : ShelfState) → fails_within n s.armed ≡ false → fails_within (n + m) s.armed ≡ fails_within m (after_calls n s).armed
fails_more zero m s none = let e : 0 + m ≡ m = omega arith in rw e refl
fails_more (suc n) m s none =
    let e : suc n + m ≡ suc (n + m) = omega arith in
    let parts = or_false (is_due s.armed) (fails_within n (armed_after s.armed)) none in
    ap (λ (k : ℕ). fails_within k s.armed) e ∙ rw parts.0 (fails_more n m (counted s) parts.1)

wider : {X : Type 0} (levels index : ℕ) (result : Result X MacError) → 1 ≤ levels → IfErr result (IsOver (levels - 1) index) → IfErr result (IsOver levels index)
wider levels index (Ok x) above over = tt
wider levels index (Err (MacFailed level place)) above over = (over.0, omega (arith, above, over.1), over.2)
wider levels index (Err ShelfFault) above over = tt
wider levels index (Err Full) above over = over
wider levels index (Err NoMemory) above over = over

pub answers_go_on : {X Y : Type 0} (level index : ℕ) (child : X) (result : Result Y MacError) (s m t : ShelfState) → 1 ≤ level
    → Answers level 1 index (Ok child) s m → Answers (level - 1) (level - 1) index result m t → Answers level level index result s t
answers_go_on level index child result s m t above first rest =
    record {
      calls = first.calls + rest.calls;
      bound = omega (arith, first.bound, rest.bound, above);
      after = rest.after ∙ ap (after_calls rest.calls) first.after ∙ sym (after_more first.calls rest.calls s);
      fault =
          rest.fault ∙ ap (λ (state : ShelfState). fails_within rest.calls state.armed) first.after
          ∙ sym (fails_more first.calls rest.calls s (sym first.fault));
      failure = wider level index result above rest.failure;
    }

-- ---- the walk where its node fails

-- by cases on whether the address names a node, and whether the call is due
pub stops : {Y : Type 0} (named : Bool) (next : Result (Option NodeRef) MacError) (stop : MacError) (on : Option NodeRef → Result Y MacError) (more : Option NodeRef → ℕ) (s m : ShelfState)
    → Gave (if named then 1 else 0) next (Err stop) s m
    → Gave (if named then suc (goes_on more (λ _. 0) next) else 0) (goes_on on (λ failed. Err failed) next) (Err stop) s m
stops false next stop on more s m gave =
    let is : next ≡ Err stop = sym gave.given in
    rw is (record { given = refl; after = gave.after })
stops true next stop on more s m gave = by_due (is_due s.armed) refl
  where
    by_due : (due : Bool) → is_due s.armed ≡ due → Gave (suc (goes_on more (λ _. 0) next)) (goes_on on (λ failed. Err failed) next) (Err stop) s m
    by_due true due =
        let fault = rw due at gave.given in
        let same : stop ≡ ShelfFault = cc in
        record {
          given = rw (due, same) refl;
          after = gave.after ∙ sym (idle_stays (goes_on more (λ _. 0) next) (counted s) (armed_after-due s.armed due));
        }
    by_due false idle =
        let is : next ≡ Err stop = sym (rw idle at gave.given) in
        rw is (record { given = rw idle refl; after = gave.after })

pub walk_stops : (record_size index below : ℕ) (node : NodeRef) (stop : MacError) (s m : ShelfState)
    → IfSome s.held (λ held. Gave (reads_of (map length held) (below + 2) node) (next_node held record_size index (below + 2) node) (Err stop) s m)
    → IfSome s.held (λ held. Gave (reads held record_size index (suc below) (Some node)) (walk held record_size index (suc below) (Some node)) (Err stop) s m)
unfolding walk reads
walk_stops record_size index below node stop s m first =
    IfSome_then s.held first (λ held gave.
    stops (names_node (map length held) (below + 2) node.addr) (next_node held record_size index (below + 2) node) stop
    (λ next. walk held record_size index below next) (λ next. reads held record_size index below next) s m gave)

-- ---- the walk where its node passes

-- the reference of a place whose address names no node leads nowhere
pub next_unnamed : (held : List (List ℕ)) (record_size index level : ℕ) (node : NodeRef) → names_node (map length held) level node.addr ≡ false
    → next_node held record_size index level node ≡ Err (fails_at level index)
unfolding next_node
next_unnamed held record_size index level node other = rw (passed_unnamed held record_size level node other) refl

pub goes : {Y : Type 0} (named : Bool) (next : Result (Option NodeRef) MacError) (failed : MacError) (child : Option NodeRef) (on : Option NodeRef → Result Y MacError) (more : Option NodeRef → ℕ)
    (result : Result Y MacError) (s m t : ShelfState) → (named ≡ false → next ≡ Err failed)
    → Gave (if named then 1 else 0) next (Ok child) s m → Gave (more child) (on child) result m t
    → Gave (if named then suc (goes_on more (λ _. 0) next) else 0) (goes_on on (λ failed. Err failed) next) result s t
goes false next failed child on more result s m t unnamed gave rest =
    let one = gave.given in
    let other : next ≡ Err failed = unnamed refl in
    absurd (cc)
goes true next failed child on more result s m t unnamed gave rest = by_due (is_due s.armed) refl
  where
    by_due : (due : Bool) → is_due s.armed ≡ due → Gave (suc (goes_on more (λ _. 0) next)) (goes_on on (λ failed. Err failed) next) result s t
    by_due true due =
        let fault = rw due at gave.given in
        absurd (cc)
    by_due false idle =
        let is : next ≡ Ok child = sym (rw idle at gave.given) in
        rw is (record {
          given = rw idle (rest.given ∙ ap (λ (state : ShelfState). answered (more child) (on child) state.armed) gave.after);
          after = rest.after ∙ ap (after_calls (more child)) gave.after;
        })

pub walk_goes_on : (record_size index below : ℕ) (node : NodeRef) (child : Option NodeRef) (result : Result (Option BlockRef) MacError) (calls : ℕ) (s m t : ShelfState)
    → m ≡ after_calls calls s
    → IfSome s.held (λ held. Gave (reads_of (map length held) (below + 2) node) (next_node held record_size index (below + 2) node) (Ok child) s m)
    → IfSome m.held (λ held. Gave (reads held record_size index below child) (walk held record_size index below child) result m t)
    → IfSome s.held (λ held. Gave (reads held record_size index (suc below) (Some node)) (walk held record_size index (suc below) (Some node)) result s t)
unfolding walk reads
walk_goes_on record_size index below node child result calls s m t after first rest =
    let kept : m.held ≡ s.held = ap (λ (state : ShelfState). state.held) after ∙ held_kept calls s in
    let later = subst (λ (told : Option (List (List ℕ))). IfSome told (λ held. Gave (reads held record_size index below child) (walk held record_size index below child) result m t)) kept rest in
    both s.held first later (λ held gave more.
    goes (names_node (map length held) (below + 2) node.addr) (next_node held record_size index (below + 2) node) (fails_at (below + 2) index) child
    (λ next. walk held record_size index below next) (λ next. reads held record_size index below next) result s m t
    (next_unnamed held record_size index (below + 2) node) gave more)

-- ---- at a hole

pub walk_hole : (record_size index below : ℕ) (s : ShelfState)
    → IfSome s.held (λ held. Gave (reads held record_size index below None) (walk held record_size index below None) (Ok None) s s)
unfolding walk reads
walk_hole record_size index below s = at_each s.held (λ held. by_level held below)
  where
    by_level : (held : List (List ℕ)) (below : ℕ) → Gave (reads held record_size index below None) (walk held record_size index below None) (Ok None) s s
    by_level held zero = record { given = refl; after = refl }
    by_level held (suc below) = record { given = refl; after = refl }

    at_each : {X : Type 0} (o : Option X) {P : X → Type 0} → ((x : X) → P x) → IfSome o P
    at_each None p = tt
    at_each (Some x) p = p x

-- ---- by the level of the node

pub stops_at : (record_size index level : ℕ) (node : NodeRef) (stop : MacError) (s m : ShelfState) → 2 ≤ level
    → IfSome s.held (λ held. Gave (reads_of (map length held) level node) (next_node held record_size index level node) (Err stop) s m)
    → IfSome s.held (λ held. Gave (reads held record_size index (level - 1) (Some node)) (walk held record_size index (level - 1) (Some node)) (Err stop) s m)
stops_at record_size index level node stop s m above first =
    let whole : level ≡ level - 2 + 2 = omega arith in
    let low : level - 1 ≡ suc (level - 2) = omega arith in
    let Told : ℕ → Type 0 = λ l. IfSome s.held (λ held. Gave (reads_of (map length held) l node) (next_node held record_size index l node) (Err stop) s m) in
    rw low (walk_stops record_size index (level - 2) node stop s m (subst Told whole first))

pub goes_on_at : (record_size index level : ℕ) (node : NodeRef) (child : Option NodeRef) (result : Result (Option BlockRef) MacError) (calls : ℕ) (s m t : ShelfState)
    → 2 ≤ level → m ≡ after_calls calls s
    → IfSome s.held (λ held. Gave (reads_of (map length held) level node) (next_node held record_size index level node) (Ok child) s m)
    → IfSome m.held (λ held. Gave (reads held record_size index (level - 1 - 1) child) (walk held record_size index (level - 1 - 1) child) result m t)
    → IfSome s.held (λ held. Gave (reads held record_size index (level - 1) (Some node)) (walk held record_size index (level - 1) (Some node)) result s t)
goes_on_at record_size index level node child result calls s m t above after first rest =
    let whole : level ≡ level - 2 + 2 = omega arith in
    let low : level - 1 ≡ suc (level - 2) = omega arith in
    let lower : level - 1 - 1 ≡ level - 2 = omega arith in
    let First : ℕ → Type 0 = λ l. IfSome s.held (λ held. Gave (reads_of (map length held) l node) (next_node held record_size index l node) (Ok child) s m) in
    let Rest : ℕ → Type 0 = λ b. IfSome m.held (λ held. Gave (reads held record_size index b child) (walk held record_size index b child) result m t) in
    rw low (walk_goes_on record_size index (level - 2) node child result calls s m t after (subst First whole first) (subst Rest lower rest))

pub at_level_one : (record_size index level : ℕ) (node : NodeRef) (result : Result (Option BlockRef) MacError) (s t : ShelfState) → level ≡ 1
    → IfSome s.held (λ held. Gave (reads_of (map length held) 1 node) (next_block held record_size index node) result s t)
    → IfSome s.held (λ held. Gave (reads held record_size index (level - 1) (Some node)) (walk held record_size index (level - 1) (Some node)) result s t)
unfolding walk reads
at_level_one record_size index level node result s t one told =
    let low : level - 1 ≡ zero = omega arith in
    rw low told
