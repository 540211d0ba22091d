-- The reading of what a write takes over, step by step, over plain variables.
use Rattle.std.proofs.Common.{◌≡◌, ℕ, ◌+◌, ◌-◌, ◌*◌, ◌/◌, ◌<◌, ◌≤◌, List, sym, subst, ◌∙◌, arith, Option, Result, Ok, Err}
use Rattle.std.specs.Prelude.{IfSome}
use Rattle.std.proofs.lemmas.Option.{IfSome_then}
use Rattle.std.proofs.Math.Nat.{mul-add, add-mul, mul-le-mul_left}
use Rattle.block_crypt.specs.Blocks.{KeyValue}
use Rattle.shelf_store.specs.ShelfState.{ShelfState}
use Rattle.indirect_macs.specs.declared.refs.MacError.{MacError}
use Rattle.indirect_macs.specs.declared.refs.MacError.TheVariants.{MacFailed, ShelfFault, Full, NoMemory}
use Rattle.indirect_macs.proofs.Reading.{both}
use Rattle.file_blocks.specs.Objects.{Gives, IsInRange, Reading}
use Rattle.file_blocks.specs.Writes.{Write, count_groups, count_of, first_of, last_of, taken_by, groups_at, new_texts, texts_over}
use Rattle.file_blocks.proofs.NewTexts.{IsWrite, counted_up, in_order, first_stops, one_text, group_stops, last_stops, all_texts}
use Rattle.file_blocks.proofs.Readings.{reading_more, reading_to, reading_ok, reading_err}
use Rattle.file_blocks.proofs.Taking.{in_wider}

-- the numbers at hand are the write's
pub record Ends (w : Write) (first last from count : ℕ) : Type 0 where
  pub is : IsWrite w
  pub first_is : first ≡ first_of w
  pub last_is : last ≡ last_of w
  pub begins : from ≡ first / 32 + 1
  pub counts : count ≡ last / 32 - from

-- what is known on every shelf: the most calls, and which places fail
abbrev most_of : Write → ℕ
most_of w = (w.tree.levels + 1) * (count_groups w + 1)

abbrev InWrite : Write → MacError → Type 0
InWrite w = IsInRange w.tree.levels (first_of w) (count_of w)

one_most : (levels groups : ℕ) → levels + 1 ≤ (levels + 1) * (groups + 1)
one_most levels groups =
    let parts : (levels + 1) * (groups + 1) ≡ (levels + 1) * groups + (levels + 1) * 1 = mul-add (levels + 1) groups 1 in
    let one : (levels + 1) * 1 ≡ levels + 1 = omega arith in
    omega (arith, parts, one)

two_most : (levels count groups : ℕ) → count + 2 ≤ groups + 1 → levels + 1 + (levels * count + (levels + 1)) ≤ (levels + 1) * (groups + 1)
two_most levels count groups enough =
    let most : (levels + 1) * (count + 2) ≤ (levels + 1) * (groups + 1) = mul-le-mul_left (levels + 1) enough in
    let parts : (levels + 1) * (count + 2) ≡ (levels + 1) * count + (levels + 1) * 2 = mul-add (levels + 1) count 2 in
    let under : (levels + 1) * count ≡ levels * count + 1 * count = add-mul levels 1 count in
    let two : (levels + 1) * 2 ≡ levels * 2 + 2 = omega arith in
    omega (arith, most, parts, under, two)

at_end : (w : Write) (index : ℕ) → IsWrite w → first_of w ≤ index → index ≤ last_of w → (stop : MacError) → IsInRange w.tree.levels index 1 stop → InWrite w stop
at_end w index is low high =
    in_wider w.tree.levels index 1 (first_of w) (count_of w) (λ i from to.
    let total = counted_up w is in
    (omega (arith, from, low), omega (arith, to, high, total)))

in_groups : (w : Write) (first last from count : ℕ) → Ends w first last from count → (stop : MacError)
    → IsInRange w.tree.levels (32 * from) (32 * count) stop → InWrite w stop
in_groups w first last from count ends =
    in_wider w.tree.levels (32 * from) (32 * count) (first_of w) (count_of w) (λ i low high.
    let total = counted_up w ends.is in
    (omega (arith, low, ends.first_is, ends.begins), omega (arith, low, high, total, ends.last_is, ends.counts)))

-- ---- the first block

pub begun_stop : {X Y : Type 0} (w : Write) (first : ℕ) (stop : MacError) (s t : ShelfState) → IsWrite w → first ≡ first_of w
    → Reading {X = X} (w.tree.levels + 1) (IsInRange w.tree.levels first 1) (Err stop) s t
    → Reading {X = Y} ((w.tree.levels + 1) * (count_groups w + 1)) (IsInRange w.tree.levels (first_of w) (count_of w)) (Err stop) s t
begun_stop w first stop s t is same reading =
    let order = in_order w is in
    reading_to (w.tree.levels + 1) (most_of w) (IsInRange w.tree.levels first 1) (InWrite w) _ s t (one_most w.tree.levels (count_groups w))
    (at_end w first is (omega (arith, same)) (omega (arith, same, order)))
    (reading_err (w.tree.levels + 1) (IsInRange w.tree.levels first 1) stop s t reading)

pub begun_stopped : {X Y : Type 0} (key : KeyValue) (w : Write) (first : ℕ) (g : X → List ℕ) (f : Y → List (List ℕ)) (stop : MacError) (held : Option (List (List ℕ)))
    → IsWrite w → first ≡ first_of w → IfSome held (λ h. Gives g (taken_by key h w first) (Err stop)) → IfSome held (λ h. Gives f (new_texts key h w) (Err stop))
begun_stopped key w first g f (MacFailed level place) held is same told =
    IfSome_then held told (λ h fails. first_stops key h w (MacFailed level place) is (rw same at fails))
begun_stopped key w first g f ShelfFault held is same told = IfSome_then held told (λ h fails. tt)
begun_stopped key w first g f Full held is same told = IfSome_then held told (λ h fails. fails)
begun_stopped key w first g f NoMemory held is same told = IfSome_then held told (λ h fails. tt)

pub only_text : (key : KeyValue) (w : Write) (first last : ℕ) (front back : List ℕ) (held : Option (List (List ℕ))) → IsWrite w → first ≡ first_of w → last ≡ last_of w
    → last ≡ first → IfSome held (λ h. taken_by key h w first ≡ Ok front) → IfSome held (λ h. new_texts key h w ≡ Ok (texts_over w front back (count_of w)))
only_text key w first last front back held is first_is last_is one told =
    IfSome_then held told (λ h taken. one_text key h w front back is (sym last_is ∙ one ∙ first_is) (rw first_is at taken))

-- ---- the groups between

pub between_stop : {X Y Z : Type 0} (w : Write) (first last from count : ℕ) (x : X) (stop : MacError) (s t u : ShelfState) → Ends w first last from count → first_of w < last_of w
    → Reading (w.tree.levels + 1) (IsInRange w.tree.levels first 1) (Ok x) s t
    → Reading {X = Y} (w.tree.levels * count) (IsInRange w.tree.levels (32 * from) (32 * count)) (Err stop) t u
    → Reading {X = Z} ((w.tree.levels + 1) * (count_groups w + 1)) (IsInRange w.tree.levels (first_of w) (count_of w)) (Err stop) s u
between_stop w first last from count x stop s t u ends several one rest =
    let enough : count + 2 ≤ count_groups w + 1 = omega (arith, ends.first_is, ends.last_is, ends.begins, ends.counts, several) in
    let most = two_most w.tree.levels count (count_groups w) enough in
    reading_to (w.tree.levels + 1 + w.tree.levels * count) (most_of w) (IsInRange w.tree.levels (32 * from) (32 * count)) (InWrite w) _ s u
    (omega (arith, most)) (in_groups w first last from count ends)
    (reading_more (w.tree.levels + 1) (w.tree.levels * count) _ (IsInRange w.tree.levels (32 * from) (32 * count)) x _ s t u one
    (reading_err (w.tree.levels * count) (IsInRange w.tree.levels (32 * from) (32 * count)) stop t u rest))

pub between_stopped : {X Y : Type 0} (key : KeyValue) (w : Write) (first last from count : ℕ) (front : List ℕ) (g : X → Unit {0}) (f : Y → List (List ℕ)) (stop : MacError)
    (held later : Option (List (List ℕ))) → Ends w first last from count → later ≡ held → IfSome held (λ h. taken_by key h w first ≡ Ok front)
    → IfSome later (λ h. Gives g (groups_at h w.record_size w.tree from count) (Err stop)) → IfSome held (λ h. Gives f (new_texts key h w) (Err stop))
between_stopped key w first last from count front g f stop held later ends same taken told =
    both held taken (subst (λ (o : Option (List (List ℕ))). IfSome o (λ h. Gives g (groups_at h w.record_size w.tree from count) (Err stop))) same told)
    (λ h one fails. by_stop h (rw ends.first_is at one) stop fails)
  where
    by_stop : (h : List (List ℕ)) → taken_by key h w (first_of w) ≡ Ok front → (stop : MacError) → Gives g (groups_at h w.record_size w.tree from count) (Err stop)
        → Gives f (new_texts key h w) (Err stop)
    by_stop h one (MacFailed level place) fails =
        group_stops key h w front from count (MacFailed level place) ends.is one (rw ends.first_is at ends.begins) (rw ends.last_is at ends.counts) fails
    by_stop h one ShelfFault fails = tt
    by_stop h one Full fails = fails
    by_stop h one NoMemory fails = tt

-- ---- the last block

ended : {X Y Z : Type 0} (w : Write) (first last from count : ℕ) (x : X) (y : Y) (result : Result Z MacError) (s t u v : ShelfState) → Ends w first last from count
    → first_of w < last_of w
    → Reading (w.tree.levels + 1) (IsInRange w.tree.levels first 1) (Ok x) s t
    → Reading (w.tree.levels * count) (IsInRange w.tree.levels (32 * from) (32 * count)) (Ok y) t u
    → Reading (w.tree.levels + 1) (IsInRange w.tree.levels last 1) result u v
    → Reading ((w.tree.levels + 1) * (count_groups w + 1)) (IsInRange w.tree.levels (first_of w) (count_of w)) result s v
ended w first last from count x y result s t u v ends several one groups rest =
    let enough : count + 2 ≤ count_groups w + 1 = omega (arith, ends.first_is, ends.last_is, ends.begins, ends.counts, several) in
    reading_to (w.tree.levels + 1 + (w.tree.levels * count + (w.tree.levels + 1))) (most_of w) (IsInRange w.tree.levels last 1) (InWrite w) result s v
    (two_most w.tree.levels count (count_groups w) enough) (at_end w last ends.is (omega (arith, several, ends.last_is)) (omega (arith, ends.last_is)))
    (reading_more (w.tree.levels + 1) (w.tree.levels * count + (w.tree.levels + 1)) _ (IsInRange w.tree.levels last 1) x result s t v one
    (reading_more (w.tree.levels * count) (w.tree.levels + 1) _ (IsInRange w.tree.levels last 1) y result t u v groups rest))

pub ended_ok : {X Y Z A : Type 0} (w : Write) (first last from count : ℕ) (x : X) (y : Y) (z : Z) (a : A) (s t u v : ShelfState) → Ends w first last from count
    → first_of w < last_of w
    → Reading (w.tree.levels + 1) (IsInRange w.tree.levels first 1) (Ok x) s t
    → Reading (w.tree.levels * count) (IsInRange w.tree.levels (32 * from) (32 * count)) (Ok y) t u
    → Reading (w.tree.levels + 1) (IsInRange w.tree.levels last 1) (Ok z) u v
    → Reading ((w.tree.levels + 1) * (count_groups w + 1)) (IsInRange w.tree.levels (first_of w) (count_of w)) (Ok a) s v
ended_ok w first last from count x y z a s t u v ends several one groups rest =
    ended w first last from count x y (Ok a) s t u v ends several one groups
    (reading_ok (w.tree.levels + 1) (IsInRange w.tree.levels last 1) (IsInRange w.tree.levels last 1) z a u v rest)

pub ended_err : {X Y Z A : Type 0} (w : Write) (first last from count : ℕ) (x : X) (y : Y) (stop : MacError) (s t u v : ShelfState) → Ends w first last from count
    → first_of w < last_of w
    → Reading (w.tree.levels + 1) (IsInRange w.tree.levels first 1) (Ok x) s t
    → Reading (w.tree.levels * count) (IsInRange w.tree.levels (32 * from) (32 * count)) (Ok y) t u
    → Reading {X = Z} (w.tree.levels + 1) (IsInRange w.tree.levels last 1) (Err stop) u v
    → Reading {X = A} ((w.tree.levels + 1) * (count_groups w + 1)) (IsInRange w.tree.levels (first_of w) (count_of w)) (Err stop) s v
ended_err {A = A} w first last from count x y stop s t u v ends several one groups rest =
    ended {Z = A} w first last from count x y (Err stop) s t u v ends several one groups
    (reading_err (w.tree.levels + 1) (IsInRange w.tree.levels last 1) stop u v rest)

pub ended_told : {X Y : Type 0} (key : KeyValue) (w : Write) (first last from count : ℕ) (front : List ℕ) (g : X → List ℕ) (f : Y → List (List ℕ))
    (seen : Result X MacError) (result : Result Y MacError)
    (held second third : Option (List (List ℕ))) → Ends w first last from count → first_of w < last_of w → second ≡ held → third ≡ held
    → ((h : List (List ℕ)) → taken_by key h w (first_of w) ≡ Ok front → groups_at h w.record_size w.tree from count ≡ Ok tt → Gives g (taken_by key h w (last_of w)) seen
    → Gives f (new_texts key h w) result)
    → IfSome held (λ h. taken_by key h w first ≡ Ok front) → IfSome second (λ h. groups_at h w.record_size w.tree from count ≡ Ok tt)
    → IfSome third (λ h. Gives g (taken_by key h w last) seen) → IfSome held (λ h. Gives f (new_texts key h w) result)
ended_told key w first last from count front g f seen result held second third ends several same_second same_third on taken groups told =
    both held
    (both held {R = λ h. (taken_by key h w first ≡ Ok front) × (groups_at h w.record_size w.tree from count ≡ Ok tt)} taken (subst (λ (o : Option (List (List ℕ))). IfSome o (λ h. groups_at h w.record_size w.tree from count ≡ Ok tt)) same_second groups) (λ h one two. (one, two)))
    (subst (λ (o : Option (List (List ℕ))). IfSome o (λ h. Gives g (taken_by key h w last) seen)) same_third told)
    (λ h first_two third. on h (rw ends.first_is at first_two.0) first_two.1 (rw ends.last_is at third))

pub last_told : (key : KeyValue) (w : Write) (first last from count : ℕ) (front back : List ℕ) → Ends w first last from count → first_of w < last_of w
    → (h : List (List ℕ)) → taken_by key h w (first_of w) ≡ Ok front → groups_at h w.record_size w.tree from count ≡ Ok tt → taken_by key h w (last_of w) ≡ Ok back
    → new_texts key h w ≡ Ok (texts_over w front back (count_of w))
last_told key w first last from count front back ends several h one two three =
    all_texts key h w front back from count ends.is several one (rw ends.first_is at ends.begins) (rw ends.last_is at ends.counts) two three

pub last_stopped : {X Y : Type 0} (key : KeyValue) (w : Write) (first last from count : ℕ) (front : List ℕ) (g : X → List ℕ) (f : Y → List (List ℕ)) (stop : MacError)
    → Ends w first last from count
    → (h : List (List ℕ)) → taken_by key h w (first_of w) ≡ Ok front → groups_at h w.record_size w.tree from count ≡ Ok tt → Gives g (taken_by key h w (last_of w)) (Err stop)
    → Gives f (new_texts key h w) (Err stop)
last_stopped key w first last from count front g f (MacFailed level place) ends h one two fails =
    last_stops key h w front from count (MacFailed level place) ends.is one (rw ends.first_is at ends.begins) (rw ends.last_is at ends.counts) two fails
last_stopped key w first last from count front g f ShelfFault ends h one two fails = tt
last_stopped key w first last from count front g f Full ends h one two fails = fails
last_stopped key w first last from count front g f NoMemory ends h one two fails = tt
