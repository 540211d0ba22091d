-- There are no more roots and loaded keys than datasets.
use Rattle.std.proofs.Common.{◌≡◌, ◌∙◌, ◌+◌, ◌⊎◌, ⊎_elim, ℕ, suc, ◌<◌, ◌≤◌, true, false, cond, nat_lt, ◌==◌, List, [], ◌∷◌, length, get_or, map, Some, None, is_some, is_err, Ok, Err, Result, OnOk, OnErr, refl, ap, subst, arith}
use Rattle.std.proofs.lemmas.Bool.{cases_Bool}
use Rattle.std.proofs.lemmas.Bool.Decides.{nat_tests}
use Rattle.std.proofs.lemmas.List.{length_push, length-map}
use Rattle.std.proofs.lemmas.List.Elements.{recursion_from_All}
use Rattle.std.specs.List.{All, AllPairs, AllByRecursion}
use Rattle.dataset_tree.specs.declared.tree.Row.{Row}
use Rattle.dataset_tree.specs.declared.kinds.Kind.{Kind}
use Rattle.dataset_tree.specs.Tree.{Datasets, row_of, with_row}
use Rattle.encryption_roots.specs.ById.{at_id, with_id}
use Rattle.encryption_roots.proofs.ByIdLemmas.{Rises, rises}
use Rattle.key_machine.specs.Plain.{Plain, Ciphers, is_root}
use Rattle.key_machine.specs.Sound.{Sound, IsEncrypted}
use Rattle.encryption_roots.specs.Owners.{family}
use Rattle.key_machine.proofs.DestroyLaws.{family_first}
use Rattle.key_machine.specs.Users.{with_mount}
use Rattle.key_machine.proofs.KeyLists.{each_found, at_id_holds}

pub on_err : {T E : Type 0} (r : Result T E) (P : Type 0) → OnErr r P → is_err r ≡ true → P
on_err (Ok x) P holds err = absurd (cc)
on_err (Err e) P holds err = holds

pub on_ok : {T E : Type 0} (r : Result T E) (P : Type 0) → OnOk r P → is_err r ≡ false → P
on_ok (Ok x) P holds ok = holds
on_ok (Err e) P holds ok = absurd (cc)

-- a tree that isn't full has room for one more
pub one_more_row : (t after : Datasets) (name : List ℕ) (kind : Kind) → after ≡ with_row t name kind 0 → length t.rows < 256 → length after.rows ≤ 256
one_more_row t after name kind added few =
    let long : length after.rows ≡ length t.rows + 1 = ap (λ (tree : Datasets). length tree.rows) added ∙ length_push t.rows _ in
    omega (arith, long, few)

-- a value at a new id makes one more
pub one_more : {X : Type 0} (id : ℕ) (value : X) (entries : List (ℕ × X)) → at_id id entries ≡ None → length entries < length (with_id id value entries)
one_more id value [] new = omega arith
one_more id value (entry ∷ entries) new =
    ⊎_elim
    (λ (c : (entry.0 == id) ≡ true). absurd (let found : Some entry.1 ≡ None = rw c at new in cc))
    (λ (c : (entry.0 == id) ≡ false).
    let rest : length entries < length (with_id id value entries) = one_more id value entries (rw c at new) in
    ⊎_elim
    (λ (lower : nat_lt entry.0 id ≡ true). rw lower (omega (arith, rest)))
    (λ (lower : nat_lt entry.0 id ≡ false). rw (lower, c) (omega arith)) (cases_Bool (nat_lt entry.0 id))) (cases_Bool (entry.0 == id))

abbrev IsThere : List Row → ℕ → Type 0
IsThere rows id = is_some (row_of id rows) ≡ true

abbrev RowsRise : List Row → Type 0
RowsRise [] = Unit {0}
RowsRise (row ∷ rows) = AllByRecursion (λ later. row.id < later.id) rows × RowsRise rows

rows_rise : (rows : List Row) → AllPairs (λ earlier later. earlier.id < later.id) rows → RowsRise rows
rows_rise [] ordered = tt
rows_rise (row ∷ rows) ordered =
    (recursion_from_All (λ later. row.id < later.id) rows (λ k d within. ordered 0 (suc k) d (omega arith) (omega arith)), rows_rise rows (λ i j d before within. ordered (suc i) (suc j) d (omega arith) (omega arith)))

-- a dataset that is among those above a number is above it
above_there : (low id : ℕ) (rows : List Row) → AllByRecursion (λ later. low < later.id) rows → IsThere rows id → low < id
above_there low id [] above there = absurd (cc)
above_there low id (row ∷ rows) above there =
    let cases : (((row.id == id) ≡ true) × (row.id ≡ id)) ⊎ ((row.id == id) ≡ false) = grind (arith, nat_tests) in
    ⊎_elim (λ c. omega (arith, above.0, c.1)) (λ (c : (row.id == id) ≡ false). above_there low id rows above.1 (rw c at there)) cases

module _ {X : Type 0} where
  -- those above the first dataset are among the others
  among_others : (row : Row) (rows : List Row) (entries : List (ℕ × X)) → AllByRecursion (λ entry. row.id < entry.0) entries → AllByRecursion (λ entry. IsThere (row ∷ rows) entry.0) entries
      → AllByRecursion (λ entry. IsThere rows entry.0) entries
  among_others row rows [] above there = tt
  among_others row rows (entry ∷ entries) above there =
      let lower : row.id < entry.0 = above.0 in
      let other : (row.id == entry.0) ≡ false = grind (arith, nat_tests) in
      (rw other at there.0, among_others row rows entries above.1 there.1)

  all_above : (low high : ℕ) (entries : List (ℕ × X)) → low ≤ high → AllByRecursion (λ later. high < later.0) entries → AllByRecursion (λ later. low < later.0) entries
  all_above low high [] le all = tt
  all_above low high (entry ∷ entries) le all = (omega (arith, all.0), all_above low high entries le all.1)

  fewer : (rows : List Row) (entries : List (ℕ × X)) → RowsRise rows → Rises entries → AllByRecursion (λ entry. IsThere rows entry.0) entries → length entries ≤ length rows
  fewer [] [] ordered rising there = omega arith
  fewer [] (entry ∷ entries) ordered rising there = absurd (let none : false ≡ true = there.0 in cc)
  fewer (row ∷ rows) [] ordered rising there = omega arith
  fewer (row ∷ rows) (entry ∷ entries) ordered rising there =
      let cases : (((row.id == entry.0) ≡ true) × (row.id ≡ entry.0)) ⊎ ((row.id == entry.0) ≡ false) = grind (arith, nat_tests) in
      ⊎_elim
      (λ c.
      let rest : length entries ≤ length rows = fewer rows entries ordered.1 rising.1 (among_others row rows entries (all_above row.id entry.0 entries (omega (arith, c.1)) rising.0) there.1) in
      omega (arith, rest))
      (λ (c : (row.id == entry.0) ≡ false).
      let higher : row.id < entry.0 = above_there row.id entry.0 rows ordered.0 (rw c at there.0) in
      let rest : length (entry ∷ entries) ≤ length rows =
      fewer rows (entry ∷ entries) ordered.1 rising (among_others row rows (entry ∷ entries) (higher, all_above row.id entry.0 entries (omega (arith, higher)) rising.0) there) in
      omega (arith, rest)) cases

-- mounts, as a list by id
abbrev by_id : ℕ → ℕ × ℕ
by_id id = (id, id)

mounts_rise : (mounted : List ℕ) → AllPairs (λ a b. a < b) mounted → Rises (map by_id mounted)
mounts_rise [] ordered = tt
mounts_rise (id ∷ mounted) ordered =
    (above id mounted (recursion_from_All (λ later. id < later) mounted (λ k d within. ordered 0 (suc k) d (omega arith) (omega arith))), mounts_rise mounted (λ i j d before within. ordered (suc i) (suc j) d (omega arith) (omega arith)))
  where
    above : (id : ℕ) (mounted : List ℕ) → AllByRecursion (λ later. id < later) mounted → AllByRecursion (λ entry. id < entry.0) (map by_id mounted)
    above id [] all = tt
    above id (next ∷ mounted) all = (all.0, above id mounted all.1)

-- a mount makes one more
pub one_mount_more : (id : ℕ) (mounted : List ℕ) → length (with_mount id mounted) ≡ length mounted + 1
one_mount_more id [] = refl
one_mount_more id (first ∷ later) =
    let rest : length (with_mount id later) ≡ length later + 1 = one_mount_more id later in
    elim (nat_lt id first) as (λ b. length (cond b (id ∷ first ∷ later) (first ∷ with_mount id later)) ≡ length (first ∷ later) + 1) [ true ↦ omega arith | false ↦ omega (arith, rest) ]

module _ (c : Ciphers) (p : Plain) (sound : Sound c p) where
  there : (id : ℕ) → is_root p id ≡ true → IsThere p.tree.rows id
  there id root = let encrypted : IsEncrypted p id = sound.tree.roots_encrypted id root in ap (λ found. is_some found) encrypted.1

  pub roots_fit : length p.roots ≤ length p.tree.rows
  roots_fit =
      let found : All (λ entry. at_id entry.0 p.roots ≡ Some entry.1) p.roots = each_found p.roots sound.tree.roots in
      fewer p.tree.rows p.roots (rows_rise p.tree.rows sound.tree.tree.rising) (rises p.roots sound.tree.roots)
      (recursion_from_All (λ entry. IsThere p.tree.rows entry.0) p.roots (λ k d within. there (get_or p.roots k d).0 (ap (λ at. is_some at) (found k d within))))

  pub loaded_fit : length p.loaded ≤ length p.tree.rows
  loaded_fit =
      fewer p.tree.rows p.loaded (rows_rise p.tree.rows sound.tree.tree.rising) (rises p.loaded sound.keys.loaded)
      (recursion_from_All (λ entry. IsThere p.tree.rows entry.0) p.loaded (λ k d within. there (get_or p.loaded k d).0 (sound.keys.roots k d within)))

  is_there : (id : ℕ) → IsEncrypted p id → IsThere p.tree.rows id
  is_there id encrypted = ap (λ found. is_some found) encrypted.1

  pub mapped_fit : length p.mapped ≤ length p.tree.rows
  mapped_fit =
      fewer p.tree.rows p.mapped (rows_rise p.tree.rows sound.tree.tree.rising) (rises p.mapped sound.mappings.mapped)
      (recursion_from_All (λ entry. IsThere p.tree.rows entry.0) p.mapped (λ k d within. is_there (get_or p.mapped k d).0 (sound.mappings.encrypted k d within)))

  -- a record is that of its family's first dataset
  pub records_fit : length p.wrapped ≤ length p.tree.rows
  records_fit =
      let found : All (λ entry. at_id entry.0 p.wrapped ≡ Some entry.1) p.wrapped = each_found p.wrapped sound.tree.records in
      fewer p.tree.rows p.wrapped (rows_rise p.tree.rows sound.tree.tree.rising) (rises p.wrapped sound.tree.records)
      (recursion_from_All (λ entry. IsThere p.tree.rows entry.0) p.wrapped
      (λ k d within.
      let id : ℕ = (get_or p.wrapped k d).0 in
      let member : (dataset : ℕ) × IsEncrypted p dataset × (family p.tree.rows dataset ≡ id) = (sound.tree.families id).0 (ap (λ at. is_some at) (found k d within)) in
      is_there id (subst (λ (n : ℕ). IsEncrypted p n) member.2 (family_first p sound.tree member.0 member.1).0)))

  -- a mount is that of a mapped dataset
  pub mounts_fit : length p.mounted ≤ length p.tree.rows
  mounts_fit =
      let long : length (map by_id p.mounted) ≡ length p.mounted = length-map p.mounted by_id in
      let rising : Rises (map by_id p.mounted) = mounts_rise p.mounted sound.mappings.mounted in
      let few : length (map by_id p.mounted) ≤ length p.tree.rows =
      fewer p.tree.rows (map by_id p.mounted) (rows_rise p.tree.rows sound.tree.tree.rising) rising
      (mounts_there p.mounted (recursion_from_All (λ id. IsThere p.tree.rows id) p.mounted
      (λ k d within.
      let id : ℕ = get_or p.mounted k d in
      let mapping : (slot : ℕ) × IsEncrypted p id = at_id_holds (λ (m : ℕ × ℕ). IsEncrypted p m.0) id p.mapped sound.mappings.encrypted (sound.mappings.mounts k d within) in
      is_there id mapping.1))) in
      omega (arith, long, few)
    where
      mounts_there : (mounted : List ℕ) → AllByRecursion (λ id. IsThere p.tree.rows id) mounted → AllByRecursion (λ entry. IsThere p.tree.rows entry.0) (map by_id mounted)
      mounts_there [] all = tt
      mounts_there (id ∷ mounted) all = (all.0, mounts_there mounted all.1)
