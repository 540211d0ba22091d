-- Counters of master keys: how many datasets of each family are mapped, once one is mapped or no longer, and once one comes.
use Rattle.std.proofs.Common.{◌≡◌, ◌⊎◌, ⊎_elim, ℕ, zero, suc, ◌+◌, ◌-◌, ◌^◌, ◌<◌, ◌≤◌, Bool, true, false, not, cond, ◌==◌, nat_lt, List, [], ◌∷◌, length, map, Some, None, is_some, get_or, refl, ap, sym, ◌∙◌, subst, arith}
use Rattle.std.proofs.lemmas.Bool.{cases_Bool, cases_eq, eq-eqb, eqb-true, ne_eqb}
use Rattle.std.proofs.lemmas.List.{length-map, with_items_is}
use Rattle.std.specs.Vec.{with_items}
use Rattle.std.proofs.lemmas.List.Elements.{All-head, All-tail}
use Rattle.std.proofs.lemmas.List.Sums.{sum_by-cons, count_by-le-length}
use Rattle.std.specs.Prelude.{min, unwrap_or}
use Rattle.std.specs.List.{All, AllByRecursion, count_by, filter, list_any}
use Rattle.encryption_roots.specs.ById.{IsRisingById, at_id, with_id, without_id}
use Rattle.encryption_roots.specs.Owners.{family}
use Rattle.encryption_roots.proofs.ByIdLemmas.{Rises, rises, rising}
use Rattle.key_machine.specs.Mount.{with_mounted, with_mapping}
use Rattle.key_machine.specs.Create.{new_stored}
use Rattle.key_machine.specs.Plain.{Plain, Stored, Ciphers}
use Rattle.key_machine.specs.Reap.{without_mapping}
use Rattle.key_machine.specs.Sound.{Sound, IsEncrypted}
use Rattle.key_machine.specs.Users.{mkey_users}
use Rattle.dataset_tree.specs.declared.tree.Row.{Row}
use Rattle.encryption_roots.specs.declared.command.KeyCmd.TheVariants as commands
use Rattle.encryption_roots.specs.declared.props.Options.{Options}
use Rattle.encryption_roots.specs.declared.props.Props.{Props}
use Rattle.key_machine.specs.Step.{refusal_of}
use Rattle.key_machine.specs.Told.{Told}
use Rattle.key_machine.proofs.CreateLawsCases.{new_row, roots_with, records_with, loaded_with, created_with}
use Rattle.key_machine.proofs.CreateLawsGrown.{Grows, grown, encrypted_apart, family_stays, family_apart}
use Rattle.key_store.proofs.OpenedLemmas.{created_grows}
use Rattle.std.proofs.lemmas.Bool.Decides.{nat_tests}
use Rattle.key_store.specs.State.{counted_by, AreCounted}
use Rattle.key_store.specs.declared.state.KeyState.TheInside.{Inside}
use Rattle.key_store.proofs.MappingLemmas.{any_counted, any_passes, count_put, count_drop}
use Rattle.key_store.proofs.RoomLemmas.{mapped_fit}

-- ---- counters, as lists

module _ {X : Type 0} where
  rises_counted : (users : ℕ → ℕ) (entries : List (ℕ × X)) → Rises entries → Rises (counted_by users entries)
  rises_counted users [] r = tt
  rises_counted users (entry ∷ entries) r = (above entry.0 entries r.0, rises_counted users entries r.1) where
    above : (low : ℕ) (later : List (ℕ × X)) → AllByRecursion (λ other. low < other.0) later → AllByRecursion (λ other. low < other.0) (counted_by users later)
    above low [] all = tt
    above low (first ∷ later) all = (all.0, above low later all.1)

  pub rising_counted : (users : ℕ → ℕ) (entries : List (ℕ × X)) → IsRisingById entries → IsRisingById (counted_by users entries)
  rising_counted users entries ordered = rising (counted_by users entries) (rises_counted users entries (rises entries ordered))

  pub counted_put : (users : ℕ → ℕ) (id : ℕ) (value : X) (entries : List (ℕ × X)) → with_id id (users id) (counted_by users entries) ≡ counted_by users (with_id id value entries)
  counted_put users id value [] = refl
  counted_put users id value (entry ∷ entries) =
      let rest : with_id id (users id) (counted_by users entries) ≡ counted_by users (with_id id value entries) = counted_put users id value entries in
      let counts : List (ℕ × ℕ) = counted_by users entries in
      elim (nat_lt entry.0 id) as (λ b. cond b ((entry.0, users entry.0) ∷ with_id id (users id) counts) (cond (entry.0 == id) ((id, users id) ∷ counts) ((id, users id) ∷ (entry.0, users entry.0) ∷ counts))
      ≡ counted_by users (cond b (entry ∷ with_id id value entries) (cond (entry.0 == id) ((id, value) ∷ entries) ((id, value) ∷ entry ∷ entries)))) [
        | true ↦ ap (λ (tail : List (ℕ × ℕ)). (entry.0, users entry.0) ∷ tail) rest
        | false ↦ elim (entry.0 == id) as (λ b. cond b ((id, users id) ∷ counts) ((id, users id) ∷ (entry.0, users entry.0) ∷ counts) ≡ counted_by users (cond b ((id, value) ∷ entries) ((id, value) ∷ entry ∷ entries))) [
          | true ↦ refl
          | false ↦ refl
        ]
      ]

  pub counted_without : (users : ℕ → ℕ) (id : ℕ) (entries : List (ℕ × X)) → without_id id (counted_by users entries) ≡ counted_by users (without_id id entries)
  counted_without users id [] = refl
  counted_without users id (entry ∷ entries) =
      let rest : without_id id (counted_by users entries) ≡ counted_by users (without_id id entries) = counted_without users id entries in
      ⊎_elim (λ (gone : (entry.0 == id) ≡ true). rw gone rest)
      (λ (kept : (entry.0 == id) ≡ false). rw kept (ap (λ (tail : List (ℕ × ℕ)). (entry.0, users entry.0) ∷ tail) rest)) (cases_Bool (entry.0 == id))

  pub counted_alike : (one other : ℕ → ℕ) (entries : List (ℕ × X)) → ((id : ℕ) → one id ≡ other id) → counted_by one entries ≡ counted_by other entries
  counted_alike one other [] same = refl
  counted_alike one other (entry ∷ entries) same =
      ap (λ (n : ℕ). (entry.0, n) ∷ counted_by one entries) (same entry.0) ∙ ap (λ (tail : List (ℕ × ℕ)). (entry.0, other entry.0) ∷ tail) (counted_alike one other entries same)

  pub counted_changed : (change : ℕ → ℕ → ℕ) (users : ℕ → ℕ) (entries : List (ℕ × X)) → map (λ entry. (entry.0, change entry.0 entry.1)) (counted_by users entries) ≡ counted_by (λ id. change id (users id)) entries
  counted_changed change users [] = refl
  counted_changed change users (entry ∷ entries) = ap (λ (tail : List (ℕ × ℕ)). (entry.0, change entry.0 (users entry.0)) ∷ tail) (counted_changed change users entries)

  pub counted_at : (users : ℕ → ℕ) (id : ℕ) (entries : List (ℕ × X)) → (at_id id entries ≡ None → users id ≡ 0) → unwrap_or (at_id id (counted_by users entries)) 0 ≡ users id
  counted_at users id [] none = sym (none refl)
  counted_at users id (entry ∷ entries) none = ⊎_elim
      (λ (same : (entry.0 == id) ≡ true). rw same (ap users (eqb-true entry.0 id same)))
      (λ (other : (entry.0 == id) ≡ false). rw other (counted_at users id entries (λ absent. none (rw other absent)))) (cases_Bool (entry.0 == id))

  pub counted_used : (users : ℕ → ℕ) (entries : List (ℕ × X))
      → map {B = ℕ × ℕ} (λ entry. (entry.0, entry.1)) (filter (λ entry. not (entry.1 == 0)) (counted_by users entries)) ≡ map {B = ℕ × ℕ} (λ entry. (entry.0, users entry.0)) (filter (λ entry. not (users entry.0 == 0)) entries)
  counted_used users [] = refl
  counted_used users (entry ∷ entries) =
      ⊎_elim (λ (none : (users entry.0 == 0) ≡ true). rw none (counted_used users entries))
      (λ (some : (users entry.0 == 0) ≡ false). rw some (ap (λ (tail : List (ℕ × ℕ)). (entry.0, users entry.0) ∷ tail) (counted_used users entries))) (cases_Bool (users entry.0 == 0))

pub count_same : {X : Type 0} (one other : X → Bool) (xs : List X) → All (λ x. one x ≡ other x) xs → count_by one xs ≡ count_by other xs
count_same one other [] all = refl
count_same {X} one other (x ∷ xs) all =
    let Same : X → Type 0 = λ y. one y ≡ other y in
    sum_by-cons (λ y. cond (one y) 1 0) x xs ∙ ap (λ b. cond b 1 0 + count_by one xs) (All-head Same x xs all) ∙ ap (λ n. cond (other x) 1 0 + n) (count_same one other xs (All-tail Same x xs all))
    ∙ sym (sum_by-cons (λ y. cond (other y) 1 0) x xs)

-- what a change by entries leaves
pub changed_items : (s : Inside) (change : ℕ × ℕ → ℕ × ℕ) (new : List (ℕ × ℕ)) → new ≡ map change s.mkey_counts.items → (with_items s.mkey_counts new).items ≡ map change s.mkey_counts.items
changed_items s change new are = with_items_is s.mkey_counts new (ap length are ∙ length-map s.mkey_counts.items change ∙ sym s.mkey_counts.ok.0) ∙ are

-- ---- the mapped datasets of a family

abbrev of_family : Plain → ℕ → ℕ × ℕ → Bool
of_family p first mapping = family p.tree.rows mapping.0 == first

-- there are as many counters as records
pub as_many : (p : Plain) (counts : List (ℕ × ℕ)) → AreCounted p counts → length counts ≡ length p.wrapped
as_many p counts are = ap length are ∙ length-map p.wrapped (λ entry. (entry.0, mkey_users p entry.0))

module _ (c : Ciphers) (p : Plain) (s : Sound c p) where
  -- a family of which a dataset is mapped has a record
  pub none_mapped : (id : ℕ) → at_id id p.wrapped ≡ None → mkey_users p id ≡ 0
  none_mapped id absent = by (mkey_users p id) refl where
    by : (n : ℕ) → mkey_users p id ≡ n → n ≡ 0
    by zero is = refl
    by (suc n) is =
        let some : (suc n == 0) ≡ false = grind (arith, nat_tests) in
        let any : list_any (of_family p id) p.mapped ≡ true = any_counted (of_family p id) p.mapped ∙ ap (λ m. not (m == 0)) is ∙ ap not some in
        let one = any_passes (λ mapping. IsEncrypted p mapping.0) (of_family p id) p.mapped s.mappings.encrypted any in
        let some : is_some (at_id id p.wrapped) ≡ true = (s.tree.families id).1 (one.0.0, one.1, eqb-true (family p.tree.rows one.0.0) id one.2) in
        let none : false ≡ true = sym (ap (λ found. is_some found) absent) ∙ some in
        absurd (cc)

  pub few_users : length p.tree.rows ≤ 256 → (id : ℕ) → mkey_users p id ≤ 256
  few_users rows id =
      let counted : mkey_users p id ≤ length p.mapped = count_by-le-length (of_family p id) p.mapped in
      let few : length p.mapped ≤ length p.tree.rows = mapped_fit c p s in
      omega (arith, counted, few, rows)

  -- a counter is that of its family
  pub users_at : (counts : List (ℕ × ℕ)) (id : ℕ) → AreCounted p counts → unwrap_or (at_id id counts) 0 ≡ mkey_users p id
  users_at counts id are = ap (λ found. unwrap_or (at_id id found) 0) are ∙ counted_at (mkey_users p) id p.wrapped (none_mapped id)

  pub rising_counts : (counts : List (ℕ × ℕ)) → AreCounted p counts → IsRisingById counts
  rising_counts counts are = subst (λ (entries : List (ℕ × ℕ)). IsRisingById entries) (sym are) (rising_counted (mkey_users p) p.wrapped s.tree.records)

  -- a dataset is mapped
  pub mapped_counted : (id slot : ℕ) (counts made : List (ℕ × ℕ)) → at_id id p.mapped ≡ None → length p.tree.rows ≤ 256 → AreCounted p counts
      → made ≡ map (λ entry. (entry.0, cond (entry.0 == family p.tree.rows id) (min (entry.1 + 1) (2 ^ 32 - 1)) entry.1)) counts → AreCounted (with_mounted (with_mapping p id slot) id) made
  mapped_counted id slot counts made new rows are made_is =
      let change : ℕ → ℕ → ℕ = λ at n. cond (at == family p.tree.rows id) (min (n + 1) (2 ^ 32 - 1)) n in
      made_is ∙ ap (λ entries. map (λ entry. (entry.0, change entry.0 entry.1)) entries) are ∙ counted_changed change (mkey_users p) p.wrapped
      ∙ counted_alike (λ at. change at (mkey_users p at)) (mkey_users (with_mounted (with_mapping p id slot) id)) p.wrapped
      (λ at. more (family p.tree.rows id) at (mkey_users p at) (few_users rows at) ∙ sym (count_put (of_family p at) id slot p.mapped new))
    where
      more : (own at n : ℕ) → n ≤ 256 → cond (at == own) (min (n + 1) (2 ^ 32 - 1)) n ≡ cond (own == at) 1 0 + n
      more own at n few = ⊎_elim
          (λ (same : at ≡ own). let below : min (n + 1) (2 ^ 32 - 1) ≡ n + 1 = omega (arith, few) in rw (eq-eqb at own same, eq-eqb own at (sym same), below) (omega arith))
          (λ (apart : at ≡ own → ⊥). rw (ne_eqb at own apart, ne_eqb own at (λ same. apart (sym same))) (omega arith)) (cases_eq at own)

  -- a dataset is mapped no longer
  pub unmapped_counted : (id slot : ℕ) (counts made : List (ℕ × ℕ)) → at_id id p.mapped ≡ Some slot → AreCounted p counts
      → made ≡ map (λ entry. (entry.0, cond (entry.0 == family p.tree.rows id) (entry.1 - 1) entry.1)) counts → AreCounted (without_mapping p id) made
  unmapped_counted id slot counts made there are made_is =
      let change : ℕ → ℕ → ℕ = λ at n. cond (at == family p.tree.rows id) (n - 1) n in
      made_is ∙ ap (λ entries. map (λ entry. (entry.0, change entry.0 entry.1)) entries) are ∙ counted_changed change (mkey_users p) p.wrapped
      ∙ counted_alike (λ at. change at (mkey_users p at)) (mkey_users (without_mapping p id)) p.wrapped
      (λ at. ap (λ n. change at n) (count_drop (of_family p at) id slot p.mapped s.mappings.mapped there) ∙ less (family p.tree.rows id) at (mkey_users (without_mapping p id) at))
    where
      less : (own at n : ℕ) → cond (at == own) (cond (own == at) 1 0 + n - 1) (cond (own == at) 1 0 + n) ≡ n
      less own at n = ⊎_elim (λ (same : at ≡ own). rw (eq-eqb at own same, eq-eqb own at (sym same)) (omega arith))
          (λ (apart : at ≡ own → ⊥). rw (ne_eqb at own apart, ne_eqb own at (λ same. apart (sym same))) (omega arith)) (cases_eq at own)

-- ---- a dataset comes

module _ (c : Ciphers) (p : Plain) (row : Row) (roots : List (ℕ × Props)) (wrapped : List (ℕ × Stored)) (loaded : List (ℕ × List ℕ)) (g : Grows p row roots wrapped loaded) (s : Sound c p) where
  pub users_stay : (first : ℕ) → mkey_users (grown p row roots wrapped loaded) first ≡ mkey_users p first
  users_stay first =
      count_same (of_family (grown p row roots wrapped loaded) first) (of_family p first) p.mapped
      (λ k d within. ap (λ n. n == first) (family_stays p row roots wrapped loaded g (get_or p.mapped k d).0 (encrypted_apart p row roots wrapped loaded g (get_or p.mapped k d).0 (s.mappings.encrypted k d within))))

  pub none_new : mkey_users p row.id ≡ 0
  none_new = by (mkey_users p row.id) refl where
    by : (n : ℕ) → mkey_users p row.id ≡ n → n ≡ 0
    by zero is = refl
    by (suc n) is =
        let some : (suc n == 0) ≡ false = grind (arith, nat_tests) in
        let any : list_any (of_family p row.id) p.mapped ≡ true = any_counted (of_family p row.id) p.mapped ∙ ap (λ m. not (m == 0)) is ∙ ap not some in
        let one = any_passes (λ mapping. IsEncrypted p mapping.0) (of_family p row.id) p.mapped s.mappings.encrypted any in
        absurd (family_apart p row roots wrapped loaded g one.0.0 one.1 (eqb-true (family p.tree.rows one.0.0) row.id one.2))

pub created_counted : (c : Ciphers) (p : Plain) (name : List ℕ) (opts : Options) (told : Told) (root encrypted : Bool) (counts made : List (ℕ × ℕ)) → Sound c p → refusal_of p (commands.Create name opts) ≡ None → AreCounted p counts
    → made ≡ cond encrypted (with_id (p.tree.last + 1) 0 counts) counts → AreCounted (created_with p name opts told root encrypted) made
created_counted c p name opts told root encrypted counts made s accepted are made_is =
    by encrypted (created_grows c p name opts told root encrypted s accepted) made_is
  where
    by : (is : Bool) → Grows p (new_row p name is) (roots_with p opts told root) (records_with p opts told is) (loaded_with p told root) → made ≡ cond is (with_id (p.tree.last + 1) 0 counts) counts
        → AreCounted (created_with p name opts told root is) made
    by true g made_is =
        let q : Plain = created_with p name opts told root true in
        let id : ℕ = p.tree.last + 1 in
        let same : (first : ℕ) → mkey_users q first ≡ mkey_users p first = users_stay c p (new_row p name true) (roots_with p opts told root) (records_with p opts told true) (loaded_with p told root) g s in
        let none : mkey_users q id ≡ 0 = same id ∙ none_new c p (new_row p name true) (roots_with p opts told root) (records_with p opts told true) (loaded_with p told root) g s in
        made_is ∙ ap (λ entries. with_id id 0 entries) (are ∙ counted_alike (mkey_users p) (mkey_users q) p.wrapped (λ first. sym (same first)))
        ∙ ap (λ n. with_id id n (counted_by (mkey_users q) p.wrapped)) (sym none) ∙ counted_put (mkey_users q) id (new_stored id opts told) p.wrapped
    by false g made_is =
        let q : Plain = created_with p name opts told root false in
        let same : (first : ℕ) → mkey_users q first ≡ mkey_users p first = users_stay c p (new_row p name false) (roots_with p opts told root) (records_with p opts told false) (loaded_with p told root) g s in
        made_is ∙ are ∙ counted_alike (mkey_users p) (mkey_users q) p.wrapped (λ first. sym (same first))

-- ---- records are written anew

pub written_counted : (p : Plain) (write : ℕ × Stored → Stored) (roots : List (ℕ × Props)) (loaded : List (ℕ × List ℕ)) (counts : List (ℕ × ℕ)) → AreCounted p counts
    → AreCounted (record p { roots = roots; wrapped = map (λ entry. (entry.0, write entry)) p.wrapped; loaded = loaded }) counts
written_counted p write roots loaded counts are = are ∙ by p.wrapped where
  by : (wrapped : List (ℕ × Stored)) → counted_by (mkey_users p) wrapped ≡ counted_by (mkey_users p) (map (λ entry. (entry.0, write entry)) wrapped)
  by [] = refl
  by (entry ∷ wrapped) = ap (λ (tail : List (ℕ × ℕ)). (entry.0, mkey_users p entry.0) ∷ tail) (by wrapped)

-- a record in the place of another one
pub replaced_counted : (p : Plain) (id : ℕ) (value : Stored) (counts : List (ℕ × ℕ)) → is_some (at_id id p.wrapped) ≡ true → IsRisingById p.wrapped → AreCounted p counts → AreCounted (record p { wrapped = with_id id value p.wrapped }) counts
replaced_counted p id value counts there ordered are = are ∙ by p.wrapped (rises p.wrapped ordered) there where
  absent : (entries : List (ℕ × Stored)) → AllByRecursion (λ later. id < later.0) entries → at_id id entries ≡ None
  absent [] all = refl
  absent (entry ∷ entries) all = let other : (entry.0 == id) ≡ false = grind (arith, nat_tests, all.0) in rw other (absent entries all.1)

  beyond : (low : ℕ) (entries : List (ℕ × Stored)) → id < low → AllByRecursion (λ later. low < later.0) entries → AllByRecursion (λ later. id < later.0) entries
  beyond low [] lower all = tt
  beyond low (entry ∷ entries) lower all = (omega (arith, lower, all.0), beyond low entries lower all.1)

  by : (wrapped : List (ℕ × Stored)) → Rises wrapped → is_some (at_id id wrapped) ≡ true → counted_by (mkey_users p) wrapped ≡ counted_by (mkey_users p) (with_id id value wrapped)
  by [] r there = absurd (cc)
  by (entry ∷ wrapped) r there =
      let cases : ((nat_lt entry.0 id ≡ true) × ((entry.0 == id) ≡ false)) ⊎ ((nat_lt entry.0 id ≡ false) × ((entry.0 == id) ≡ true) × (entry.0 ≡ id)) ⊎ ((entry.0 == id) ≡ false) × (id < entry.0) = grind (arith, nat_tests) in
      ⊎_elim (λ c. rw c.0 (ap (λ (tail : List (ℕ × ℕ)). (entry.0, mkey_users p entry.0) ∷ tail) (by wrapped r.1 (rw c.1 at there))))
      (λ rest. ⊎_elim (λ c. rw (c.0, c.1) (ap (λ n. (n, mkey_users p n) ∷ counted_by (mkey_users p) wrapped) c.2))
      (λ c. absurd (let none : at_id id wrapped ≡ None = absent wrapped (beyond entry.0 wrapped c.1 r.0) in let lacks : is_some (at_id id wrapped) ≡ true = rw c.0 at there in let both : false ≡ true = sym (ap (λ found. is_some found) none) ∙ lacks in cc)) rest) cases
