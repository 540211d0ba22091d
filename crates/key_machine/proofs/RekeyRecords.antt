-- Records that are written anew: where they stand, and to what they open.
use Rattle.std.proofs.Common.{◌≡◌, ◌≢◌, ⊎_elim, ℕ, suc, ◌+◌, ◌<◌, true, false, cond, ◌==◌, List, [], ◌∷◌, length, map, Option, Some, None, is_some, option_map, refl, ap, sym, ◌∙◌, subst, arith}
use Rattle.std.proofs.lemmas.Bool.{eq-eqb, ne_eqb, cases_eq, cases_Bool}
use Rattle.std.proofs.lemmas.List.Elements.{All-nil, All-cons, All-head, All-tail}
use Rattle.std.proofs.lemmas.List.Kept.{AllPairs-cons}
use Rattle.std.specs.Prelude.{unwrap_or}
use Rattle.std.specs.List.{All, list_any}
use Rattle.encryption_roots.specs.ById.{IsRisingById, at_id}
use Rattle.key_machine.specs.Plain.{Stored, Ciphers, is_same}
use Rattle.key_machine.specs.Rekey.{sealed_anew, rewrapped, with_record, with_records}
use Rattle.salt_rotation.specs.Places.{vector_place}
use Rattle.key_machine.proofs.KeyLists.{at_id_is}

-- ---- a list whose values are changed by id

pub at_id-map : {X Y : Type 0} (change : ℕ × X → Y) (id : ℕ) (entries : List (ℕ × X)) → at_id id (map (λ entry. (entry.0, change entry)) entries) ≡ option_map (λ x. change (id, x)) (at_id id entries)
at_id-map change id [] = refl
at_id-map change id (entry ∷ entries) =
    let rest = at_id-map change id entries in
    ⊎_elim (λ (same : entry.0 ≡ id). rw (eq-eqb entry.0 id same) (ap (λ at. Some (change (at, entry.1))) same)) (λ (apart : entry.0 ≢ id). rw (ne_eqb entry.0 id apart) rest) (cases_eq entry.0 id)

ids_have : {X Y : Type 0} (change : ℕ × X → Y) (P : ℕ → Type 0) (entries : List (ℕ × X)) → All (λ (entry : ℕ × X). P entry.0) entries
    → All (λ (entry : ℕ × Y). P entry.0) (map (λ (entry : ℕ × X). (entry.0, change entry)) entries)
ids_have {X} {Y} change P [] all = All-nil (λ (entry : ℕ × Y). P entry.0)
ids_have {X} {Y} change P (entry ∷ entries) all =
    All-cons (λ (e : ℕ × Y). P e.0) (entry.0, change entry) (map (λ (e : ℕ × X). (e.0, change e)) entries) (All-head (λ (e : ℕ × X). P e.0) entry entries all)
    (ids_have change P entries (All-tail (λ (e : ℕ × X). P e.0) entry entries all))

pub rising-map : {X Y : Type 0} (change : ℕ × X → Y) (entries : List (ℕ × X)) → IsRisingById entries → IsRisingById (map (λ entry. (entry.0, change entry)) entries)
rising-map change [] rising = λ i j d before within. absurd (omega arith)
rising-map change (entry ∷ entries) rising =
    let rest = rising-map change entries (λ i j d before within. rising (suc i) (suc j) d (omega arith) (omega arith)) in
    let above = ids_have change (λ id. entry.0 < id) entries (λ k d within. rising 0 (suc k) d (omega arith) (omega arith)) in
    AllPairs-cons (λ a b. a.0 < b.0) (entry.0, change entry) (map (λ e. (e.0, change e)) entries) above rest

-- whether a value is there, by the ids alone
pub there_by_ids : {X : Type 0} (id : ℕ) (entries : List (ℕ × X)) → is_some (at_id id entries) ≡ list_any (λ at. at == id) (map (λ entry. entry.0) entries)
there_by_ids id [] = refl
there_by_ids id (entry ∷ entries) =
    let rest = there_by_ids id entries in
    ⊎_elim (λ (same : (entry.0 == id) ≡ true). rw same refl) (λ (apart : (entry.0 == id) ≡ false). rw apart rest) (cases_Bool (entry.0 == id))

pub there_alike : {X Y : Type 0} (id : ℕ) (entries : List (ℕ × X)) (others : List (ℕ × Y)) → map (λ entry. entry.0) entries ≡ map (λ entry. entry.0) others
    → is_some (at_id id entries) ≡ is_some (at_id id others)
there_alike id entries others same = there_by_ids id entries ∙ ap (λ ids. list_any (λ at. at == id) ids) same ∙ sym (there_by_ids id others)

-- ---- the stored records, with those that were written

abbrev changed_record : (ℕ → Option ℕ) → ℕ → List (ℕ × List ℕ) → ℕ × Stored → Stored
changed_record owner root records entry = cond (is_same root (owner entry.0)) (with_record records entry) entry.1

module _ (owner : ℕ → Option ℕ) (root : ℕ) (records : List (ℕ × List ℕ)) (stored : List (ℕ × Stored)) where
  pub records_rise : IsRisingById stored → IsRisingById (with_records owner root records stored)
  records_rise rising = rising-map (changed_record owner root records) stored rising

  some_mapped : {X Y : Type 0} (f : X → Y) (found : Option X) → is_some (option_map f found) ≡ is_some found
  some_mapped f None = refl
  some_mapped f (Some x) = refl

  pub records_there : (id : ℕ) → is_some (at_id id (with_records owner root records stored)) ≡ is_some (at_id id stored)
  records_there id = ap (λ found. is_some found) (at_id-map (changed_record owner root records) id stored) ∙ some_mapped (λ x. changed_record owner root records (id, x)) (at_id id stored)

  mapped_same : (change : Stored → Stored) (found : Option Stored) → ((x : Stored) → change x ≡ x) → option_map change found ≡ found
  mapped_same change None same = refl
  mapped_same change (Some x) same = ap (λ y. Some y) (same x)

  -- the record of a family that the root doesn't own stays
  pub records_kept : (id : ℕ) → is_same root (owner id) ≡ false → at_id id (with_records owner root records stored) ≡ at_id id stored
  records_kept id other = at_id-map (changed_record owner root records) id stored
      ∙ mapped_same (λ x. changed_record owner root records (id, x)) (at_id id stored) (λ x. ap (λ b. cond b (with_record records (id, x)) x) other)

  -- that of one which it owns is the written one
  pub records_written : (id : ℕ) (old : Stored) → is_same root (owner id) ≡ true → at_id id stored ≡ Some old
      → at_id id (with_records owner root records stored) ≡ Some (with_record records (id, old))
  records_written id old own there = at_id-map (changed_record owner root records) id stored
      ∙ ap (λ found. option_map (λ x. changed_record owner root records (id, x)) found) there ∙ ap (λ b. Some (cond b (with_record records (id, old)) old)) own

-- ---- what was written opens

found_one : {X : Type 0} (found : Option X) → is_some found ≡ true → (x : X) × (found ≡ Some x)
found_one None h = absurd (cc)
found_one (Some x) h = (x, refl)

pub written : (records : List (ℕ × List ℕ)) (id : ℕ) (old : List ℕ) (P : ℕ × List ℕ → Type 0) → All P records → is_some (at_id id records) ≡ true → P (id, unwrap_or (at_id id records) old)
written records id old P all there =
    let found = found_one (at_id id records) there in
    subst (λ (o : Option (List ℕ)). P (id, unwrap_or o old)) (sym found.1) (at_id_is P id records found.0 all found.1)

-- ---- records anew

-- they are of the same families
pub rewrapped_ids : (c : Ciphers) (seed old new : List ℕ) (i : ℕ) (entries : List (ℕ × Stored)) → map (λ entry. entry.0) (rewrapped c seed old new i entries) ≡ map (λ entry. entry.0) entries
rewrapped_ids c seed old new i [] = refl
rewrapped_ids c seed old new i (entry ∷ entries) = ap (λ ids. entry.0 ∷ ids) (rewrapped_ids c seed old new (i + 1) entries)

-- what holds of each record anew under any vector holds of all that are written
pub rewrapped_have : (c : Ciphers) (seed old new : List ℕ) (P : ℕ × List ℕ → Type 0) (i : ℕ) (entries : List (ℕ × Stored)) → ((place : ℕ) → length (c.seed_bytes seed place 12) ≡ 12)
    → All (λ entry. (vector : List ℕ) → length vector ≡ 12 → P (entry.0, sealed_anew c entry.1.wrapped new vector (c.opens entry.1.wrapped old))) entries → All P (rewrapped c seed old new i entries)
rewrapped_have c seed old new P i [] twelve all = All-nil P
rewrapped_have c seed old new P i (entry ∷ entries) twelve all =
    let Holds : ℕ × Stored → Type 0 = λ e. (vector : List ℕ) → length vector ≡ 12 → P (e.0, sealed_anew c e.1.wrapped new vector (c.opens e.1.wrapped old)) in
    All-cons P (entry.0, sealed_anew c entry.1.wrapped new (c.seed_bytes seed (vector_place i) 12) (c.opens entry.1.wrapped old)) (rewrapped c seed old new (i + 1) entries)
    (All-head Holds entry entries all (c.seed_bytes seed (vector_place i) 12) (twelve (vector_place i)))
    (rewrapped_have c seed old new P (i + 1) entries twelve (All-tail Holds entry entries all))
