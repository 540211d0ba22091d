-- The records that are written, by the families' ids and by their stored records.
use Rattle.std.proofs.Common.{◌≡◌, ◌≢◌, ⊎_elim, ℕ, zero, suc, ◌+◌, ◌<◌, ◌≤◌, Bool, true, false, not, cond, ◌==◌, List, [], ◌∷◌, ◌++◌, length, take, map, get_or, Option, Some, None, IfSome, is_some, refl, ap, sym, ◌∙◌, subst, arith}
use Rattle.std.proofs.lemmas.Bool.{cases_Bool}
use Rattle.std.proofs.lemmas.List.{take_more, length-take-le}
use Rattle.std.proofs.lemmas.List.Elements.{All-nil, All-cons, All-head, All-tail, All-filter}
use Rattle.std.specs.Prelude.{unwrap_or}
use Rattle.std.specs.List.{All, AllPairs, filter, find}
use Rattle.std.specs.Option.{option_and_then, option_map}
use Rattle.encryption_roots.specs.ById.{at_id}
use Rattle.key_machine.specs.Fair.{AreSound, AllOpen}
use Rattle.key_machine.specs.Load.{first_wrong}
use Rattle.key_machine.specs.Plain.{Plain, Stored, Master, Ciphers, is_same}
use Rattle.key_machine.specs.Rekey.{sealed_anew, rewrapped, with_record, with_records}
use Rattle.salt_rotation.specs.Places.{vector_place}
use Rattle.key_machine.proofs.RekeyRecords.{rewrapped_have}
use Rattle.change_key.specs.Records.{opened_in, opens_in, sealed_from, anew, numbered}

-- ---- a family is found by its id

abbrev pub AllFound : Plain → List (ℕ × Stored) → Type 0
AllFound p entries = All (λ entry. at_id entry.0 p.wrapped ≡ Some entry.1) entries

pub opened_at : (c : Ciphers) (p : Plain) (key : List ℕ) (id : ℕ) (stored : Stored) → at_id id p.wrapped ≡ Some stored → opened_in c p key id ≡ c.opens stored.wrapped key
opened_at c p key id stored found = ap (λ (f : Option Stored). option_and_then (λ wrapped. c.opens wrapped key) (option_map (λ (s : Stored). s.wrapped) f)) found

-- the first wrong record, by the ids
pub first_wrong_by_ids : (c : Ciphers) (p : Plain) (key : List ℕ) (entries : List (ℕ × Stored)) → AllFound p entries
    → first_wrong c key entries ≡ find (λ family. not (opens_in c p key family)) (map (λ entry. entry.0) entries)
first_wrong_by_ids c p key [] all = refl
first_wrong_by_ids c p key (entry ∷ entries) all =
    let Found : ℕ × Stored → Type 0 = λ e. at_id e.0 p.wrapped ≡ Some e.1 in
    let rest = first_wrong_by_ids c p key entries (All-tail Found entry entries all) in
    let same : opens_in c p key entry.0 ≡ is_some (c.opens entry.1.wrapped key) = ap (λ (m : Option Master). is_some m) (opened_at c p key entry.0 entry.1 (All-head Found entry entries all)) in
    ⊎_elim
    (λ (opens : is_some (c.opens entry.1.wrapped key) ≡ true). let here : opens_in c p key entry.0 ≡ true = same ∙ opens in rw (opens, here) rest)
    (λ (fails : is_some (c.opens entry.1.wrapped key) ≡ false). let here : opens_in c p key entry.0 ≡ false = same ∙ fails in rw (fails, here) refl) (cases_Bool (is_some (c.opens entry.1.wrapped key)))

-- ---- records by number

pub numbered-append : {X : Type 0} (make : ℕ → ℕ → X) (number : ℕ) (ids : List ℕ) (id : ℕ) → numbered make number (ids ++ id ∷ []) ≡ numbered make number ids ++ make (number + length ids) id ∷ []
numbered-append make number [] id = let none : number + 0 ≡ number = omega arith in rw none refl
numbered-append make number (first ∷ ids) id =
    let rest = numbered-append make (number + 1) ids id in
    let next : number + 1 + length ids ≡ number + length (first ∷ ids) = omega arith in
    ap (λ tail. make number first ∷ tail) (rest ∙ ap (λ n. numbered make (number + 1) ids ++ make n id ∷ []) next)

-- one more, at a loop's step
pub numbered_more : {X : Type 0} (make : ℕ → ℕ → X) (ids : List ℕ) (i d : ℕ) → i < length ids → numbered make 0 (take (i + 1) ids) ≡ numbered make 0 (take i ids) ++ make i (get_or ids i d) ∷ []
numbered_more make ids i d within =
    let long : length (take i ids) ≡ i = length-take-le i ids (omega (arith, within)) in
    let count : 0 + length (take i ids) ≡ i = omega (arith, long) in
    ap (numbered make 0) (take_more ids i d within) ∙ numbered-append make 0 (take i ids) (get_or ids i d) ∙ ap (λ n. numbered make 0 (take i ids) ++ make n (get_or ids i d) ∷ []) count

-- each family's record is that of its stored one
pub anew_is : (c : Ciphers) (p : Plain) (seed old new : List ℕ) (number : ℕ) (entries : List (ℕ × Stored)) → AllFound p entries → All (λ entry. is_some (c.opens entry.1.wrapped old) ≡ true) entries
    → numbered (anew c p seed old new) number (map (λ entry. entry.0) entries) ≡ rewrapped c seed old new number entries
anew_is c p seed old new number [] found opens = refl
anew_is c p seed old new number (entry ∷ entries) found opens =
    let Found : ℕ × Stored → Type 0 = λ e. at_id e.0 p.wrapped ≡ Some e.1 in
    let Opens : ℕ × Stored → Type 0 = λ e. is_some (c.opens e.1.wrapped old) ≡ true in
    let rest = anew_is c p seed old new (number + 1) entries (All-tail Found entry entries found) (All-tail Opens entry entries opens) in
    let vector : List ℕ = c.seed_bytes seed (vector_place number) 12 in
    let by_stored : opened_in c p old entry.0 ≡ c.opens entry.1.wrapped old = opened_at c p old entry.0 entry.1 (All-head Found entry entries found) in
    let here : sealed_from c new vector (opened_in c p old entry.0) ≡ sealed_anew c entry.1.wrapped new vector (c.opens entry.1.wrapped old) =
    ap (λ (m : Option Master). sealed_from c new vector m) by_stored ∙ same_sealed (c.opens entry.1.wrapped old) (All-head Opens entry entries opens) entry.1.wrapped vector in
    ap (λ (record_anew : List ℕ). (entry.0, record_anew) ∷ numbered (anew c p seed old new) (number + 1) (map (λ e. e.0) entries)) here
    ∙ ap (λ tail. (entry.0, sealed_anew c entry.1.wrapped new vector (c.opens entry.1.wrapped old)) ∷ tail) rest
  where
    same_sealed : (m : Option Master) → is_some m ≡ true → (stored vector : List ℕ) → sealed_from c new vector m ≡ sealed_anew c stored new vector m
    same_sealed None none stored vector = absurd (cc)
    same_sealed (Some m) there stored vector = refl

-- each opens as the stored one does
pub same_masters : (c : Ciphers) → AreSound c → (p : Plain) (seed old new : List ℕ) (entries : List (ℕ × Stored)) → AllFound p entries → All (λ entry. is_some (c.opens entry.1.wrapped old) ≡ true) entries
    → All (λ entry. c.opens entry.1 new ≡ opened_in c p old entry.0) (rewrapped c seed old new 0 entries)
same_masters c are p seed old new entries found opens =
    let Same : ℕ × List ℕ → Type 0 = λ entry. c.opens entry.1 new ≡ opened_in c p old entry.0 in
    rewrapped_have c seed old new Same 0 entries (λ place. are.words seed place 12)
    (λ k d within vector twelve.
    let entry : ℕ × Stored = get_or entries k d in
    let by_stored : opened_in c p old entry.0 ≡ c.opens entry.1.wrapped old = opened_at c p old entry.0 entry.1 (found k d within) in
    opens_same entry.1.wrapped (c.opens entry.1.wrapped old) refl (opens k d within) vector twelve ∙ sym by_stored)
  where
    opens_same : (stored : List ℕ) (m : Option Master) → c.opens stored old ≡ m → is_some m ≡ true → (vector : List ℕ) → length vector ≡ 12 → c.opens (sealed_anew c stored new vector m) new ≡ m
    opens_same stored None is none vector twelve = absurd (cc)
    opens_same stored (Some m) is there vector twelve = are.opened m new vector (are.masters stored old m is) twelve

pub all_open : (c : Ciphers) (p : Plain) (old new : List ℕ) (records : List (ℕ × List ℕ)) → All (λ entry. c.opens entry.1 new ≡ opened_in c p old entry.0) records → All (λ entry. opens_in c p old entry.0 ≡ true) records → AllOpen c new records
all_open c p old new records same opens = λ k d within. ap (λ (m : Option Master). is_some m) (same k d within) ∙ opens k d within

-- ---- the stored records with those of a plan

-- where a plan has no record of a family that the root doesn't own, its records are set by their
-- ids alone
pub set_by_ids : (owner : ℕ → Option ℕ) (root : ℕ) (records : List (ℕ × List ℕ)) (stored : List (ℕ × Stored)) → ((at : ℕ) → is_same root (owner at) ≡ false → at_id at records ≡ None)
    → map (λ entry. (entry.0, with_record records entry)) stored ≡ with_records owner root records stored
set_by_ids owner root records [] none = refl
set_by_ids owner root records (entry ∷ stored) none =
    let rest = set_by_ids owner root records stored none in
    ap (λ (s : Stored). (entry.0, s) ∷ map (λ (e : ℕ × Stored). (e.0, with_record records e)) stored) (by (is_same root (owner entry.0)) refl)
    ∙ ap (λ (tail : List (ℕ × Stored)). (entry.0, cond (is_same root (owner entry.0)) (with_record records entry) entry.1) ∷ tail) rest
  where
    by : (b : Bool) → is_same root (owner entry.0) ≡ b → with_record records entry ≡ cond b (with_record records entry) entry.1
    by true is = refl
    by false is = ap (λ (o : Option (List ℕ)). let kept : Stored = record entry.1 { wrapped = unwrap_or o entry.1.wrapped } in kept) (none entry.0 is)

-- ---- rising ids

pub rising_above : (ids : List ℕ) → AllPairs (λ earlier later. earlier < later) ids → (k d : ℕ) → k < length ids → k ≤ get_or ids k d
rising_above ids rising zero d within = omega arith
rising_above ids rising (suc k) d within =
    let before : k ≤ get_or ids k d = rising_above ids rising k d (omega (arith, within)) in
    let step : get_or ids k d < get_or ids (suc k) d = rising k (suc k) d (omega arith) within in
    omega (arith, before, step)
