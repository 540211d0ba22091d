-- Unloads keep a sound state sound, and are busy at the first mapping in use.
use Rattle.std.proofs.Common.{◌≡◌, ◌≢◌, ◌↔◌, ⊎_elim, ℕ, suc, ◌<◌, ◌≤◌, Bool, true, false, not, cond, ◌==◌, ◌&&◌, nat_lt, List, [], ◌∷◌, length, get_or, map, Option, Some, None, is_some, option_map, refl, ap, sym, subst, ◌∙◌, arith, if◌then◌else◌}
use Rattle.std.proofs.lemmas.Bool.{eq-eqb, eqb-true, and_from, cases_Bool, cases_eq}
use Rattle.std.proofs.lemmas.Bool.Decides.{nat_tests}
use Rattle.std.proofs.lemmas.List.{get_or-map, length-map}
use Rattle.std.proofs.lemmas.List.Elements.{All-nil, All-cons, All-head, All-tail, All-filter}
use Rattle.std.proofs.lemmas.List.Folds.{list_any_at}
use Rattle.std.proofs.lemmas.List.Kept.{AllPairs-filter}
use Rattle.std.specs.List.{All, Contains, filter, find, count_by}
use Rattle.std.specs.Option.{option_and_then}
use Rattle.dataset_tree.specs.declared.refusal.Refusal.{Refusal}
use Rattle.dataset_tree.specs.declared.refusal.Refusal.TheVariants.{NoSuch, Busy}
use Rattle.encryption_roots.specs.declared.command.KeyCmd.TheVariants as commands
use Rattle.encryption_roots.specs.ById.{IsRisingById, at_id, without_id}
use Rattle.encryption_roots.proofs.ByIdLemmas.{IsRisingById-without_id, at_id-without_id, at_id-without_id_other}
use Rattle.key_machine.specs.Plain.{Plain, Ciphers, Hold, owner_of, is_root, has_key_of, has_key, is_same}
use Rattle.key_machine.specs.Users.{generation_of, is_mounted, users_of, is_used}
use Rattle.key_machine.specs.Sound.{Sound, SoundKeys, IsEncrypted}
use Rattle.key_machine.specs.Refusals.{first_of}
use Rattle.key_machine.specs.Reply.{Done, Refused}
use Rattle.key_machine.specs.Step.{key_step, refusal_of, target, IsAccepted}
use Rattle.key_machine.specs.Told.{Told}
use Rattle.key_machine.specs.Unload.{InUse, is_owned, first_in_use, closed, closed_below, unloaded, unload_done, unload_cases}
use Rattle.key_machine.specs.Busy.{IsFirstInUse, AllIdle}
use Rattle.key_machine.proofs.SoundLemmas.{by_step, accepted_step}
use Rattle.key_machine.proofs.KeyLists.{All-kept, contains_kept, at_id-filter, at_id-dropped, at_id_holds, at_id_is, count_at}

-- ---- users

some_used : (n : ℕ) → 1 ≤ n → not (n == 0) ≡ true
some_used n least = grind (arith, nat_tests)

mounted_used : (p : Plain) (mapping : ℕ × ℕ) → is_mounted p mapping.0 ≡ true → is_used p mapping ≡ true
mounted_used p mapping mounted =
    let least : 1 ≤ users_of p mapping = rw mounted (omega arith) in
    some_used (users_of p mapping) least

held_used : (p : Plain) (mapping : ℕ × ℕ) (k : ℕ) (d : Hold) → k < length p.users → (get_or p.users k d).slot ≡ mapping.1 → (get_or p.users k d).generation ≡ generation_of p mapping.1 → is_used p mapping ≡ true
held_used p mapping k d within slot present =
    let test : Hold → Bool = λ hold. (hold.slot == mapping.1) && (hold.generation == generation_of p mapping.1) in
    let hold : Hold = get_or p.users k d in
    let counted : 1 ≤ count_by test p.users =
    count_at test p.users k d within (and_from (hold.slot == mapping.1) (hold.generation == generation_of p mapping.1) (eq-eqb hold.slot mapping.1 slot) (eq-eqb hold.generation (generation_of p mapping.1) present)) in
    some_used (users_of p mapping) (omega (arith, counted))

unused : (n : ℕ) → n ≡ 0 → not (n == 0) ≡ false
unused n none = grind (arith, nat_tests)

no_users : (n : ℕ) → not (n == 0) ≡ false → n ≡ 0
no_users n none = grind (arith, nat_tests)

has_users : (n : ℕ) → not (n == 0) ≡ true → 1 ≤ n
has_users n used = grind (arith, nat_tests)

-- ---- closing idle mappings

module _ (c : Ciphers) (p : Plain) (s : Sound c p) (keep : ℕ → Bool) (idle : All (λ mapping. keep mapping.0 ≡ false → users_of p mapping ≡ 0) p.mapped) where
  abbrev left : List (ℕ × ℕ)
  left = filter (λ mapping. keep mapping.0) p.mapped

  used_kept : (mapping : ℕ × ℕ) → (keep mapping.0 ≡ false → users_of p mapping ≡ 0) → is_used p mapping ≡ true → keep mapping.0 ≡ true
  used_kept mapping closes used =
      ⊎_elim (λ (kept : keep mapping.0 ≡ true). kept)
      (λ (gone : keep mapping.0 ≡ false). absurd (let none : is_used p mapping ≡ false = unused (users_of p mapping) (closes gone) in cc)) (cases_Bool (keep mapping.0))

  pub mounts_kept : All (λ id. is_some (at_id id left) ≡ true) p.mounted
  mounts_kept = λ k d within.
      let id : ℕ = get_or p.mounted k d in
      let mounted : is_mounted p id ≡ true = list_any_at (λ other. other == id) p.mounted k d within (eq-eqb id id refl) in
      let Idle : ℕ × ℕ → Type 0 = λ mapping. keep mapping.0 ≡ false → users_of p mapping ≡ 0 in
      let there : (slot : ℕ) × Idle (id, slot) = at_id_holds Idle id p.mapped idle (s.mappings.mounts k d within) in
      let found : at_id id left ≡ at_id id p.mapped = at_id-filter keep id p.mapped (used_kept (id, there.0) there.1 (mounted_used p (id, there.0) mounted)) in
      rw found (s.mappings.mounts k d within)

  pub holds_kept : All (λ hold. Contains (map (λ mapping. mapping.1) left) hold.slot) p.users
  holds_kept = λ k d within.
      let hold : Hold = get_or p.users k d in
      let slot : Contains (map (λ mapping. mapping.1) p.mapped) hold.slot = s.users.mapped k d within in
      let j : ℕ = slot.0 in
      let none : ℕ × ℕ = (0, 0) in
      let inside : j < length p.mapped = omega (arith, slot.1, length-map p.mapped (λ mapping. mapping.1)) in
      let mapping : ℕ × ℕ = get_or p.mapped j none in
      let here : mapping.1 ≡ hold.slot = sym (get_or-map (λ (m : ℕ × ℕ). m.1) p.mapped j none hold.slot inside) ∙ slot.2 in
      let present : hold.generation ≡ generation_of p hold.slot = s.users.present k d within in
      let held : is_used p mapping ≡ true =
      held_used p mapping k d within (sym here) (present ∙ ap (λ at. generation_of p at) (sym here)) in
      let kept : keep mapping.0 ≡ true = used_kept mapping (idle j none inside) held in
      subst (λ at. Contains (map (λ mapping. mapping.1) left) at) here
      (contains_kept (λ m. keep m.0) (λ m. m.1) p.mapped j none inside kept)

  -- where keys stay sound, so does the state
  pub closing_sound : (keys : List (ℕ × List ℕ)) → SoundKeys c (record p { mapped = left; loaded = keys })
      → All (λ mapping. has_key (record p { mapped = left; loaded = keys }) mapping.0 ≡ true) left
      → Sound c (record p { mapped = left; loaded = keys })
  closing_sound keys sound have = record {
    tree = record {
      tree = s.tree.tree;
      owners = s.tree.owners;
      roots = s.tree.roots;
      roots_encrypted = s.tree.roots_encrypted;
      no_clone = s.tree.no_clone;
      origins = s.tree.origins;
      records = s.tree.records;
      families = s.tree.families;
    };
    mappings = record {
      mapped = AllPairs-filter (λ a b. a.0 < b.0) (λ mapping. keep mapping.0) p.mapped s.mappings.mapped;
      encrypted = All-filter (λ mapping. keep mapping.0) (λ mapping. IsEncrypted p mapping.0) p.mapped s.mappings.encrypted;
      slots = AllPairs-filter (λ a b. a.1 ≢ b.1) (λ mapping. keep mapping.0) p.mapped s.mappings.slots;
      keys = have;
      mounted = s.mappings.mounted;
      mounts = mounts_kept;
    };
    keys = sound;
    users = record { one = s.users.one; mapped = holds_kept; present = s.users.present; few = s.users.few; riders = s.users.riders };
    slots = record { slots = s.slots.slots; generations = s.slots.generations; mapped = All-filter (λ mapping. keep mapping.0) (λ mapping. mapping.1 < 256) p.mapped s.slots.mapped };
  }

-- ---- what the closes find

owned_by : (root : ℕ) (found : Option ℕ) → is_same root found ≡ true → found ≡ Some root
owned_by root None same = absurd (cc)
owned_by root (Some owner) same = ap (λ r. Some r) (eqb-true owner root same)

is_owned_by : (root : ℕ) (found : Option ℕ) → found ≡ Some root → is_same root found ≡ true
is_owned_by root found owner = ap (λ f. is_same root f) owner ∙ eq-eqb root root refl

module _ (p : Plain) (root : ℕ) where
  abbrev is_found : ℕ × ℕ → Bool
  is_found mapping = is_owned p root mapping && is_used p mapping

  abbrev as_found : Option (ℕ × ℕ) → Option InUse
  as_found found = option_map (λ mapping. record { dataset = mapping.0; count = users_of p mapping }) found

  -- what the closes find among these mappings
  abbrev found_in : List (ℕ × ℕ) → Option InUse
  found_in mappings = as_found (find is_found mappings)

  passes : (mapping : ℕ × ℕ) → is_found mapping ≡ false → owner_of p mapping.0 ≡ Some root → users_of p mapping ≡ 0
  passes mapping fails owner =
      let own : is_owned p root mapping ≡ true = is_owned_by root (owner_of p mapping.0) owner in
      let none : is_used p mapping ≡ false = rw own at fails in
      no_users (users_of p mapping) none

  none_found : (mappings : List (ℕ × ℕ)) → found_in mappings ≡ None → All (λ mapping. owner_of p mapping.0 ≡ Some root → users_of p mapping ≡ 0) mappings
  none_found [] none = All-nil _
  none_found (mapping ∷ mappings) none =
      ⊎_elim (λ (yes : is_found mapping ≡ true). absurd (let some : Some (let busy : InUse = record { dataset = mapping.0; count = users_of p mapping } in busy) ≡ None = rw yes at none in cc))
      (λ (fails : is_found mapping ≡ false). All-cons (λ m. owner_of p m.0 ≡ Some root → users_of p m ≡ 0) mapping mappings (passes mapping fails) (none_found mappings (rw fails at none))) (cases_Bool (is_found mapping))

  found_none : (mappings : List (ℕ × ℕ)) → All (λ mapping. owner_of p mapping.0 ≡ Some root → users_of p mapping ≡ 0) mappings → found_in mappings ≡ None
  found_none [] all = refl
  found_none (mapping ∷ mappings) all =
      let Idle : ℕ × ℕ → Type 0 = λ mapping. owner_of p mapping.0 ≡ Some root → users_of p mapping ≡ 0 in
      let rest : found_in mappings ≡ None = found_none mappings (All-tail Idle mapping mappings all) in
      ⊎_elim
      (λ (own : is_owned p root mapping ≡ true).
      let idle : is_used p mapping ≡ false = unused (users_of p mapping) (All-head Idle mapping mappings all (owned_by root (owner_of p mapping.0) own)) in
      rw (own, idle) rest)
      (λ (other : is_owned p root mapping ≡ false). rw other rest) (cases_Bool (is_owned p root mapping))

  -- the mapping in use, and the idle ones before it
  record FoundFirst (mappings : List (ℕ × ℕ)) (busy : InUse) : Type 0 where
    pub slot : ℕ
    pub there : at_id busy.dataset mappings ≡ Some slot
    pub users : users_of p (busy.dataset, slot) ≡ busy.count
    pub owned : owner_of p busy.dataset ≡ Some root
    pub used : 1 ≤ busy.count
    pub idle : All (λ mapping. owner_of p mapping.0 ≡ Some root → mapping.0 < busy.dataset → users_of p mapping ≡ 0) mappings

  found_here : (mapping : ℕ × ℕ) (mappings : List (ℕ × ℕ)) (busy : InUse) → IsRisingById (mapping ∷ mappings) → is_found mapping ≡ true → mapping.0 ≡ busy.dataset → users_of p mapping ≡ busy.count
      → FoundFirst (mapping ∷ mappings) busy
  found_here mapping mappings busy rising found named counted =
      let own : is_owned p root mapping ≡ true = left_of (is_owned p root mapping) (is_used p mapping) found in
      let used : is_used p mapping ≡ true = rw own at found in
      let same : (mapping.0 == busy.dataset) ≡ true = eq-eqb mapping.0 busy.dataset named in
      record {
        slot = mapping.1;
        there = rw same refl;
        users = ap (λ d. users_of p (d, mapping.1)) (sym named) ∙ counted;
        owned = ap (λ d. owner_of p d) (sym named) ∙ owned_by root (owner_of p mapping.0) own;
        used = let least : 1 ≤ users_of p mapping = has_users (users_of p mapping) used in omega (arith, least, counted);
        idle = All-cons (λ m. owner_of p m.0 ≡ Some root → m.0 < busy.dataset → users_of p m ≡ 0) mapping mappings (λ owner below. absurd (omega (arith, below, named)))
            (λ k d within owner below. absurd (let above : mapping.0 < (get_or mappings k d).0 = rising 0 (suc k) d (omega arith) (omega arith) in omega (arith, above, below, named)));
      } where
        left_of : (a b : Bool) → (a && b) ≡ true → a ≡ true
        left_of true b both = refl
        left_of false b both = absurd (cc)

  found_later : (mapping : ℕ × ℕ) (mappings : List (ℕ × ℕ)) (busy : InUse) → IsRisingById (mapping ∷ mappings) → is_found mapping ≡ false → FoundFirst mappings busy → FoundFirst (mapping ∷ mappings) busy
  found_later mapping mappings busy rising fails first =
      let Above : ℕ × ℕ → Type 0 = λ later. mapping.0 < later.0 in
      let above : Above (busy.dataset, first.slot) = at_id_is Above busy.dataset mappings first.slot (λ k d within. rising 0 (suc k) d (omega arith) (omega arith)) first.there in
      let other : (mapping.0 == busy.dataset) ≡ false = grind (arith, nat_tests) in
      record {
        slot = first.slot;
        there = rw other first.there;
        users = first.users;
        owned = first.owned;
        used = first.used;
        idle = All-cons (λ m. owner_of p m.0 ≡ Some root → m.0 < busy.dataset → users_of p m ≡ 0) mapping mappings (λ owner below. passes mapping fails owner) first.idle;
      }

  found_first : (mappings : List (ℕ × ℕ)) (busy : InUse) → IsRisingById mappings → found_in mappings ≡ Some busy → FoundFirst mappings busy
  found_first [] busy rising found = absurd (cc)
  found_first (mapping ∷ mappings) busy rising found =
      ⊎_elim
      (λ (yes : is_found mapping ≡ true).
      let same : Some (let here : InUse = record { dataset = mapping.0; count = users_of p mapping } in here) ≡ Some busy = rw yes at found in
      let dataset : mapping.0 ≡ busy.dataset = cc in
      let count : users_of p mapping ≡ busy.count = cc in
      found_here mapping mappings busy rising yes dataset count)
      (λ (fails : is_found mapping ≡ false).
      found_later mapping mappings busy rising fails (found_first mappings busy (λ i j d before within. rising (suc i) (suc j) d (omega arith) (omega arith)) (rw fails at found)))
      (cases_Bool (is_found mapping))

  pub is_first : (busy : InUse) → IsRisingById p.mapped → first_in_use p root ≡ Some busy → IsFirstInUse p root busy.dataset busy.count
  is_first busy rising found =
      let first : FoundFirst p.mapped busy = found_first p.mapped busy rising found in
      record { mapping = (first.slot, first.there, first.users); owned = first.owned; used = first.used; idle = first.idle }

  pub all_idle : first_in_use p root ≡ None → AllIdle p root
  all_idle none = none_found p.mapped none

  pub idle_all : AllIdle p root → first_in_use p root ≡ None
  idle_all all = found_none p.mapped all

-- ---- unload

-- a dataset of another owner still has its key when a root's key goes
key_stays : (p : Plain) (root : ℕ) (found : Option ℕ) → is_same root found ≡ false → has_key_of p found ≡ true → has_key_of (record p { loaded = without_id root p.loaded }) found ≡ true
key_stays p root None other key = key
key_stays p root (Some owner) other key =
    let apart : owner ≢ root = λ same. (let yes : (owner == root) ≡ true = eq-eqb owner root same in cc) in
    rw (at_id-without_id_other root owner p.loaded apart) key

not_false : (b : Bool) → not b ≡ false → b ≡ true
not_false true gone = refl
not_false false gone = absurd (cc)

not_true : (b : Bool) → not b ≡ true → b ≡ false
not_true true kept = absurd (cc)
not_true false kept = refl

both_of : (a b : Bool) → (a && b) ≡ true → (a ≡ true) × (b ≡ true)
both_of true b both = (refl, both)
both_of false b both = absurd (cc)

below_of : (a b : ℕ) → nat_lt a b ≡ true → a < b
below_of a b test = grind (arith, nat_tests)

module _ (c : Ciphers) (p : Plain) (s : Sound c p) (root : ℕ) where
  abbrev keep_all : ℕ → Bool
  keep_all id = not (is_same root (owner_of p id))

  abbrev keep_below : ℕ → ℕ → Bool
  keep_below dataset id = not (is_same root (owner_of p id) && nat_lt id dataset)

  keys_without : (mapped : List (ℕ × ℕ)) → SoundKeys c (record p { mapped = mapped; loaded = without_id root p.loaded })
  keys_without mapped = record {
    loaded = IsRisingById-without_id root p.loaded s.keys.loaded;
    roots = All-filter (λ entry. not (entry.0 == root)) (λ entry. is_root p entry.0 ≡ true) p.loaded s.keys.roots;
    opened = λ at id key found owner.
        ⊎_elim (λ (same : at ≡ root). absurd (let gone : at_id root (without_id root p.loaded) ≡ None = at_id-without_id root p.loaded in let here : at_id root (without_id root p.loaded) ≡ Some key = ap (λ r. at_id r (without_id root p.loaded)) (sym same) ∙ found in cc))
        (λ (apart : at ≢ root). s.keys.opened at id key (sym (at_id-without_id_other root at p.loaded apart) ∙ found) owner) (cases_eq at root);
  }

  keys_with : (mapped : List (ℕ × ℕ)) → SoundKeys c (record p { mapped = mapped })
  keys_with mapped = record { loaded = s.keys.loaded; roots = s.keys.roots; opened = s.keys.opened }

  keys_after : All (λ mapping. has_key_of (record p { loaded = without_id root p.loaded }) (owner_of p mapping.0) ≡ true) (closed p root)
  keys_after =
      All-kept (λ mapping. has_key p mapping.0 ≡ true) (λ mapping. has_key_of (record p { loaded = without_id root p.loaded }) (owner_of p mapping.0) ≡ true) (λ mapping. keep_all mapping.0) p.mapped
      (λ mapping known kept. key_stays p root (owner_of p mapping.0) (not_true (is_same root (owner_of p mapping.0)) kept) known) s.mappings.keys

  unloaded_sound : (busy : Option InUse) → first_in_use p root ≡ busy → Sound c (unloaded p root busy).state
  unloaded_sound None none =
      closing_sound c p s keep_all
      (λ k d within gone. all_idle p root none k d within (owned_by root (owner_of p (get_or p.mapped k d).0) (not_false (is_same root (owner_of p (get_or p.mapped k d).0)) gone)))
      (without_id root p.loaded) (keys_without (closed p root)) keys_after
  unloaded_sound (Some busy) found =
      let first : IsFirstInUse p root busy.dataset busy.count = is_first p root busy s.mappings.mapped found in
      closing_sound c p s (keep_below busy.dataset)
      (λ k d within gone.
      let id : ℕ = (get_or p.mapped k d).0 in
      let both : (is_same root (owner_of p id) ≡ true) × (nat_lt id busy.dataset ≡ true) = both_of (is_same root (owner_of p id)) (nat_lt id busy.dataset) (not_false (is_same root (owner_of p id) && nat_lt id busy.dataset) gone) in
      first.idle k d within (owned_by root (owner_of p id) both.0) (below_of id busy.dataset both.1))
      p.loaded (keys_with (closed_below p root busy.dataset))
      (All-filter (λ mapping. keep_below busy.dataset mapping.0) (λ mapping. has_key p mapping.0 ≡ true) p.mapped s.mappings.keys)

pub unload_sound : (c : Ciphers) (p : Plain) (found : Option ℕ) → Sound c p → Sound c (unload_done p (option_and_then (first_in_use p) found) found).state
unload_sound c p None s = s
unload_sound c p (Some root) s = unloaded_sound c p s root (first_in_use p root) refl

-- ---- what a busy unload leaves

-- the mapping of a dataset, once those of the root's datasets below the busy one are gone
pub closed_at : (p : Plain) (root dataset id : ℕ) → at_id id (closed_below p root dataset) ≡ (if is_same root (owner_of p id) && nat_lt id dataset then None else at_id id p.mapped)
closed_at p root dataset id =
    let keep : ℕ → Bool = λ at. not (is_same root (owner_of p at) && nat_lt at dataset) in
    ⊎_elim
    (λ (gone : (is_same root (owner_of p id) && nat_lt id dataset) ≡ true). at_id-dropped keep id p.mapped (ap not gone) ∙ sym (ap (λ b. cond b None (at_id id p.mapped)) gone))
    (λ (kept : (is_same root (owner_of p id) && nat_lt id dataset) ≡ false). at_id-filter keep id p.mapped (ap not kept) ∙ sym (ap (λ b. cond b None (at_id id p.mapped)) kept))
    (cases_Bool (is_same root (owner_of p id) && nat_lt id dataset))

-- ---- the reply of an unload

-- what was found, where the reply names it
busy_found : (p : Plain) (root dataset count : ℕ) (found : Option InUse) → (unloaded p root found).reply ≡ Refused (Busy dataset count)
    → (found ≡ Some (let busy : InUse = record { dataset = dataset; count = count } in busy)) × ((unloaded p root found).state ≡ record p { mapped = closed_below p root dataset })
busy_found p root dataset count None reply = absurd (cc)
busy_found p root dataset count (Some busy) reply =
    let id : busy.dataset ≡ dataset = cc in
    let number : busy.count ≡ count = cc in (
      ap (λ d. Some (let b : InUse = record { dataset = d; count = busy.count } in b)) id ∙ ap (λ n. Some (let b : InUse = record { dataset = dataset; count = n } in b)) number,
      ap (λ d. record p { mapped = closed_below p root d }) id,
    )

unloaded_done : (p : Plain) (root : ℕ) (found : Option InUse) → ((unloaded p root found).reply ≡ Done) ↔ (found ≡ None)
unloaded_done p root None = (λ done. refl, λ none. refl)
unloaded_done p root (Some busy) = (λ done. absurd (cc), λ none. absurd (cc))

-- an accepted unload of a root
pub accepted_unload : (p : Plain) (name : List ℕ) (told : Told) (root : ℕ) → target p (commands.Unload name) ≡ Some root → IsAccepted p (commands.Unload name) told
    → key_step p (commands.Unload name) told ≡ unloaded p root (first_in_use p root)
accepted_unload p name told root found accepted =
    accepted_step p (commands.Unload name) told accepted ∙ ap (λ at. unload_done p (option_and_then (first_in_use p) at) at) found

pub done_where_idle : (p : Plain) (name : List ℕ) (told : Told) (root : ℕ) → target p (commands.Unload name) ≡ Some root → IsAccepted p (commands.Unload name) told
    → ((key_step p (commands.Unload name) told).reply ≡ Done) ↔ AllIdle p root
done_where_idle p name told root found accepted =
    let reply : (key_step p (commands.Unload name) told).reply ≡ (unloaded p root (first_in_use p root)).reply = ap (λ stepped. stepped.reply) (accepted_unload p name told root found accepted) in
    let done : ((unloaded p root (first_in_use p root)).reply ≡ Done) ↔ (first_in_use p root ≡ None) = unloaded_done p root (first_in_use p root) in
    (λ yes. all_idle p root (done.0 (sym reply ∙ yes)), λ idle. reply ∙ done.1 (idle_all p root idle))

-- no case of the state, nor of the material of an unload, is `Busy`
abbrev pub IsApart : Refusal → List (Bool × Refusal) → Type 0
IsApart why [] = Unit {0}
IsApart why (case ∷ cases) = (case.1 ≢ why) × IsApart why cases

pub not_among : (why : Refusal) (cases : List (Bool × Refusal)) → IsApart why cases → first_of cases ≡ Some why → ⊥
not_among why [] apart found = cc
not_among why (case ∷ cases) apart found =
    ⊎_elim (λ (holds : case.0 ≡ true). apart.0 (let here : Some case.1 ≡ Some why = rw holds at found in cc)) (λ (fails : case.0 ≡ false). not_among why cases apart.1 (rw fails at found)) (cases_Bool case.0)

-- what an unload that is busy at a root's dataset found
pub record WasBusy (p : Plain) (name : List ℕ) (told : Told) (root dataset count : ℕ) : Type 0 where
  pub target : target p (commands.Unload name) ≡ Some root
  pub found : first_in_use p root ≡ Some (let busy : InUse = record { dataset = dataset; count = count } in busy)
  pub state : (key_step p (commands.Unload name) told).state ≡ record p { mapped = closed_below p root dataset }

by_target : (p : Plain) (name : List ℕ) (told : Told) (dataset count : ℕ) (at : Option ℕ) → target p (commands.Unload name) ≡ at
    → (unload_done p (option_and_then (first_in_use p) at) at).reply ≡ Refused (Busy dataset count)
    → key_step p (commands.Unload name) told ≡ unload_done p (option_and_then (first_in_use p) at) at → (root : ℕ) × WasBusy p name told root dataset count
by_target p name told dataset count None same reply step = absurd (let apart : Refused NoSuch ≡ Refused (Busy dataset count) = reply in cc)
by_target p name told dataset count (Some root) same reply step =
    let busy = busy_found p root dataset count (first_in_use p root) reply in
    (root, record { target = same; found = busy.0; state = ap (λ stepped. stepped.state) step ∙ busy.1 })

pub was_busy : (p : Plain) (name : List ℕ) (told : Told) (dataset count : ℕ) → (key_step p (commands.Unload name) told).reply ≡ Refused (Busy dataset count)
    → (root : ℕ) × WasBusy p name told root dataset count
was_busy p name told dataset count reply =
    by_step p (commands.Unload name) told (λ stepped. key_step p (commands.Unload name) told ≡ stepped → stepped.reply ≡ Refused (Busy dataset count) → (root : ℕ) × WasBusy p name told root dataset count)
    (λ accepted step busy. by_target p name told dataset count (target p (commands.Unload name)) refl busy step)
    (λ why state step busy. absurd (state_apart why state (let same : why ≡ Busy dataset count = cc in same)))
    (λ why material step busy. absurd (let none : None ≡ Some why = material in cc))
    refl reply
  where
    state_apart : (why : Refusal) → refusal_of p (commands.Unload name) ≡ Some why → why ≡ Busy dataset count → ⊥
    state_apart why found same =
        not_among (Busy dataset count) (unload_cases p name)
        (λ e. absurd (cc), (λ e. absurd (cc), (λ e. absurd (cc), (λ e. absurd (cc), tt)))) (found ∙ ap (λ w. Some w) same)

pub same_root : (p : Plain) (name : List ℕ) (one other : ℕ) → target p (commands.Unload name) ≡ Some one → target p (commands.Unload name) ≡ Some other → one ≡ other
same_root p name one other first second = let same : Some one ≡ Some other = sym first ∙ second in cc
