-- The present key, and what a fault of a key or of the seed refuses.
use Rattle.std.proofs.Common.{◌≡◌, ◌≢◌, ⊎_elim, ℕ, zero, suc, ◌+◌, Bool, true, false, not, cond, ◌&&◌, ◌==◌, List, [], ◌∷◌, length, map, Option, Some, None, Result, Ok, Err, IfSome, is_some, refl, ap, sym, ◌∙◌, subst, arith}
use Rattle.std.proofs.lemmas.Bool.{cases_Bool}
use Rattle.std.proofs.lemmas.List.Elements.{All-filter}
use Rattle.std.specs.Prelude.{unwrap_or, if◌then◌else◌}
use Rattle.std.specs.List.{All, filter, find}
use Rattle.std.specs.Option.{option_and_then, option_map}
use Rattle.std.specs.Result.{result_err}
use Rattle.dataset_tree.specs.declared.kinds.Format.{Format}
use Rattle.dataset_tree.specs.declared.kinds.Kind.{Kind}
use Rattle.dataset_tree.specs.declared.kinds.Kind.TheVariants.{Plain as PlainKind, Crypt}
use Rattle.dataset_tree.specs.declared.refusal.Refusal.{Refusal}
use Rattle.dataset_tree.specs.declared.refusal.Refusal.TheVariants.{WrongKey}
use Rattle.dataset_tree.specs.declared.tree.Row.{Row}
use Rattle.dataset_tree.specs.Tree.{row_of}
use Rattle.encryption_roots.specs.declared.kit.Fetched.{Fetched}
use Rattle.encryption_roots.specs.declared.kit.LineKit.{LineKit}
use Rattle.encryption_roots.specs.declared.props.Options.{Options}
use Rattle.encryption_roots.specs.declared.props.Props.{Props}
use Rattle.encryption_roots.specs.ById.{at_id}
use Rattle.encryption_roots.specs.Owned.{owned_families}
use Rattle.encryption_roots.specs.Owners.{owner, owner_within, owner_from, owner_by_kind, next_to_owner}
use Rattle.key_machine.specs.Change.{changed_format, changed_iters, changed_salt}
use Rattle.key_machine.specs.Load.{first_wrong}
use Rattle.key_machine.specs.Plain.{Plain, Stored, Ciphers, owner_of, has_key, has_key_of, is_same, owned}
use Rattle.key_machine.specs.Rekey.{present_props, present_key as loaded_key, fetches_old, fetched_old, first_wrong_of, old_key, old_wrong}
use Rattle.key_machine.specs.Sound.{SoundTree}
use Rattle.key_machine.specs.Told.{no_key, key_of, seed_of}
use Rattle.key_machine.proofs.KeyLists.{each_found}
use Rattle.change_key.specs.Keys.{unless_wrong, unless_told_wrong, tested_key, root_key, root_key_by, present_key, key_of_owner, new_key_of, first_fault}
use Rattle.key_ciphers.specs.Calls.{unless_fault}
use Rattle.change_key.specs.Records.{opens_in}
use Rattle.change_key.proofs.FamiliesLemmas.{families_are}
use Rattle.change_key.proofs.RecordLemmas.{AllFound, first_wrong_by_ids}

-- ---- an owner is a root

module _ (roots : List (ℕ × Props)) (root id : ℕ) (further : ℕ → Option ℕ) (lower : (next : ℕ) → further next ≡ Some root → is_some (at_id root roots) ≡ true) where
  by_root : (b : Bool) (next : ℕ) → is_some (at_id id roots) ≡ b → cond b (Some id) (further next) ≡ Some root → is_some (at_id root roots) ≡ true
  by_root true next is found = let same : id ≡ root = cc in ap (λ (m : ℕ). is_some (at_id m roots)) (sym same) ∙ is
  by_root false next is found = lower next found

  by_kind : (kind : Kind) (next : ℕ) → owner_by_kind kind (cond (is_some (at_id id roots)) (Some id) (further next)) ≡ Some root → is_some (at_id root roots) ≡ true
  by_kind PlainKind next found = absurd (cc)
  by_kind Crypt next found = by_root (is_some (at_id id roots)) next refl found

  by_row : (found : Option Row) → owner_from roots id found further ≡ Some root → is_some (at_id root roots) ≡ true
  by_row None own = absurd (cc)
  by_row (Some row) own = by_kind row.kind (next_to_owner row) own

owner_is_root : (rows : List Row) (roots : List (ℕ × Props)) (root steps id : ℕ) → owner_within steps rows roots id ≡ Some root → is_some (at_id root roots) ≡ true
owner_is_root rows roots root zero id own = absurd (cc)
owner_is_root rows roots root (suc steps) id own = by_row roots root id (λ next. owner_within steps rows roots next) (λ next found. owner_is_root rows roots root steps next found) (row_of id rows) own

pub root_of_owner : (rows : List Row) (roots : List (ℕ × Props)) (root id : ℕ) → owner rows roots id ≡ Some root → is_some (at_id root roots) ≡ true
root_of_owner rows roots root id own = owner_is_root rows roots root (length rows) id own

-- ---- a fetched key, where it opens what the root owns

pub owned_found : (p : Plain) → SoundTree p → (test : ℕ × Stored → Bool) → AllFound p (filter test p.wrapped)
owned_found p s test = All-filter test (λ (entry : ℕ × Stored). at_id entry.0 p.wrapped ≡ Some entry.1) p.wrapped (each_found p.wrapped s.records)

-- the first wrong record of a root, by the families of the datasets
pub first_wrong_of_root : (c : Ciphers) (p : Plain) → SoundTree p → (root : ℕ) (key : List ℕ)
    → first_wrong c key (owned p root) ≡ find (λ family. not (opens_in c p key family)) (owned_families p.tree.rows p.roots root)
first_wrong_of_root c p s root key =
    first_wrong_by_ids c p key (owned p root) (owned_found p s (λ (entry : ℕ × Stored). is_same root (owner_of p entry.0)))
    ∙ ap (λ ids. find (λ family. not (opens_in c p key family)) ids) (families_are p s p.roots root)

pub tested_is : (c : Ciphers) (p : Plain) → SoundTree p → (root : ℕ) (props : Props) (fetched : Fetched) (key families : List ℕ) (found : Option ℕ) → Some props ≡ at_id root p.roots
    → Ok key ≡ key_of c props.format props.iters props.salt fetched → families ≡ owned_families p.tree.rows p.roots root → found ≡ find (λ family. not (opens_in c p key family)) families
    → tested_key c p root (fetched_old c (at_id root p.roots) fetched) ≡ unless_wrong key found
tested_is c p s root props fetched key families found own had families_is found_is =
    ap (λ (o : Option Props). tested_key c p root (fetched_old c o fetched)) (sym own)
    ∙ ap (λ (k : Result (List ℕ) Refusal). tested_key c p root k) (sym had)
    ∙ ap (λ (o : Option ℕ). unless_wrong key o) (first_wrong_of_root c p s root key ∙ ap (λ ids. find (λ family. not (opens_in c p key family)) ids) (sym families_is) ∙ sym found_is)

pub fetch_fails : (c : Ciphers) (p : Plain) (root : ℕ) (props : Props) (fetched : Fetched) (why : Refusal) → Some props ≡ at_id root p.roots → Err why ≡ key_of c props.format props.iters props.salt fetched
    → tested_key c p root (fetched_old c (at_id root p.roots) fetched) ≡ Err why
fetch_fails c p root props fetched why own had =
    ap (λ (o : Option Props). tested_key c p root (fetched_old c o fetched)) (sym own) ∙ ap (λ (k : Result (List ℕ) Refusal). tested_key c p root k) (sym had)

-- ---- the present key is the machine's old key, and it has no wrong record

module _ (c : Ciphers) (p : Plain) (id : ℕ) (load_first : Bool) (fetched : Fetched) (key : (not load_first && not (has_key p id)) ≡ false) (root : ℕ) (own : owner_of p id ≡ Some root) where
  abbrev OldKey : Result (List ℕ) Refusal → Type 0
  OldKey present = present ≡ unless_told_wrong (old_key c p id load_first fetched) (old_wrong c p id load_first)

  must_fetch : (load_first : Bool) → (not load_first && true) ≡ false → load_first ≡ true
  must_fetch true h = refl
  must_fetch false h = absurd (cc)

  never : (load_first : Bool) → (load_first && false) ≡ false
  never true = refl
  never false = refl

  by_fetch : (had : Result (List ℕ) Refusal) → tested_key c p root had ≡ unless_told_wrong had (λ k. first_wrong c k (owned p root))
  by_fetch (Ok k) = refl
  by_fetch (Err why) = refl

  by_loaded : (loaded : Option (List ℕ)) → at_id root p.loaded ≡ loaded → OldKey (root_key_by c p root fetched loaded)
  by_loaded (Some k) is =
      let has : has_key p id ≡ true = ap (has_key_of p) own ∙ ap (λ (l : Option (List ℕ)). is_some l) is in
      let fetches : fetches_old p id load_first ≡ false = ap (λ b. load_first && not b) has ∙ never load_first in
      let there : loaded_key p id ≡ k = ap (λ (o : Option ℕ). unwrap_or (option_and_then (λ r. at_id r p.loaded) o) no_key) own ∙ ap (λ (l : Option (List ℕ)). unwrap_or l no_key) is in
      let old : old_key c p id load_first fetched ≡ Ok k =
      ap (λ b. cond b (fetched_old c (present_props p id) fetched) (Ok (loaded_key p id))) fetches ∙ ap (λ (l : List ℕ). Ok l) there in
      let wrong : old_wrong c p id load_first k ≡ None = ap (λ b. cond b (first_wrong_of c p k (owner_of p id)) None) fetches in
      sym (ap (λ (r : Result (List ℕ) Refusal). unless_told_wrong r (old_wrong c p id load_first)) old ∙ ap (λ (o : Option ℕ). unless_wrong k o) wrong)
  by_loaded None is =
      let has : has_key p id ≡ false = ap (has_key_of p) own ∙ ap (λ (l : Option (List ℕ)). is_some l) is in
      let first : load_first ≡ true = must_fetch load_first (ap (λ b. not load_first && not b) (sym has) ∙ key) in
      let fetches : fetches_old p id load_first ≡ true = ap (λ b. load_first && not b) has ∙ ap (λ b. b && true) first in
      let props : present_props p id ≡ at_id root p.roots = ap (λ (o : Option ℕ). option_and_then (λ r. at_id r p.roots) o) own in
      let old : old_key c p id load_first fetched ≡ fetched_old c (at_id root p.roots) fetched =
      ap (λ b. cond b (fetched_old c (present_props p id) fetched) (Ok (loaded_key p id))) fetches ∙ ap (λ (o : Option Props). fetched_old c o fetched) props in
      let wrong : (k : List ℕ) → old_wrong c p id load_first k ≡ first_wrong c k (owned p root) =
      λ k. ap (λ b. cond b (first_wrong_of c p k (owner_of p id)) None) fetches ∙ ap (λ (o : Option ℕ). first_wrong_of c p k o) own in
      by_fetch (fetched_old c (at_id root p.roots) fetched)
      ∙ by_wrong (fetched_old c (at_id root p.roots) fetched) (λ k. sym (wrong k))
      ∙ ap (λ (r : Result (List ℕ) Refusal). unless_told_wrong r (old_wrong c p id load_first)) (sym old)
    where
      by_wrong : (had : Result (List ℕ) Refusal) → ((k : List ℕ) → first_wrong c k (owned p root) ≡ old_wrong c p id load_first k)
          → unless_told_wrong had (λ k. first_wrong c k (owned p root)) ≡ unless_told_wrong had (old_wrong c p id load_first)
      by_wrong (Ok k) same = ap (λ (o : Option ℕ). unless_wrong k o) (same k)
      by_wrong (Err why) same = refl

  pub root_key_is : OldKey (root_key c p root fetched)
  root_key_is = by_loaded (at_id root p.loaded) refl

  pub present_key_is : OldKey (present_key c p id fetched)
  present_key_is = ap (λ (o : Option ℕ). key_of_owner c p o fetched) own ∙ root_key_is

-- ---- the new key

module _ (own : Option Props) (opts : Options) (kit : LineKit) (c : Ciphers) where
  faulty : (key seed behind : Result (List ℕ) Refusal) (why : Refusal) → behind ≡ Err why → behind ≡ unless_fault (result_err key) seed → first_fault key seed ≡ Some why
  faulty (Err first) seed behind why is told = let same : Err first ≡ Err why = sym told ∙ is in let alike : first ≡ why = cc in ap (λ w. Some w) alike
  faulty (Ok key) (Err first) behind why is told = let same : Err first ≡ Err why = sym told ∙ is in let alike : first ≡ why = cc in ap (λ w. Some w) alike
  faulty (Ok key) (Ok seed) behind why is told = absurd (let same : Ok seed ≡ Err why = sym told ∙ is in cc)

  pub new_key_stops : (format : Format) (iters : ℕ) (behind : Result (List ℕ) Refusal) (why : Refusal) → format ≡ changed_format own opts → iters ≡ changed_iters own opts
      → ((salt : ℕ) → behind ≡ unless_fault (result_err (key_of c format iters salt kit.new_key)) (seed_of kit.seed)) → behind ≡ Err why → first_fault (new_key_of c own opts kit) (seed_of kit.seed) ≡ Some why
  new_key_stops format iters behind why format_is iters_is told is =
      let salt : ℕ = changed_salt c own opts (seed_of kit.seed) in
      let key : key_of c format iters salt kit.new_key ≡ new_key_of c own opts kit =
      ap (λ f. key_of c f iters salt kit.new_key) format_is ∙ ap (λ n. key_of c (changed_format own opts) n salt kit.new_key) iters_is in
      ap (λ (k : Result (List ℕ) Refusal). first_fault k (seed_of kit.seed)) (sym key) ∙ faulty (key_of c format iters salt kit.new_key) (seed_of kit.seed) behind why is (told salt)
