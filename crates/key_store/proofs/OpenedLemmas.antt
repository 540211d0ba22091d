-- The master keys that are opened, once a mapping or a key comes or goes.
use Rattle.std.proofs.Common.{◌≡◌, ◌≢◌, ⊎_elim, ℕ, ◌+◌, Bool, true, false, not, cond, ◌==◌, ◌||◌, ◌&&◌, List, [], Option, Some, None, is_some, is_none, get_or, refl, ap, sym, ◌∙◌, subst, arith}
use Rattle.std.specs.Prelude.{unwrap_or}
use Rattle.dataset_tree.specs.declared.tree.Row.{Row}
use Rattle.dataset_tree.specs.SetName.{parent_name}
use Rattle.dataset_tree.specs.Tree.{row_named, id_named, parent_in}
use Rattle.encryption_roots.specs.declared.command.KeyCmd.TheVariants as commands
use Rattle.encryption_roots.specs.declared.props.Options.{Options}
use Rattle.encryption_roots.specs.declared.props.Props.{Props}
use Rattle.key_machine.specs.Create.{new_props, new_stored}
use Rattle.key_machine.specs.Load.{load_cases}
use Rattle.key_machine.specs.Refusals.{first_of, is_loaded_row}
use Rattle.key_machine.specs.Step.{refusal_of}
use Rattle.key_machine.specs.Told.{Told}
use Rattle.key_machine.proofs.CreateLawsCases.{new_row, roots_with, records_with, loaded_with, created_with}
use Rattle.key_machine.proofs.CreateLawsGrown.{Grows, grown, encrypted_apart, owner_stays, owner_apart, family_stays, family_apart}
use Rattle.key_machine.proofs.CreateLawsStep.{IsFree, free, NoneHolds, none_holds}
use Rattle.key_machine.proofs.NamedLaws.{IsNamed, named}
use Rattle.std.proofs.lemmas.Bool.{cases_eq, eq-eqb, eqb-true, ne_eqb}
use Rattle.std.specs.List.{All, list_any}
use Rattle.std.specs.Option.{option_map, option_and_then}
use Rattle.encryption_roots.specs.ById.{IsRisingById, at_id, with_id, without_id}
use Rattle.encryption_roots.specs.Owners.{family}
use Rattle.encryption_roots.proofs.ByIdLemmas.{at_id-with_id, at_id-with_id_other, at_id-without_id, at_id-without_id_other}
use Rattle.encryption_roots.proofs.OwnerLemmas.{owner_of_family}
use Rattle.wrapped_keys.specs.Values.{MasterValue}
use Rattle.key_machine.specs.Counts.{is_opened}
use Rattle.key_machine.specs.Mount.{with_mounted, with_mapping}
use Rattle.key_machine.specs.Plain.{Plain, Stored, Master, Ciphers, owner_of, is_loaded, is_same, has_key, has_key_of, mkey}
use Rattle.key_machine.specs.Reap.{without_mapping}
use Rattle.key_machine.specs.Sound.{Sound, IsEncrypted}
use Rattle.key_machine.specs.Unload.{is_owned, closed}
use Rattle.key_machine.proofs.FamilyLaws.{heirs, family_opens}
use Rattle.key_machine.proofs.KeyLists.{All-kept}
use Rattle.key_ciphers.specs.Ciphers.{master_of}
use Rattle.key_store.proofs.MappingLemmas.{any_put, any_drop, any_same, any_counted, any_passes}

abbrev pub opened_by : Ciphers → Plain → ℕ → Option Master
opened_by c p first = cond (is_opened p first) (mkey c p first) None

-- the opened keys are those of the families with a mapped dataset
abbrev pub AreOpened : Ciphers → Plain → List (ℕ × MasterValue) → Type 0
AreOpened c p opened = (first : ℕ) → option_map master_of (at_id first opened) ≡ opened_by c p first

abbrev of_family : Plain → ℕ → ℕ × ℕ → Bool
of_family p first mapping = family p.tree.rows mapping.0 == first

counted : (p : Plain) (first : ℕ) → is_opened p first ≡ list_any (of_family p first) p.mapped
counted p first = sym (any_counted (of_family p first) p.mapped)

-- ---- a mapping comes

pub opened_put : (c : Ciphers) (p : Plain) (id slot : ℕ) (key : MasterValue) (opened : List (ℕ × MasterValue)) → at_id id p.mapped ≡ None → Some (master_of key) ≡ mkey c p (family p.tree.rows id) → AreOpened c p opened
    → AreOpened c (with_mounted (with_mapping p id slot) id) (with_id (family p.tree.rows id) key opened)
opened_put c p id slot key opened new key_is are first =
    let own : ℕ = family p.tree.rows id in
    let q : Plain = with_mounted (with_mapping p id slot) id in
    let more : is_opened q first ≡ ((own == first) || is_opened p first) =
    counted q first ∙ any_put (of_family p first) id slot p.mapped new ∙ ap (λ b. (own == first) || b) (sym (counted p first)) in
    ⊎_elim
    (λ (same : first ≡ own).
    let here : (own == first) ≡ true = eq-eqb own first (sym same) in
    let on : is_opened q first ≡ true = more ∙ ap (λ b. b || is_opened p first) here in
    let found : at_id first (with_id own key opened) ≡ Some key = ap (λ n. at_id n (with_id own key opened)) same ∙ at_id-with_id own key opened in
    ap (λ f. option_map master_of f) found ∙ key_is ∙ ap (λ n. mkey c p n) (sym same) ∙ sym (ap (λ b. cond b (mkey c p first) None) on))
    (λ (apart : first ≡ own → ⊥).
    let off : (own == first) ≡ false = ne_eqb own first (λ same. apart (sym same)) in
    ap (λ f. option_map master_of f) (at_id-with_id_other own first key opened apart) ∙ are first
    ∙ sym (ap (λ b. cond b (mkey c p first) None) (more ∙ ap (λ b. b || is_opened p first) off))) (cases_eq first own)

-- ---- a mapping goes

pub opened_drop : (c : Ciphers) (p : Plain) (id slot : ℕ) (opened left : List (ℕ × MasterValue)) (is_used : Bool) → IsRisingById p.mapped → at_id id p.mapped ≡ Some slot
    → is_used ≡ list_any (λ mapping. family p.tree.rows mapping.0 == family p.tree.rows id) (without_id id p.mapped) → left ≡ cond is_used opened (without_id (family p.tree.rows id) opened)
    → AreOpened c p opened → AreOpened c (without_mapping p id) left
opened_drop c p id slot opened left is_used rising there used left_is are first =
    let own : ℕ = family p.tree.rows id in
    let q : Plain = without_mapping p id in
    let less : is_opened p first ≡ ((own == first) || is_opened q first) =
    counted p first ∙ any_drop (of_family p first) id slot p.mapped rising there ∙ ap (λ b. (own == first) || b) (sym (counted q first)) in
    ap (λ l. option_map master_of (at_id first l)) left_is
    ∙ ⊎_elim
    (λ (same : first ≡ own).
    let here : (own == first) ≡ true = eq-eqb own first (sym same) in
    let on : is_opened p first ≡ true = less ∙ ap (λ b. b || is_opened q first) here in
    let still : is_opened q first ≡ is_used = counted q first ∙ ap (λ n. list_any (λ mapping. family p.tree.rows mapping.0 == n) q.mapped) same ∙ sym used in
    by_use is_used (is_opened q first) still (are first ∙ ap (λ b. cond b (mkey c p first) None) on) (ap (λ n. at_id n (without_id own opened)) same ∙ at_id-without_id own opened))
    (λ (apart : first ≡ own → ⊥).
    let off : (own == first) ≡ false = ne_eqb own first (λ same. apart (sym same)) in
    other_kept is_used (at_id-without_id_other own first opened apart) ∙ are first ∙ ap (λ b. cond b (mkey c p first) None) (less ∙ ap (λ b. b || is_opened q first) off)) (cases_eq first own)
  where
    by_use : (kept still : Bool) → still ≡ kept → option_map master_of (at_id first opened) ≡ mkey c p first → at_id first (without_id (family p.tree.rows id) opened) ≡ None
        → option_map master_of (at_id first (cond kept opened (without_id (family p.tree.rows id) opened))) ≡ cond still (mkey c p first) None
    by_use true still same key gone = key ∙ sym (ap (λ b. cond b (mkey c p first) None) same)
    by_use false still same key gone = ap (λ f. option_map master_of f) gone ∙ sym (ap (λ b. cond b (mkey c p first) None) same)

    other_kept : (kept : Bool) → at_id first (without_id (family p.tree.rows id) opened) ≡ at_id first opened
        → option_map master_of (at_id first (cond kept opened (without_id (family p.tree.rows id) opened))) ≡ option_map master_of (at_id first opened)
    other_kept true same = refl
    other_kept false same = ap (λ f. option_map master_of f) same

-- ---- no mapping comes or goes

alike : (on still : Bool) (one two : Option Master) → still ≡ on → (on ≡ true → two ≡ one) → cond on one None ≡ cond still two None
alike true still one two same keys = sym (keys refl) ∙ sym (ap (λ b. cond b two None) same)
alike false still one two same keys = sym (ap (λ b. cond b two None) same)

pub opened_same : (c : Ciphers) (p q : Plain) (opened : List (ℕ × MasterValue)) → ((first : ℕ) → is_opened q first ≡ is_opened p first) → ((first : ℕ) → is_opened p first ≡ true → mkey c q first ≡ mkey c p first)
    → AreOpened c p opened → AreOpened c q opened
opened_same c p q opened same keys are first = are first ∙ alike (is_opened p first) (is_opened q first) (mkey c p first) (mkey c q first) (same first) (keys first)

-- an opened family has a mapped dataset
pub mapped_of : (P : ℕ × ℕ → Type 0) (p : Plain) (first : ℕ) → All P p.mapped → is_opened p first ≡ true → (mapping : ℕ × ℕ) × P mapping × (family p.tree.rows mapping.0 ≡ first)
mapped_of P p first all on =
    let one = any_passes P (of_family p first) p.mapped all (sym (counted p first) ∙ on) in
    (one.0, one.1, eqb-true (family p.tree.rows one.0.0) first one.2)

-- the owner of an opened family owns a mapped dataset
pub owner_of_opened : (c : Ciphers) (P : ℕ × ℕ → Type 0) (p : Plain) (first : ℕ) → Sound c p → All P p.mapped → is_opened p first ≡ true → (mapping : ℕ × ℕ) × P mapping × (owner_of p first ≡ owner_of p mapping.0)
owner_of_opened c P p first s all on =
    let one = mapped_of P p first all on in
    (one.0, one.1, ap (λ n. owner_of p n) (sym one.2) ∙ sym (owner_of_family p.tree p.roots (heirs c p s) one.0.0))

pub opened_has_key : (c : Ciphers) (p : Plain) (first : ℕ) → Sound c p → is_opened p first ≡ true → has_key p first ≡ true
opened_has_key c p first s on =
    let one = owner_of_opened c (λ mapping. has_key p mapping.0 ≡ true) p first s s.mappings.keys on in
    ap (λ owner. has_key_of p owner) one.2 ∙ one.1

pub opened_has_master : (c : Ciphers) (p : Plain) (first : ℕ) → Sound c p → is_opened p first ≡ true → is_some (mkey c p first) ≡ true
opened_has_master c p first s on =
    let one = mapped_of (λ mapping. IsEncrypted p mapping.0 × (has_key p mapping.0 ≡ true)) p first (λ k d within. (s.mappings.encrypted k d within, s.mappings.keys k d within)) on in
    ap (λ n. is_some (mkey c p n)) (sym one.2) ∙ family_opens c p one.0.0 s one.1.0 one.1.1

-- what is opened, by a search
pub opened_there : (c : Ciphers) (p : Plain) (first : ℕ) (found : Option MasterValue) → Sound c p → option_map master_of found ≡ opened_by c p first → is_some found ≡ is_opened p first
opened_there c p first found s is = mapped_some found ∙ by (is_opened p first) refl is where
  mapped_some : (o : Option MasterValue) → is_some o ≡ is_some (option_map master_of o)
  mapped_some None = refl
  mapped_some (Some x) = refl

  by : (on : Bool) → is_opened p first ≡ on → option_map master_of found ≡ cond on (mkey c p first) None → is_some (option_map master_of found) ≡ on
  by true on is = ap (λ o. is_some o) is ∙ opened_has_master c p first s on
  by false on is = ap (λ o. is_some o) is

pub opened_key_is : (c : Ciphers) (p : Plain) (first : ℕ) (key : MasterValue) → Some (master_of key) ≡ opened_by c p first → Some (master_of key) ≡ mkey c p first
opened_key_is c p first key is = by (is_opened p first) is where
  by : (on : Bool) → Some (master_of key) ≡ cond on (mkey c p first) None → Some (master_of key) ≡ mkey c p first
  by true is = is
  by false is = absurd (cc)

-- ---- a key comes or goes

-- master keys by two lists of wrapping keys that agree on the owner
keys_alike : (c : Ciphers) (stored : Option Stored) (owner : Option ℕ) (one two : List (ℕ × List ℕ)) → ((root : ℕ) → owner ≡ Some root → at_id root one ≡ at_id root two)
    → option_and_then (λ s. option_and_then (λ r. option_and_then (λ k. c.opens s.wrapped k) (at_id r one)) owner) stored ≡ option_and_then (λ s. option_and_then (λ r. option_and_then (λ k. c.opens s.wrapped k) (at_id r two)) owner) stored
keys_alike c None owner one two same = refl
keys_alike c (Some s) None one two same = refl
keys_alike c (Some s) (Some root) one two same = ap (λ found. option_and_then (λ k. c.opens s.wrapped k) found) (same root refl)

pub loaded_opened : (c : Ciphers) (p : Plain) (root : ℕ) (key : List ℕ) (opened : List (ℕ × MasterValue)) → Sound c p → is_loaded p root ≡ false → AreOpened c p opened → AreOpened c (record p { loaded = with_id root key p.loaded }) opened
loaded_opened c p root key opened s absent are =
    opened_same c p (record p { loaded = with_id root key p.loaded }) opened (λ first. refl)
    (λ first on.
    keys_alike c (at_id first p.wrapped) (owner_of p first) (with_id root key p.loaded) p.loaded
    (λ own owner.
    at_id-with_id_other root own key p.loaded (λ same.
    let has : is_loaded p own ≡ true = ap (λ o. has_key_of p o) (sym owner) ∙ opened_has_key c p first s on in
    let lacks : is_loaded p own ≡ false = ap (λ n. is_loaded p n) same ∙ absent in
    cc))) are

pub dropped_opened : (c : Ciphers) (p : Plain) (root : ℕ) (opened : List (ℕ × MasterValue)) → Sound c p → closed p root ≡ p.mapped → AreOpened c p opened → AreOpened c (record p { loaded = without_id root p.loaded }) opened
dropped_opened c p root opened s idle are =
    let Other : ℕ × ℕ → Type 0 = λ mapping. not (is_owned p root mapping) ≡ true in
    let others : All Other p.mapped =
    subst (λ (mappings : List (ℕ × ℕ)). All Other mappings) idle (All-kept (λ mapping. Unit {0}) Other (λ mapping. not (is_owned p root mapping)) p.mapped (λ mapping any kept. kept) (λ k d within. tt)) in
    opened_same c p (record p { loaded = without_id root p.loaded }) opened (λ first. refl)
    (λ first on.
    let one = owner_of_opened c Other p first s others on in
    keys_alike c (at_id first p.wrapped) (owner_of p first) (without_id root p.loaded) p.loaded
    (λ own owner.
    at_id-without_id_other root own p.loaded (λ same.
    let mine : is_owned p root one.0 ≡ true = ap (λ o. is_same root o) (sym one.2 ∙ owner) ∙ eq-eqb own root same in
    let not_mine : not (is_owned p root one.0) ≡ true = one.1 in
    let both : false ≡ true = ap not (sym mine) ∙ not_mine in
    cc))) are

-- ---- a dataset comes

module _ (c : Ciphers) (p : Plain) (row : Row) (roots : List (ℕ × Props)) (wrapped : List (ℕ × Stored)) (loaded : List (ℕ × List ℕ)) (g : Grows p row roots wrapped loaded) (s : Sound c p) where
  abbrev q : Plain
  q = grown p row roots wrapped loaded

  mapped_stays : (first : ℕ) → is_opened q first ≡ is_opened p first
  mapped_stays first =
      counted q first
      ∙ any_same (of_family q first) (of_family p first) p.mapped
      (λ k d within. ap (λ n. n == first) (family_stays p row roots wrapped loaded g (get_or p.mapped k d).0 (encrypted_apart p row roots wrapped loaded g (get_or p.mapped k d).0 (s.mappings.encrypted k d within))))
      ∙ sym (counted p first)

  master_stays : (first : ℕ) → is_opened p first ≡ true → mkey c q first ≡ mkey c p first
  master_stays first on =
      let one = mapped_of (λ mapping. IsEncrypted p mapping.0) p first s.mappings.encrypted on in
      let apart : first ≢ row.id = λ same. family_apart p row roots wrapped loaded g one.0.0 one.1 (one.2 ∙ same) in
      ap (λ stored. option_and_then (λ (e : Stored). option_and_then (λ r. option_and_then (λ k. c.opens e.wrapped k) (at_id r loaded)) (owner_of q first)) stored) (g.wrapped_kept first apart)
      ∙ ap (λ owner. option_and_then (λ (e : Stored). option_and_then (λ r. option_and_then (λ k. c.opens e.wrapped k) (at_id r loaded)) owner) (at_id first p.wrapped)) (owner_stays p row roots wrapped loaded g first apart)
      ∙ keys_alike c (at_id first p.wrapped) (owner_of p first) loaded p.loaded (λ root owner. g.loaded_kept root (owner_apart p row roots wrapped loaded g first root owner))

  pub grown_opened : (opened : List (ℕ × MasterValue)) → AreOpened c p opened → AreOpened c q opened
  grown_opened opened are = opened_same c p q opened mapped_stays master_stays are

put_unless : {X : Type 0} (b : Bool) (id at : ℕ) (value : X) (entries : List (ℕ × X)) → at ≢ id → at_id at (cond b (with_id id value entries) entries) ≡ at_id at entries
put_unless true id at value entries apart = at_id-with_id_other id at value entries apart
put_unless false id at value entries apart = refl

pub created_grows : (c : Ciphers) (p : Plain) (name : List ℕ) (opts : Options) (told : Told) (root encrypted : Bool) → Sound c p → refusal_of p (commands.Create name opts) ≡ None
    → Grows p (new_row p name encrypted) (roots_with p opts told root) (records_with p opts told encrypted) (loaded_with p told root)
created_grows c p name opts told root encrypted s accepted =
    let is : IsFree p name opts = free p name opts accepted in
    record {
      tree = s.tree.tree;
      id = refl;
      new = is.absent;
      parent = there (parent_in p.tree.rows (parent_name name)) is.parent;
      origin = omega arith;
      roots_kept = λ id apart. put_unless root (p.tree.last + 1) id (new_props opts told) p.roots apart;
      wrapped_kept = λ id apart. put_unless encrypted (p.tree.last + 1) id (new_stored (p.tree.last + 1) opts told) p.wrapped apart;
      loaded_kept = λ id apart. put_unless root (p.tree.last + 1) id told.key p.loaded apart;
    }
  where
    there : (found : Option ℕ) → is_none found ≡ false → found ≡ Some (unwrap_or found 0)
    there None lacks = absurd (cc)
    there (Some id) lacks = refl

pub created_opened : (c : Ciphers) (p : Plain) (name : List ℕ) (opts : Options) (told : Told) (root encrypted : Bool) (opened : List (ℕ × MasterValue)) → Sound c p → refusal_of p (commands.Create name opts) ≡ None → AreOpened c p opened
    → AreOpened c (created_with p name opts told root encrypted) opened
created_opened c p name opts told root encrypted opened s accepted are =
    grown_opened c p (new_row p name encrypted) (roots_with p opts told root) (records_with p opts told encrypted) (loaded_with p told root) (created_grows c p name opts told root encrypted s accepted) s opened are

-- ---- no key is loaded

pub unloaded_opened : (c : Ciphers) (p : Plain) (wrapped : List (ℕ × Stored)) (opened : List (ℕ × MasterValue)) → Sound c p → p.loaded ≡ [] → AreOpened c p opened → AreOpened c (record p { wrapped = wrapped }) opened
unloaded_opened c p wrapped opened s none are =
    opened_same c p (record p { wrapped = wrapped }) opened (λ first. refl)
    (λ first on.
    let has : has_key_of p (owner_of p first) ≡ true = opened_has_key c p first s on in
    let lacks : has_key_of p (owner_of p first) ≡ false = no_key (owner_of p first) in
    absurd (cc)) are
  where
    no_key : (owner : Option ℕ) → has_key_of p owner ≡ false
    no_key None = refl
    no_key (Some root) = ap (λ (keys : List (ℕ × List ℕ)). is_some (at_id root keys)) none

-- a key that an accepted load adds wasn't loaded
pub load_absent : (p : Plain) (name : List ℕ) (root : ℕ) (check_only : Bool) → first_of (load_cases p name check_only) ≡ None → id_named name p.tree.rows ≡ Some root → check_only ≡ false → is_loaded p root ≡ false
load_absent p name root check_only accepted named_is loads =
    let none : NoneHolds (load_cases p name check_only) = none_holds (load_cases p name check_only) accepted in
    let is : IsNamed p name root = named p name root named_is in
    let test : (is_loaded_row p (row_named name p.tree.rows) && not check_only) ≡ false = none.1.1.1.0 in
    let absent : is_loaded_row p (row_named name p.tree.rows) ≡ false = by (is_loaded_row p (row_named name p.tree.rows)) check_only loads test in
    ap (λ n. is_loaded p n) (sym is.same) ∙ (sym (ap (λ row. is_loaded_row p row) is.found) ∙ absent)
  where
    by : (a b : Bool) → b ≡ false → (a && not b) ≡ false → a ≡ false
    by true true loads test = absurd (cc)
    by true false loads test = absurd (cc)
    by false b loads test = refl
