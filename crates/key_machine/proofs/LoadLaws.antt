-- Loads keep a sound state sound, and are accepted where the records open.
use Rattle.std.proofs.Common.{◌≡◌, ◌≢◌, ⊎_elim, ◌↔◌, ℕ, Bool, true, false, not, cond, ◌==◌, ◌&&◌, List, [], ◌∷◌, Option, Some, None, Result, Ok, Err, is_some, IfSome, option_map, refl, ap, sym, subst, ◌∙◌, arith}
use Rattle.std.proofs.lemmas.Bool.{eq-eqb, cases_Bool, cases_eq, ne_eqb}
use Rattle.std.proofs.lemmas.List.Elements.{All-nil, All-cons, All-head, All-tail}
use Rattle.std.specs.Prelude.{get_or}
use Rattle.std.specs.List.{All, filter}
use Rattle.dataset_tree.specs.declared.refusal.Refusal.{Refusal}
use Rattle.dataset_tree.specs.declared.refusal.Refusal.TheVariants.{KeyLoaded, WrongKey}
use Rattle.dataset_tree.specs.declared.tree.Row.{Row}
use Rattle.dataset_tree.specs.Tree.{row_named}
use Rattle.encryption_roots.specs.declared.props.Location.{Location}
use Rattle.encryption_roots.specs.declared.props.Props.{Props}
use Rattle.encryption_roots.specs.declared.kit.LineKit.{LineKit}
use Rattle.encryption_roots.specs.declared.command.KeyCmd.{KeyCmd}
use Rattle.encryption_roots.specs.declared.command.KeyCmd.TheVariants as commands
use Rattle.encryption_roots.specs.ById.{at_id, with_id}
use Rattle.encryption_roots.proofs.ByIdLemmas.{IsRisingById-with_id, at_id-with_id, at_id-with_id_other}
use Rattle.key_machine.specs.Plain.{Plain, Ciphers, Stored, owner_of, is_root, has_key_of, is_same, owned}
use Rattle.key_machine.specs.Load.{first_wrong, told_load, told_load_of, told_load_with, loaded_key, load_done}
use Rattle.key_machine.specs.Refusals.{first_of, first_refusal, root_cases, is_loaded_row}
use Rattle.key_machine.specs.Reply.{Stepped, Done, unless_refused}
use Rattle.key_machine.specs.Sound.{Sound, OpensAt}
use Rattle.key_machine.specs.Step.{key_step, refusal_of, material_refusal, target, told}
use Rattle.key_machine.specs.Told.{Told, key_of}
use Rattle.key_machine.specs.Fair.{OpensAll}
use Rattle.key_machine.proofs.SoundLemmas.{done}
use Rattle.key_machine.proofs.KeyLists.{All-with_id}

-- ---- load

-- what a key opens among the records that a root owns, it opens by family
pub opens_at : (c : Ciphers) (p : Plain) (root id : ℕ) (key : List ℕ) (entries : List (ℕ × Stored)) → owner_of p id ≡ Some root
    → All (λ entry. is_some (c.opens entry.1.wrapped key) ≡ true) (filter (λ entry. is_same root (owner_of p entry.0)) entries) → IfSome (at_id id entries) (λ stored. is_some (c.opens stored.wrapped key) ≡ true)
opens_at c p root id key [] owner opened = tt
opens_at c p root id key (entry ∷ entries) owner opened =
    let Opens : ℕ × Stored → Type 0 = λ entry. is_some (c.opens entry.1.wrapped key) ≡ true in
    let own : ℕ × Stored → Bool = λ entry. is_same root (owner_of p entry.0) in
    ⊎_elim
    (λ (mine : own entry ≡ true).
    let opened : All Opens (entry ∷ filter own entries) = rw mine at opened in
    let rest : IfSome (at_id id entries) (λ stored. is_some (c.opens stored.wrapped key) ≡ true) = opens_at c p root id key entries owner (All-tail Opens entry (filter own entries) opened) in
    elim (entry.0 == id) as (λ b. IfSome (cond b (Some entry.1) (at_id id entries)) (λ stored. is_some (c.opens stored.wrapped key) ≡ true)) [ true ↦ All-head Opens entry (filter own entries) opened | false ↦ rest ])
    (λ (others : own entry ≡ false).
    let opened : All Opens (filter own entries) = rw others at opened in
    let rest : IfSome (at_id id entries) (λ stored. is_some (c.opens stored.wrapped key) ≡ true) = opens_at c p root id key entries owner opened in
    let apart : entry.0 ≢ id = λ same. (let mine : own entry ≡ true = ap (λ at. is_same root (owner_of p at)) same ∙ ap (λ found. is_same root found) owner ∙ eq-eqb root root refl in cc) in
    rw (ne_eqb entry.0 id apart) rest) (cases_Bool (own entry))

-- a key that is loaded stays so
pub key_kept : (p : Plain) (root : ℕ) (key : List ℕ) (found : Option ℕ) → has_key_of p found ≡ true → has_key_of (record p { loaded = with_id root key p.loaded }) found ≡ true
key_kept p root key None known = known
key_kept p root key (Some owner) known =
    ⊎_elim (λ (same : owner ≡ root). rw (same, at_id-with_id root key p.loaded) refl) (λ (apart : owner ≢ root). rw (at_id-with_id_other root owner key p.loaded apart) known) (cases_eq owner root)

module _ (c : Ciphers) (p : Plain) (s : Sound c p) (root : ℕ) (key : List ℕ) (there : is_root p root ≡ true) (opened : All (λ entry. is_some (c.opens entry.1.wrapped key) ≡ true) (owned p root)) where
  pub with_key_sound : Sound c (record p { loaded = with_id root key p.loaded })
  with_key_sound = record {
    tree = record {
      tree = s.tree.tree;
      owners = s.tree.owners;
      roots = s.tree.roots;
      roots_encrypted = s.tree.roots_encrypted;
      no_clone = s.tree.no_clone;
      origins = s.tree.origins;
      records = s.tree.records;
      families = s.tree.families;
    };
    mappings = record {
      mapped = s.mappings.mapped;
      encrypted = s.mappings.encrypted;
      slots = s.mappings.slots;
      keys = λ k d within. key_kept p root key (owner_of p (get_or p.mapped k d).0) (s.mappings.keys k d within);
      mounted = s.mappings.mounted;
      mounts = s.mappings.mounts;
    };
    keys = record {
      loaded = IsRisingById-with_id root key p.loaded s.keys.loaded;
      roots = All-with_id (λ entry. is_root p entry.0 ≡ true) root key p.loaded s.keys.roots there;
      opened = λ at id other found owner.
          ⊎_elim
          (λ (same : at ≡ root).
          let here : at_id at (with_id root key p.loaded) ≡ Some key = ap (λ r. at_id r (with_id root key p.loaded)) same ∙ at_id-with_id root key p.loaded in
          let keys : Some key ≡ Some other = sym here ∙ found in
          let alike : key ≡ other = cc in
          subst (λ k. OpensAt c p k id) alike (opens_at c p root id key p.wrapped (owner ∙ ap (λ r. Some r) same) opened))
          (λ (apart : at ≢ root). s.keys.opened at id other (sym (at_id-with_id_other root at key p.loaded apart) ∙ found) owner) (cases_eq at root);
    };
    users = record { one = s.users.one; mapped = s.users.mapped; present = s.users.present; few = s.users.few; riders = s.users.riders };
    slots = record { slots = s.slots.slots; generations = s.slots.generations; mapped = s.slots.mapped };
  }

loaded_sound : (c : Ciphers) (p : Plain) (root : ℕ) (check_only : Bool) (told : Told) → Sound c p → is_root p root ≡ true → All (λ entry. is_some (c.opens entry.1.wrapped told.key) ≡ true) (owned p root)
    → Sound c (loaded_key p root check_only told)
loaded_sound c p root true told s there opened = s
loaded_sound c p root false told s there opened = with_key_sound c p s root told.key there opened

-- what the state doesn't refuse is about a root
root_there : (p : Plain) (cases : List (Bool × Refusal)) (row : Option Row) (root : ℕ) → first_of (root_cases p row cases) ≡ None → option_map (λ row. row.id) row ≡ Some root → is_root p root ≡ true
root_there p cases None root accepted found = absurd (cc)
root_there p cases (Some row) root accepted found = grind arith

load_carried : (c : Ciphers) (p : Plain) (told : Told) (check_only : Bool) (found : Option ℕ) → Sound c p → ((root : ℕ) → found ≡ Some root → is_root p root ≡ true)
    → OpensAll c p told found → Sound c (load_done p check_only told found).state
load_carried c p told check_only None s there opened = s
load_carried c p told check_only (Some root) s there opened = loaded_sound c p root check_only told s (there root refl) opened

-- what a load that its state accepts is about is a root
pub load_root : (p : Plain) (name : List ℕ) (check_only : Bool) (place : Option Location) (root : ℕ) → refusal_of p (commands.Load name check_only place) ≡ None
    → target p (commands.Load name check_only place) ≡ Some root → is_root p root ≡ true
load_root p name check_only place root accepted found = root_there p ((is_loaded_row p (row_named name p.tree.rows) && not check_only, KeyLoaded) ∷ []) (row_named name p.tree.rows) root accepted found

pub load_sound : (c : Ciphers) (p : Plain) (told : Told) (name : List ℕ) (check_only : Bool) (place : Option Location) → Sound c p → refusal_of p (commands.Load name check_only place) ≡ None
    → OpensAll c p told (target p (commands.Load name check_only place)) → Sound c (load_done p check_only told (target p (commands.Load name check_only place))).state
load_sound c p told name check_only place s accepted opened =
    load_carried c p told check_only (target p (commands.Load name check_only place)) s (λ root found. load_root p name check_only place root accepted found) opened

-- ---- when a load is accepted

pub none_wrong : (c : Ciphers) (key : List ℕ) (entries : List (ℕ × Stored)) → (first_wrong c key entries ≡ None) ↔ All (λ entry. is_some (c.opens entry.1.wrapped key) ≡ true) entries
none_wrong c key [] = (λ none. All-nil _, λ all. refl)
none_wrong c key (entry ∷ entries) =
    let Opens : ℕ × Stored → Type 0 = λ entry. is_some (c.opens entry.1.wrapped key) ≡ true in
    let rest : (first_wrong c key entries ≡ None) ↔ All Opens entries = none_wrong c key entries in (
      λ none. ⊎_elim (λ (opens : is_some (c.opens entry.1.wrapped key) ≡ true). All-cons Opens entry entries opens (rest.0 (rw opens at none)))
          (λ (fails : is_some (c.opens entry.1.wrapped key) ≡ false). absurd (let wrong : Some entry.0 ≡ None = rw fails at none in cc)) (cases_Bool (is_some (c.opens entry.1.wrapped key))),
      λ all. let opens : is_some (c.opens entry.1.wrapped key) ≡ true = All-head Opens entry entries all in rw opens (rest.1 (All-tail Opens entry entries all)),
    )

-- where the material gives a key, the first record that doesn't open is told
told_with : (c : Ciphers) (p : Plain) (root : ℕ) (key : Result (List ℕ) Refusal) → (told_load_with c p root key).fault ≡ None → (told_load_with c p root key).wrong ≡ first_wrong c (told_load_with c p root key).key (owned p root)
told_with c p root (Ok key) material = refl
told_with c p root (Err why) material = absurd (cc)

told_of : (c : Ciphers) (p : Plain) (kit : LineKit) (root : ℕ) (found : Option Props) → is_some found ≡ true → (told_load_of c p kit root found).fault ≡ None
    → (told_load_of c p kit root found).wrong ≡ first_wrong c (told_load_of c p kit root found).key (owned p root)
told_of c p kit root None there material = absurd (cc)
told_of c p kit root (Some props) there material = told_with c p root (key_of c props.format props.iters props.salt kit.new_key) material

pub told_at : (c : Ciphers) (p : Plain) (kit : LineKit) (root : ℕ) (found : Option ℕ) → found ≡ Some root → is_root p root ≡ true → (told_load c p kit found).fault ≡ None
    → (told_load c p kit found).wrong ≡ first_wrong c (told_load c p kit found).key (owned p root)
told_at c p kit root found same there material = subst Tells (sym same) (λ fault. told_of c p kit root (at_id root p.roots) there fault) material
  where
    Tells : Option ℕ → Type 0
    Tells found = (told_load c p kit found).fault ≡ None → (told_load c p kit found).wrong ≡ first_wrong c (told_load c p kit found).key (owned p root)

-- a load whose state refuses nothing, and that is told no fault, is done exactly where no record is wrong
abbrev by_wrong : Plain → Bool → Told → Option ℕ → Option ℕ → Stepped
by_wrong p check_only told wrong at = unless_refused p (first_refusal (option_map (λ dataset. WrongKey dataset) wrong ∷ [])) (load_done p check_only told at)

done_where : (p : Plain) (told : Told) (check_only : Bool) (root : ℕ) (wrong at : Option ℕ) → at ≡ Some root → ((by_wrong p check_only told wrong at).reply ≡ Done) ↔ (wrong ≡ None)
done_where p told check_only root None at found = (λ done. refl, λ none. ap (λ at. (load_done p check_only told at).reply) found)
done_where p told check_only root (Some dataset) at found = (λ done. absurd (cc), λ none. absurd (cc))

pub load_accepted : (c : Ciphers) (p : Plain) (name : List ℕ) (check_only : Bool) (place : Option Location) (kit : LineKit) (root : ℕ)
    → refusal_of p (commands.Load name check_only place) ≡ None → (told_load c p kit (target p (commands.Load name check_only place))).fault ≡ None → target p (commands.Load name check_only place) ≡ Some root
    → ((key_step p (commands.Load name check_only place) (told_load c p kit (target p (commands.Load name check_only place)))).reply ≡ Done)
    ↔ All (λ entry. is_some (c.opens entry.1.wrapped (told_load c p kit (target p (commands.Load name check_only place))).key) ≡ true) (owned p root)
load_accepted c p name check_only place kit root accepted material found =
    let command : KeyCmd = commands.Load name check_only place in
    let facts : Told = told_load c p kit (target p command) in
    let there : is_root p root ≡ true = load_root p name check_only place root accepted found in
    let wrong : facts.wrong ≡ first_wrong c facts.key (owned p root) = told_at c p kit root (target p command) found there material in
    let reply : (key_step p command facts).reply ≡ (by_wrong p check_only facts facts.wrong (target p command)).reply =
    ap (λ refusal. (unless_refused p refusal (unless_refused p (material_refusal p command facts) (done p command facts))).reply) accepted
    ∙ ap (λ fault. (unless_refused p (first_refusal (fault ∷ option_map (λ dataset. WrongKey dataset) facts.wrong ∷ [])) (done p command facts)).reply) material in
    let done : ((by_wrong p check_only facts facts.wrong (target p command)).reply ≡ Done) ↔ (facts.wrong ≡ None) = done_where p facts check_only root facts.wrong (target p command) found in
    let opens : (first_wrong c facts.key (owned p root) ≡ None) ↔ All (λ entry. is_some (c.opens entry.1.wrapped facts.key) ≡ true) (owned p root) = none_wrong c facts.key (owned p root) in
    (λ yes. opens.0 (sym wrong ∙ done.0 (sym reply ∙ yes)), λ all. reply ∙ done.1 (wrong ∙ opens.1 all))
