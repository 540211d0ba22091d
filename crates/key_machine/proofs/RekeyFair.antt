-- What a kit tells of a change or an inherit is fair in a sound state.
use Rattle.std.proofs.Common.{◌≡◌, ⊎_elim, inl, inr, ℕ, ◌+◌, ◌<◌, ◌≤◌, Bool, true, false, not, ◌&&◌, ◌==◌, List, [], ◌∷◌, length, map, Option, Some, None, Result, Ok, Err, IfSome, is_some, option_map, refl, ap, sym, ◌∙◌, subst, arith, if◌then◌else◌}
use Rattle.std.proofs.lemmas.Bool.{eqb-true}
use Rattle.std.proofs.lemmas.Bool.Decides.{nat_tests}
use Rattle.std.proofs.lemmas.List.Elements.{All-nil, All-cons, All-head, All-tail}
use Rattle.std.specs.Prelude.{unwrap_or}
use Rattle.std.specs.List.{All, filter}
use Rattle.std.specs.Option.{option_and_then}
use Rattle.dataset_tree.specs.declared.refusal.Refusal.{Refusal}
use Rattle.dataset_tree.specs.declared.refusal.Refusal.TheVariants.{WrongKey}
use Rattle.dataset_tree.specs.declared.tree.Row.{Row}
use Rattle.dataset_tree.specs.Tree.{IsTree, row_of}
use Rattle.encryption_roots.specs.declared.command.KeyCmd.{KeyCmd}
use Rattle.encryption_roots.specs.declared.command.KeyCmd.TheVariants as commands
use Rattle.encryption_roots.specs.declared.kit.Fetched.{Fetched}
use Rattle.encryption_roots.specs.declared.kit.LineKit.{LineKit}
use Rattle.encryption_roots.specs.declared.props.Options.{Options}
use Rattle.encryption_roots.specs.declared.props.Props.{Props}
use Rattle.encryption_roots.specs.ById.{at_id, with_id}
use Rattle.encryption_roots.proofs.OwnerLemmas.{owner_by_walking, owner_of_root}
use Rattle.key_machine.specs.Change.{changed_props, changed_format, changed_iters, changed_salt, change_material, with_own_root, told_changed, told_change, change_families}
use Rattle.key_machine.specs.Fair.{AreSound, IsFair, IsGenuine, AllOpen, AllKept}
use Rattle.key_machine.specs.Inherit.{inherit_material, key_above, told_inherited, told_inherit, inherit_families, inherit_key}
use Rattle.key_machine.specs.Plain.{Plain, Stored, Master, Ciphers, owner_of, has_key, has_key_of, is_same, owned, mkey}
use Rattle.key_machine.specs.Rekey.{present_props, present_key, fetches_old, fetched_old, old_key, old_wrong, first_wrong_of, sealed_anew, rewrapped, told_anew}
use Rattle.key_machine.specs.Sound.{Sound, OpensAt}
use Rattle.key_machine.specs.Step.{key_step, refusal_of, target, told, IsAccepted}
use Rattle.key_machine.specs.Told.{Told, no_key, key_of, seed_of}
use Rattle.key_machine.proofs.ChangeLaws.{IsFirst, IsChangeable, changeable}
use Rattle.key_machine.proofs.InheritLaws.{IsInheritable, inheritable, none_there}
use Rattle.key_machine.proofs.KeyLists.{All-kept, each_found}
use Rattle.key_machine.proofs.LoadLaws.{opens_at, none_wrong}
use Rattle.key_machine.proofs.RekeyOwners.{splits, with_is_root, with_agrees}
use Rattle.key_machine.proofs.RekeyRecords.{rewrapped_ids, rewrapped_have}
use Rattle.key_machine.proofs.SoundLemmas.{by_step}

-- ---- a new family had no key

none_above : (rows : List Row) (last id : ℕ) → All (λ row. row.id ≤ last) rows → last < id → row_of id rows ≡ None
none_above [] last id given above = refl
none_above (row ∷ rows) last id given above =
    let here : row.id ≤ last = All-head (λ (r : Row). r.id ≤ last) row rows given in
    let rest : row_of id rows ≡ None = none_above rows last id (All-tail (λ (r : Row). r.id ≤ last) row rows given) above in
    let apart : (row.id == id) ≡ false = grind (arith, nat_tests) in
    rw apart rest

no_new_key : (p : Plain) → IsTree p.tree → has_key p (p.tree.last + 1) ≡ false
no_new_key p tree =
    let none : row_of (p.tree.last + 1) p.tree.rows ≡ None = none_above p.tree.rows p.tree.last (p.tree.last + 1) tree.given (omega arith) in
    let unowned : owner_of p (p.tree.last + 1) ≡ None = owner_by_walking p.tree p.roots (p.tree.last + 1) tree ∙ rw none refl in
    ap (has_key_of p) unowned

-- so what is written for it keeps nothing
pub created_kept : (c : Ciphers) (p : Plain) (key : List ℕ) (records : List (ℕ × List ℕ)) → IsTree p.tree → map (λ entry. entry.0) records ≡ (p.tree.last + 1) ∷ [] → AllKept c p key records
created_kept c p key [] tree one = All-nil (λ (entry : ℕ × List ℕ). has_key p entry.0 ≡ true → c.opens entry.1 key ≡ mkey c p entry.0)
created_kept c p key (entry ∷ []) tree one =
    let Same : ℕ × List ℕ → Type 0 = λ e. has_key p e.0 ≡ true → c.opens e.1 key ≡ mkey c p e.0 in
    let here : entry.0 ≡ p.tree.last + 1 = cc in
    All-cons Same entry [] (λ has. absurd (let both : true ≡ false = sym has ∙ ap (λ m. has_key p m) here ∙ no_new_key p tree in cc)) (All-nil Same)
created_kept c p key (entry ∷ second ∷ records) tree one = absurd (cc)

-- ---- where nothing fails

ok_told : (wrong : List ℕ → Option ℕ) (tells : (old new seed : List ℕ) → Told) (old new seed : Result (List ℕ) Refusal) → (told_anew wrong tells old new seed).fault ≡ None
    → (o : List ℕ) × (n : List ℕ) × (k : List ℕ) × (old ≡ Ok o) × (new ≡ Ok n) × (seed ≡ Ok k) × (told_anew wrong tells old new seed ≡ tells o n k)
ok_told wrong tells (Err why) new seed none = absurd (cc)
ok_told wrong tells (Ok old) (Err why) seed none = absurd (cc)
ok_told wrong tells (Ok old) (Ok new) (Err why) none = absurd (cc)
ok_told wrong tells (Ok old) (Ok new) (Ok seed) none = (old, new, seed, refl, refl, refl, refl)

not_wrong : (wrong : Option ℕ) → option_map (λ dataset. WrongKey dataset) wrong ≡ None → wrong ≡ None
not_wrong None h = refl
not_wrong (Some dataset) h = absurd (cc)

-- ---- the old key opens the records of its owner

pub record IsOldKey (c : Ciphers) (p : Plain) (id : ℕ) (old : List ℕ) : Type 0 where
  pub opens : (at : ℕ) → owner_of p at ≡ owner_of p id → OpensAt c p old at
  pub loaded : (root : ℕ) → has_key p id ≡ true → owner_of p id ≡ Some root → at_id root p.loaded ≡ Some old

some_root : (found : Option ℕ) → is_some found ≡ true → (root : ℕ) × (found ≡ Some root)
some_root None h = absurd (cc)
some_root (Some root) h = (root, refl)

some_key : (found : Option (List ℕ)) → is_some found ≡ true → (key : List ℕ) × (found ≡ Some key)
some_key None h = absurd (cc)
some_key (Some key) h = (key, refl)

-- where it isn't to be fetched it is loaded
is_loaded_there : (load_first has : Bool) → (load_first && not has) ≡ false → (not load_first && not has) ≡ false → has ≡ true
is_loaded_there true true fetches key = refl
is_loaded_there true false fetches key = absurd (cc)
is_loaded_there false true fetches key = refl
is_loaded_there false false fetches key = absurd (cc)

not_loaded : (load_first has : Bool) → (load_first && not has) ≡ true → has ≡ false
not_loaded true true h = absurd (cc)
not_loaded true false h = refl
not_loaded false has h = absurd (cc)

module _ (c : Ciphers) (p : Plain) (s : Sound c p) (id : ℕ) (is : IsFirst p id) (load_first : Bool) (fetched : Fetched) (old : List ℕ) (key : (not load_first && not (has_key p id)) ≡ false) where
  present : (root : ℕ) × (owner_of p id ≡ Some root)
  present = some_root (owner_of p id) (s.tree.owners id (is.row, is.found, is.crypt))

  by_fetching : (fetches : Bool) → fetches_old p id load_first ≡ fetches → (if fetches then fetched_old c (present_props p id) fetched else Ok (present_key p id)) ≡ Ok old
      → (if fetches then first_wrong_of c p old (owner_of p id) else None) ≡ None → IsOldKey c p id old
  by_fetching true is_so had none =
      let own : owner_of p id ≡ Some present.0 = present.1 in
      let all = (none_wrong c old (owned p present.0)).0 (sym (ap (λ (found : Option ℕ). first_wrong_of c p old found) own) ∙ none) in
      record {
        opens = λ at same. opens_at c p present.0 at old p.wrapped (same ∙ own) all;
        loaded = λ root has owner. absurd (let both : true ≡ false = sym has ∙ not_loaded load_first (has_key p id) is_so in cc);
      }
  by_fetching false is_so had none =
      let own : owner_of p id ≡ Some present.0 = present.1 in
      let has : has_key p id ≡ true = is_loaded_there load_first (has_key p id) is_so key in
      let found = some_key (at_id present.0 p.loaded) (sym (ap (has_key_of p) own) ∙ has) in
      let present_is : present_key p id ≡ found.0 =
      ap (λ (o : Option ℕ). unwrap_or (option_and_then (λ root. at_id root p.loaded) o) no_key) own ∙ ap (λ (k : Option (List ℕ)). unwrap_or k no_key) found.1 in
      let given : present_key p id ≡ old = cc in
      let there : at_id present.0 p.loaded ≡ Some old = found.1 ∙ ap (λ (k : List ℕ). Some k) (sym present_is ∙ given) in
      record {
        opens = λ at same. s.keys.opened present.0 at old there (same ∙ own);
        loaded = λ root have owner. (let both : Some root ≡ Some present.0 = sym owner ∙ own in let same : root ≡ present.0 = cc in ap (λ (m : ℕ). at_id m p.loaded) same ∙ there);
      }

  pub is_old_key : old_key c p id load_first fetched ≡ Ok old → old_wrong c p id load_first old ≡ None → IsOldKey c p id old
  is_old_key had none = by_fetching (fetches_old p id load_first) refl had none

-- ---- records anew open as before

some_master : (found : Option Master) → is_some found ≡ true → (m : Master) × (found ≡ Some m)
some_master None h = absurd (cc)
some_master (Some m) h = (m, refl)

module _ (c : Ciphers) (are : AreSound c) (p : Plain) (s : Sound c p) (id : ℕ) (old new : List ℕ) (is : IsOldKey c p id old) where
  -- a family's record under the new key opens to its master key
  sealed_opens : (entry : ℕ × Stored) → at_id entry.0 p.wrapped ≡ Some entry.1 → owner_of p entry.0 ≡ owner_of p id → (vector : List ℕ) → length vector ≡ 12
      → (m : Master) × (c.opens entry.1.wrapped old ≡ Some m) × (c.opens (sealed_anew c entry.1.wrapped new vector (c.opens entry.1.wrapped old)) new ≡ Some m)
  sealed_opens entry found own vector twelve =
      let opens : is_some (c.opens entry.1.wrapped old) ≡ true = subst (λ (stored : Option Stored). IfSome stored (λ r. is_some (c.opens r.wrapped old) ≡ true)) found (is.opens entry.0 own) in
      let m = some_master (c.opens entry.1.wrapped old) opens in
      (m.0, m.1, ap (λ (o : Option Master). c.opens (sealed_anew c entry.1.wrapped new vector o) new) m.1 ∙ are.opened m.0 new vector (are.masters entry.1.wrapped old m.0 m.1) twelve)

  mkey_is : (entry : ℕ × Stored) (m : Master) → at_id entry.0 p.wrapped ≡ Some entry.1 → owner_of p entry.0 ≡ owner_of p id → c.opens entry.1.wrapped old ≡ Some m → has_key p entry.0 ≡ true → mkey c p entry.0 ≡ Some m
  mkey_is entry m found own opens has =
      let here : has_key p id ≡ true = sym (ap (has_key_of p) own) ∙ has in
      by_owner (owner_of p id) refl here
    where
      by_owner : (o : Option ℕ) → owner_of p id ≡ o → has_key_of p o ≡ true → mkey c p entry.0 ≡ Some m
      by_owner None owner has = absurd (cc)
      by_owner (Some root) owner has =
          ap (λ (stored : Option Stored). option_and_then (λ (r : Stored). option_and_then (λ at_root. option_and_then (λ key. c.opens r.wrapped key) (at_id at_root p.loaded)) (owner_of p entry.0)) stored) found
          ∙ ap (λ (o : Option ℕ). option_and_then (λ at_root. option_and_then (λ key. c.opens entry.1.wrapped key) (at_id at_root p.loaded)) o) (own ∙ owner)
          ∙ ap (λ (k : Option (List ℕ)). option_and_then (λ key. c.opens entry.1.wrapped key) k) (is.loaded root (ap (has_key_of p) owner ∙ has) owner)
          ∙ opens

  module _ (seed : List ℕ) (test : ℕ → Bool) (of_owner : (at : ℕ) → test at ≡ true → owner_of p at ≡ owner_of p id) where
    abbrev families : List (ℕ × Stored)
    families = filter (λ entry. test entry.0) p.wrapped

    pub anew_open : AllOpen c new (rewrapped c seed old new 0 families)
    anew_open =
        let Opens : ℕ × List ℕ → Type 0 = λ entry. is_some (c.opens entry.1 new) ≡ true in
        rewrapped_have c seed old new Opens 0 families (λ place. are.words seed place 12)
        (All-kept (λ (entry : ℕ × Stored). at_id entry.0 p.wrapped ≡ Some entry.1)
        (λ (entry : ℕ × Stored). (vector : List ℕ) → length vector ≡ 12 → Opens (entry.0, sealed_anew c entry.1.wrapped new vector (c.opens entry.1.wrapped old))) (λ (entry : ℕ × Stored). test entry.0) p.wrapped
        (λ entry found passes vector twelve. ap (λ (o : Option Master). is_some o) (sealed_opens entry found (of_owner entry.0 passes) vector twelve).2) (each_found p.wrapped s.tree.records))

    pub anew_kept : AllKept c p new (rewrapped c seed old new 0 families)
    anew_kept =
        let Same : ℕ × List ℕ → Type 0 = λ entry. has_key p entry.0 ≡ true → c.opens entry.1 new ≡ mkey c p entry.0 in
        rewrapped_have c seed old new Same 0 families (λ place. are.words seed place 12)
        (All-kept (λ (entry : ℕ × Stored). at_id entry.0 p.wrapped ≡ Some entry.1)
        (λ (entry : ℕ × Stored). (vector : List ℕ) → length vector ≡ 12 → Same (entry.0, sealed_anew c entry.1.wrapped new vector (c.opens entry.1.wrapped old))) (λ (entry : ℕ × Stored). test entry.0) p.wrapped
        (λ entry found passes vector twelve has.
        let sealed = sealed_opens entry found (of_owner entry.0 passes) vector twelve in
        sealed.2 ∙ sym (mkey_is entry sealed.0 found (of_owner entry.0 passes) sealed.1 has)) (each_found p.wrapped s.tree.records))

-- the owner that a test names
owner_named : (id : ℕ) (found : Option ℕ) → is_same id found ≡ true → found ≡ Some id
owner_named id None h = absurd (cc)
owner_named id (Some other) h = ap (λ (m : ℕ). Some m) (eqb-true other id h)

-- ---- a change

-- what is told of records that are written anew, under a key
record TellsAnew (c : Ciphers) (p : Plain) (facts : Told) (key ids : List ℕ) : Type 0 where
  families : map (λ entry. entry.0) facts.wrapped ≡ ids
  opened : AllOpen c key facts.wrapped
  kept : AllKept c p key facts.wrapped

abbrev NoneTold : Told → Type 0
NoneTold facts = (facts.wrong ≡ None) × (facts.fault ≡ None)

module _ (c : Ciphers) (are : AreSound c) (p : Plain) (s : Sound c p) (name : List ℕ) (opts : Options) (load_first : Bool) (kit : LineKit) where
  abbrev change : KeyCmd
  change = commands.Change name opts load_first

  change_owner : (id at : ℕ) → is_same id (owner_of (with_own_root p id opts 0) at) ≡ true → owner_of p at ≡ owner_of p id
  change_owner id at own =
      let props : Props = changed_props (at_id id p.roots) opts 0 in
      let mine : owner_of (with_own_root p id opts 0) at ≡ Some id = owner_named id (owner_of (with_own_root p id opts 0) at) own in
      ⊎_elim (λ (ours : (owner_of (with_own_root p id opts 0) at ≡ Some id) × (owner_of p at ≡ owner_of p id)). ours.1)
      (λ (other : (owner_of (with_own_root p id opts 0) at ≡ Some id → ⊥) × (owner_of (with_own_root p id opts 0) at ≡ owner_of p at)). absurd (other.0 mine))
      (splits p.tree s.tree.tree (with_id id props p.roots) p.roots id (with_is_root id props p.roots) (with_agrees id props p.roots) at)

  change_tells : (found : Option ℕ) → target p change ≡ found → refusal_of p change ≡ None → NoneTold (told_change c p opts load_first kit found)
      → TellsAnew c p (told_change c p opts load_first kit found) (told_change c p opts load_first kit found).key (change_families p opts found)
  change_tells None at state material = record { families = refl; opened = All-nil _; kept = All-nil _ }
  change_tells (Some id) at state material =
      let is : IsChangeable p id load_first = changeable p name opts load_first id s.tree.tree state at in
      let ok = ok_told (old_wrong c p id load_first) (told_changed c p id opts load_first) (old_key c p id load_first kit.old_key)
      (key_of c (changed_format (at_id id p.roots) opts) (changed_iters (at_id id p.roots) opts) (changed_salt c (at_id id p.roots) opts (seed_of kit.seed)) kit.new_key) (seed_of kit.seed) material.1 in
      let facts_is = ok.6 in
      let wrong : old_wrong c p id load_first ok.0 ≡ None = sym (ap (λ (t : Told). t.wrong) facts_is) ∙ material.0 in
      let old : IsOldKey c p id ok.0 = is_old_key c p s id is.first load_first kit.old_key ok.0 is.key ok.3 wrong in
      subst (λ (t : Told). TellsAnew c p t t.key (change_families p opts (Some id))) (sym facts_is)
      (record {
        families = rewrapped_ids c ok.2 ok.0 ok.1 0 (owned (with_own_root p id opts 0) id);
        opened = anew_open c are p s id ok.0 ok.1 old ok.2 (λ m. is_same id (owner_of (with_own_root p id opts 0) m)) (change_owner id);
        kept = anew_kept c are p s id ok.0 ok.1 old ok.2 (λ m. is_same id (owner_of (with_own_root p id opts 0) m)) (change_owner id);
      })

  change_genuine : IsAccepted p change (told c p change kit) → IsGenuine c p change (told c p change kit)
  change_genuine accepted =
      let none = none_there (change_material (told c p change kit)) accepted.material in
      let tells = change_tells (target p change) refl accepted.state (not_wrong (told c p change kit).wrong none.0, none.1.0) in
      record { owned = tt; families = tells.families; opened = tells.opened; kept = tells.kept }

  pub change_fair : IsFair c p change (told c p change kit)
  change_fair = by_step p change (told c p change kit) (λ stepped. key_step p change (told c p change kit) ≡ stepped → IsFair c p change (told c p change kit)) (λ accepted step. inr (change_genuine accepted))
      (λ why state step. inl (why, ap (λ stepped. stepped.reply) step)) (λ why material step. inl (why, ap (λ stepped. stepped.reply) step)) refl

-- ---- an inherit

module _ (c : Ciphers) (are : AreSound c) (p : Plain) (s : Sound c p) (name : List ℕ) (load_first : Bool) (kit : LineKit) where
  abbrev inherit : KeyCmd
  inherit = commands.Inherit name load_first

  inherit_owner : (id : ℕ) (is : IsInheritable p id load_first) (at : ℕ) → is_same id (owner_of p at) ≡ true → owner_of p at ≡ owner_of p id
  inherit_owner id is at own =
      owner_named id (owner_of p at) own ∙ sym (owner_of_root p.tree p.roots id is.first.row (s.tree.tree, is.first.found) is.first.crypt is.root)

  inherit_tells : (found : Option ℕ) → target p inherit ≡ found → refusal_of p inherit ≡ None → NoneTold (told_inherit c p load_first kit found)
      → TellsAnew c p (told_inherit c p load_first kit found) (inherit_key p found) (inherit_families p found)
  inherit_tells None at state material = record { families = refl; opened = All-nil _; kept = All-nil _ }
  inherit_tells (Some id) at state material =
      let is : IsInheritable p id load_first = inheritable p name load_first id s.tree.tree state at in
      let ok = ok_told (old_wrong c p id load_first) (told_inherited c p id load_first) (old_key c p id load_first kit.old_key) (Ok (key_above p id)) (seed_of kit.seed) material.1 in
      let facts_is = ok.6 in
      let wrong : old_wrong c p id load_first ok.0 ≡ None = sym (ap (λ (t : Told). t.wrong) facts_is) ∙ material.0 in
      let old : IsOldKey c p id ok.0 = is_old_key c p s id is.first load_first kit.old_key ok.0 is.key ok.3 wrong in
      let own : Ok (key_above p id) ≡ Ok ok.1 = ok.4 in
      let new : ok.1 ≡ key_above p id = cc in
      subst (λ (t : Told). TellsAnew c p t (key_above p id) (inherit_families p (Some id))) (sym facts_is)
      (subst (λ (key : List ℕ). TellsAnew c p (told_inherited c p id load_first ok.0 ok.1 ok.2) key (inherit_families p (Some id))) new
      (record {
        families = rewrapped_ids c ok.2 ok.0 ok.1 0 (owned p id);
        opened = anew_open c are p s id ok.0 ok.1 old ok.2 (λ m. is_same id (owner_of p m)) (inherit_owner id is);
        kept = anew_kept c are p s id ok.0 ok.1 old ok.2 (λ m. is_same id (owner_of p m)) (inherit_owner id is);
      }))

  inherit_genuine : IsAccepted p inherit (told c p inherit kit) → IsGenuine c p inherit (told c p inherit kit)
  inherit_genuine accepted =
      let none = none_there (inherit_material p name (told c p inherit kit)) accepted.material in
      let tells = inherit_tells (target p inherit) refl accepted.state (not_wrong (told c p inherit kit).wrong none.1.0, none.1.1.1.0) in
      record { owned = tt; families = tells.families; opened = tells.opened; kept = tells.kept }

  pub inherit_fair : IsFair c p inherit (told c p inherit kit)
  inherit_fair = by_step p inherit (told c p inherit kit) (λ stepped. key_step p inherit (told c p inherit kit) ≡ stepped → IsFair c p inherit (told c p inherit kit)) (λ accepted step. inr (inherit_genuine accepted))
      (λ why state step. inl (why, ap (λ stepped. stepped.reply) step)) (λ why material step. inl (why, ap (λ stepped. stepped.reply) step)) refl
