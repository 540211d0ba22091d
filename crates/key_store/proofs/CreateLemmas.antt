-- A create that the state doesn't refuse.
use Rattle.std.proofs.Common.{◌≡◌, ℕ, ◌+◌, ◌<◌, ◌≤◌, Bool, true, false, not, cond, ◌&&◌, ◌||◌, nat_le, List, [], ◌∷◌, length, Option, Some, None, IfSome, ◌==◌, Result, Ok, Err, is_some, is_none, refl, ap, sym, ◌∙◌, subst, arith}
use Rattle.std.proofs.lemmas.Bool.Decides.{nat_tests}
use Rattle.std.proofs.lemmas.List.Elements.{recursion_from_All}
use Rattle.dataset_tree.specs.declared.kinds.Kind.TheVariants.{Plain as PlainKind, Crypt}
use Rattle.dataset_tree.specs.declared.refusal.Refusal.{Refusal}
use Rattle.dataset_tree.specs.declared.refusal.Refusal.TheVariants.{Exists}
use Rattle.dataset_tree.specs.SetName.{parent_name}
use Rattle.dataset_tree.specs.Tree.{Datasets, row_of, parent_in, id_below, new_id, with_row}
use Rattle.encryption_roots.specs.declared.props.Options.{Options}
use Rattle.encryption_roots.specs.declared.props.Props.{Props}
use Rattle.encryption_roots.specs.ById.{at_id, with_id}
use Rattle.encryption_roots.proofs.ByIdLemmas.{at_id-with_id}
use Rattle.encryption_roots.proofs.OwnerLemmas.{owner_of_root}
use Rattle.dataset_tree.specs.declared.tree.Row.{Row}
use Rattle.std.specs.Option.{option_and_then}
use Rattle.key_machine.proofs.CreateLawsRows.{row_of_new}
use Rattle.dataset_tree.specs.declared.kinds.Format.{Format}
use Rattle.dataset_tree.specs.declared.kinds.Format.TheVariants.{Raw}
use Rattle.std.specs.Prelude.{unwrap_or}
use Rattle.std.specs.Result.{result_err}
use Rattle.encryption_roots.specs.declared.command.KeyCmd.{KeyCmd}
use Rattle.encryption_roots.specs.declared.command.KeyCmd.TheVariants as commands
use Rattle.encryption_roots.specs.declared.kit.LineKit.{LineKit}
use Rattle.encryption_roots.specs.declared.props.Location.TheVariants.{Prompt}
use Rattle.encryption_roots.specs.Props.{KeepsIterations}
use Rattle.encryption_roots.specs.RecordSize.{IsRecordSize}
use Rattle.wrapped_keys.specs.Stored.{parsed_record}
use Rattle.key_machine.specs.Plain.{Plain, Stored, Ciphers, owner_of, has_key_of, mkey}
use Rattle.key_machine.specs.Create.{makes_root, makes_heir, makes_encrypted, is_below_encrypted, has_parent_key, parent_row, parent_key, told_encrypted, create_key, new_format, new_iters, new_salt, new_suite, seeded_record, new_props, new_stored}
use Rattle.key_machine.specs.Refusals.{first_refusal}
use Rattle.key_machine.specs.Reply.{Stepped, Made}
use Rattle.key_machine.specs.Step.{refusal_of, told, key_step}
use Rattle.key_machine.specs.Told.{Told, nothing_told, no_key, key_of, seed_of}
use Rattle.key_machine.specs.Sound.{Sound}
use Rattle.key_machine.proofs.SoundLemmas.{accepted_step}
use Rattle.key_machine.proofs.CreateLawsCases.{created_with, new_row, encrypted_row, heir_owner}
use Rattle.key_machine.proofs.CreateLawsStep.{IsFree, free}
use Rattle.key_machine.proofs.FairLaws.{keeps, told_fair}
use Rattle.key_store.specs.declared.create.NewRoot.{NewRoot}
use Rattle.key_store.specs.declared.state.FamilyRecord.{FamilyRecord}
use Rattle.key_ciphers.proofs.CipherLaws.{ciphers_sound}
use Rattle.key_ciphers.specs.Ciphers.{ciphers}
use Rattle.key_store.specs.Calls.{stepped}
use Rattle.key_store.specs.NewRoot.{IsToldFamily, IsToldRoot}
use Rattle.key_ciphers.specs.Calls.{unless_fault}
use Rattle.key_store.specs.State.{stored_of}

pub few_families : (p : Plain) (name : List ℕ) (opts : Options) → IsFree p name opts → makes_encrypted p name opts ≡ true → length p.wrapped < 32
few_families p name opts is encrypted =
    let test : nat_le 32 (length p.wrapped) ≡ false = rw encrypted at is.families in
    grind (arith, nat_tests)

-- the options' record size, or the one where they have none, is in form
pub size_in_form : (block : Option ℕ) → IfSome block IsRecordSize → IsRecordSize (unwrap_or block 131072)
size_in_form None given = refl
size_in_form (Some block) given = given

-- ---- the new id

pub given_below : (t : Datasets) (parent : Option ℕ) → is_none parent ≡ false → length t.rows < 256 → t.last < 4294967295 → id_below t parent ≡ Ok (t.last + 1)
given_below t None there rows ids = absurd (cc)
given_below t (Some parent) there rows ids = grind (arith, nat_tests)

pub given_id : (p : Plain) (name : List ℕ) (opts : Options) → IsFree p name opts → new_id p.tree name ≡ Ok (p.tree.last + 1)
given_id p name opts is =
    ap (λ b. cond b (Err Exists) (id_below p.tree (parent_in p.tree.rows (parent_name name)))) is.absent ∙ given_below p.tree (parent_in p.tree.rows (parent_name name)) is.parent is.rows is.ids

-- ---- each command keeps soundness

pub command_sound : (p : Plain) (command : KeyCmd) (kit : LineKit) → Sound ciphers p → Sound ciphers (stepped p command kit).state
command_sound p command kit sound = keeps ciphers p command (told ciphers p command kit) sound (told_fair ciphers p command kit ciphers_sound sound)

-- ---- a plain dataset

module _ (p : Plain) (name : List ℕ) (opts : Options) (accepted : refusal_of p (commands.Create name opts) ≡ None) (plain : opts.format ≡ None) (alone : is_below_encrypted p name ≡ false) where
  is_no_root : makes_root opts ≡ false
  is_no_root = ap (λ format. is_some format) plain

  is_not_encrypted : makes_encrypted p name opts ≡ false
  is_not_encrypted = ap (λ b. b || (not b && is_below_encrypted p name)) is_no_root ∙ alone

  plain_carried : key_step p (commands.Create name opts) nothing_told ≡ record { state = record p { tree = with_row p.tree name PlainKind 0 }; reply = Made (p.tree.last + 1) }
  plain_carried =
      let carried : key_step p (commands.Create name opts) nothing_told ≡ record { state = created_with p name opts nothing_told (makes_root opts) (makes_encrypted p name opts); reply = Made (p.tree.last + 1) } =
      accepted_step p (commands.Create name opts) nothing_told (record { state = accepted; material = refl }) in
      carried
      ∙ ap (λ b. record { state = created_with p name opts nothing_told b (makes_encrypted p name opts); reply = Made (p.tree.last + 1) }) is_no_root
      ∙ ap (λ b. record { state = created_with p name opts nothing_told false b; reply = Made (p.tree.last + 1) }) is_not_encrypted

  pub plain_step : (kit : LineKit) → stepped p (commands.Create name opts) kit ≡ record { state = record p { tree = with_row p.tree name PlainKind 0 }; reply = Made (p.tree.last + 1) }
  plain_step kit =
      let facts : told ciphers p (commands.Create name opts) kit ≡ nothing_told =
      ap (λ b. cond b (told_encrypted ciphers p name opts (create_key ciphers p name opts kit) (seed_of kit.seed)) nothing_told) is_not_encrypted in
      ap (λ told. key_step p (commands.Create name opts) told) facts ∙ plain_carried

  pub plain_sound : LineKit → Sound ciphers p → Sound ciphers (record p { tree = with_row p.tree name PlainKind 0 })
  plain_sound kit sound = subst (λ (s : Stepped). Sound ciphers s.state) (plain_step kit) (command_sound p (commands.Create name opts) kit sound)

-- ---- the master key of a family

mkey_by : (c : Ciphers) (p : Plain) (family root : ℕ) (stored : Stored) (key : List ℕ) → at_id family p.wrapped ≡ Some stored → owner_of p family ≡ Some root → at_id root p.loaded ≡ Some key
    → mkey c p family ≡ c.opens stored.wrapped key
mkey_by c p family root stored key wrapped owner loaded =
    ap (λ found. option_and_then (λ s. option_and_then (λ r. option_and_then (λ k. c.opens s.wrapped k) (at_id r p.loaded)) (owner_of p family)) found) wrapped
    ∙ ap (λ found. option_and_then (λ r. option_and_then (λ k. c.opens stored.wrapped k) (at_id r p.loaded)) found) owner
    ∙ ap (λ found. option_and_then (λ k. c.opens stored.wrapped k) found) loaded

-- ---- an encryption root

module _ (p : Plain) (name : List ℕ) (opts : Options) (facts : Told) (root : NewRoot) (accepted : refusal_of p (commands.Create name opts) ≡ None) (is_root : makes_root opts ≡ true)
    (is : IsToldRoot p.tree.last opts facts root) where
  pub is_encrypted : makes_encrypted p name opts ≡ true
  is_encrypted = ap (λ b. b || (not b && is_below_encrypted p name)) is_root

  pub root_step : key_step p (commands.Create name opts) facts ≡ record { state = created_with p name opts facts true true; reply = Made (p.tree.last + 1) }
  root_step =
      let carried : key_step p (commands.Create name opts) facts ≡ record { state = created_with p name opts facts (makes_root opts) (makes_encrypted p name opts); reply = Made (p.tree.last + 1) } =
      accepted_step p (commands.Create name opts) facts (record { state = accepted; material = ap (λ f. first_refusal (f ∷ [])) is.family.no_fault }) in
      carried
      ∙ ap (λ b. record { state = created_with p name opts facts b (makes_encrypted p name opts); reply = Made (p.tree.last + 1) }) is_root
      ∙ ap (λ b. record { state = created_with p name opts facts true b; reply = Made (p.tree.last + 1) }) is_encrypted

  pub root_sound : (kit : LineKit) → told ciphers p (commands.Create name opts) kit ≡ facts → Sound ciphers p → Sound ciphers (created_with p name opts facts true true)
  root_sound kit tells sound =
      subst (λ (s : Stepped). Sound ciphers s.state) (ap (λ f. key_step p (commands.Create name opts) f) tells ∙ root_step) (command_sound p (commands.Create name opts) kit sound)

  -- the state that the code makes is the step's
  pub made_state : (id : ℕ) (tree : Datasets) (roots : List (ℕ × Props)) (wrapped : List (ℕ × Stored)) (loaded : List (ℕ × List ℕ)) → id ≡ p.tree.last + 1 → tree ≡ with_row p.tree name Crypt 0
      → roots ≡ with_id id root.props p.roots → wrapped ≡ with_id id (stored_of root.family) p.wrapped → loaded ≡ with_id id root.key p.loaded
      → record p { tree = tree; roots = roots; wrapped = wrapped; loaded = loaded } ≡ created_with p name opts facts true true
  made_state id tree roots wrapped loaded next tree_is roots_is wrapped_is loaded_is =
      let roots_told : roots ≡ with_id (p.tree.last + 1) (new_props opts facts) p.roots = roots_is ∙ ap (λ i. with_id i root.props p.roots) next ∙ ap (λ v. with_id (p.tree.last + 1) v p.roots) (sym is.props) in
      let wrapped_told : wrapped ≡ with_id (p.tree.last + 1) (new_stored (p.tree.last + 1) opts facts) p.wrapped =
      wrapped_is ∙ ap (λ i. with_id i (stored_of root.family) p.wrapped) next ∙ ap (λ v. with_id (p.tree.last + 1) v p.wrapped) (sym is.family.stored) in
      let loaded_told : loaded ≡ with_id (p.tree.last + 1) facts.key p.loaded = loaded_is ∙ ap (λ i. with_id i root.key p.loaded) next ∙ ap (λ v. with_id (p.tree.last + 1) v p.loaded) (sym is.key) in
      rw (tree_is, roots_told, wrapped_told, loaded_told) refl

  -- the new root's key opens its record
  pub root_opens : (kit : LineKit) → told ciphers p (commands.Create name opts) kit ≡ facts → Sound ciphers p → is_some (mkey ciphers (created_with p name opts facts true true) (p.tree.last + 1)) ≡ true
  root_opens kit tells sound =
      let made : Plain = created_with p name opts facts true true in
      let id : ℕ = p.tree.last + 1 in
      let row : Row = new_row p name true in
      let made_sound : Sound ciphers made = root_sound kit tells sound in
      let found : row_of id made.tree.rows ≡ Some row = row_of_new p.tree.last p.tree.rows row (recursion_from_All (λ (r : Row). r.id ≤ p.tree.last) p.tree.rows sound.tree.tree.given) (omega arith) in
      let there : is_some (at_id id made.roots) ≡ true = ap (λ at. is_some at) (at_id-with_id id (new_props opts facts) p.roots) in
      let owner : owner_of made id ≡ Some id = owner_of_root made.tree made.roots id row (made_sound.tree.tree, found) refl there in
      let key : mkey ciphers made id ≡ ciphers.opens (new_stored id opts facts).wrapped facts.key =
      mkey_by ciphers made id id (new_stored id opts facts) facts.key (at_id-with_id id (new_stored id opts facts) p.wrapped) owner (at_id-with_id id facts.key p.loaded) in
      ap (λ m. is_some m) key ∙ ap (λ (s : Stored). is_some (ciphers.opens s.wrapped facts.key)) is.family.stored ∙ ap (λ (k : List ℕ). is_some (ciphers.opens root.family.wrapped k)) is.key ∙ is.family.opens

-- the record that a key and a seed make
told_family : (p : Plain) (name : List ℕ) (opts : Options) (key seed : List ℕ) (family : FamilyRecord) → family.wrapped ≡ seeded_record ciphers (new_suite p name opts) seed key → family.block ≡ unwrap_or opts.block 131072
    → is_some (ciphers.opens family.wrapped key) ≡ true → is_some (parsed_record family.wrapped) ≡ true → IsRecordSize family.block
    → IsToldFamily p.tree.last opts (told_encrypted ciphers p name opts (Ok key) (Ok seed)) key family
told_family p name opts key seed family wrapped block opens in_form size =
    let id : ℕ = p.tree.last + 1 in
    let facts : Told = told_encrypted ciphers p name opts (Ok key) (Ok seed) in
    let found : (id == id) ≡ true = grind (arith, nat_tests) in
    let written : facts.wrapped ≡ (id, family.wrapped) ∷ [] = ap (λ (w : List ℕ). (id, w) ∷ []) (sym wrapped) in
    let stored : new_stored id opts facts ≡ stored_of family =
    ap (λ (w : List (ℕ × List ℕ)). let s : Stored = record { wrapped = unwrap_or (at_id id w) []; block = unwrap_or opts.block 131072 } in s) written
    ∙ ap (λ b. let s : Stored = record { wrapped = unwrap_or (cond b (Some family.wrapped) None) []; block = unwrap_or opts.block 131072 } in s) found
    ∙ ap (λ n. let s : Stored = record { wrapped = family.wrapped; block = n } in s) (sym block) in
    record { no_fault = refl; written = written; stored = stored; opens = opens; in_form = in_form; size = size }

-- ---- an heir

not_first : (first second : Bool) → (not first && second) ≡ true → first ≡ false
not_first true second both = absurd (cc)
not_first false second both = refl

is_second : (first second : Bool) → (not first && second) ≡ true → second ≡ true
is_second true second both = absurd (cc)
is_second false second both = both

not_lacking : (wants has : Bool) → (wants && not has) ≡ false → wants ≡ true → has ≡ true
not_lacking true true fine wanted = refl
not_lacking true false fine wanted = absurd (cc)
not_lacking false has fine wanted = absurd (cc)

-- the loaded key of an owner
key_there : (p : Plain) (owner : Option ℕ) → has_key_of p owner ≡ true → (root : ℕ) × (key : List ℕ) × (owner ≡ Some root) × (at_id root p.loaded ≡ Some key)
key_there p None has = absurd (cc)
key_there p (Some root) has = by (at_id root p.loaded) refl has where
  by : (found : Option (List ℕ)) → at_id root p.loaded ≡ found → is_some found ≡ true → (own : ℕ) × (key : List ℕ) × (Some root ≡ Some own) × (at_id own p.loaded ≡ Some key)
  by None same has = absurd (cc)
  by (Some key) same has = (root, key, refl, same)

module _ (p : Plain) (name : List ℕ) (opts : Options) (heir : makes_heir p name opts ≡ true) where
  heir_no_root : makes_root opts ≡ false
  heir_no_root = not_first (makes_root opts) (is_below_encrypted p name) heir

  heir_below : is_below_encrypted p name ≡ true
  heir_below = is_second (makes_root opts) (is_below_encrypted p name) heir

  pub heir_encrypted : makes_encrypted p name opts ≡ true
  heir_encrypted = ap (λ b. b || (not b && is_below_encrypted p name)) heir_no_root ∙ heir_below

  abbrev own_key : List ℕ
  own_key = parent_key p (parent_row p name)

  told_heir : (kit : LineKit) → told ciphers p (commands.Create name opts) kit ≡ told_encrypted ciphers p name opts (Ok own_key) (seed_of kit.seed)
  told_heir kit =
      ap (λ b. cond b (told_encrypted ciphers p name opts (create_key ciphers p name opts kit) (seed_of kit.seed)) nothing_told) heir_encrypted
      ∙ ap (λ b. told_encrypted ciphers p name opts (cond b (key_of ciphers (new_format opts) (new_iters opts) (new_salt ciphers opts (seed_of kit.seed)) kit.new_key) (Ok own_key)) (seed_of kit.seed)) heir_no_root

  pub heir_fault : (kit : LineKit) (why : Refusal) → seed_of kit.seed ≡ Err why → (told ciphers p (commands.Create name opts) kit).fault ≡ Some why
  heir_fault kit why failed = ap (λ (facts : Told). facts.fault) (told_heir kit ∙ ap (λ seed. told_encrypted ciphers p name opts (Ok own_key) seed) failed)

  -- the record that the seed makes
  pub is_told_heir : (kit : LineKit) (seed : List ℕ) (family : FamilyRecord) → seed_of kit.seed ≡ Ok seed → family.wrapped ≡ seeded_record ciphers (new_suite p name opts) seed own_key
      → family.block ≡ unwrap_or opts.block 131072 → is_some (ciphers.opens family.wrapped own_key) ≡ true → is_some (parsed_record family.wrapped) ≡ true → IsRecordSize family.block
      → IsToldFamily p.tree.last opts (told ciphers p (commands.Create name opts) kit) own_key family
  is_told_heir kit seed family had wrapped block opens in_form size =
      let same : told ciphers p (commands.Create name opts) kit ≡ told_encrypted ciphers p name opts (Ok own_key) (Ok seed) =
      told_heir kit ∙ ap (λ s. told_encrypted ciphers p name opts (Ok own_key) s) had in
      subst (λ (t : Told). IsToldFamily p.tree.last opts t own_key family) (sym same) (told_family p name opts own_key seed family wrapped block opens in_form size)

  module _ (facts : Told) (family : FamilyRecord) (accepted : refusal_of p (commands.Create name opts) ≡ None) (is : IsToldFamily p.tree.last opts facts own_key family) where
    pub heir_step : key_step p (commands.Create name opts) facts ≡ record { state = created_with p name opts facts false true; reply = Made (p.tree.last + 1) }
    heir_step =
        let carried : key_step p (commands.Create name opts) facts ≡ record { state = created_with p name opts facts (makes_root opts) (makes_encrypted p name opts); reply = Made (p.tree.last + 1) } =
        accepted_step p (commands.Create name opts) facts (record { state = accepted; material = ap (λ f. first_refusal (f ∷ [])) is.no_fault }) in
        carried
        ∙ ap (λ b. record { state = created_with p name opts facts b (makes_encrypted p name opts); reply = Made (p.tree.last + 1) }) heir_no_root
        ∙ ap (λ b. record { state = created_with p name opts facts false b; reply = Made (p.tree.last + 1) }) heir_encrypted

    pub heir_sound : (kit : LineKit) → told ciphers p (commands.Create name opts) kit ≡ facts → Sound ciphers p → Sound ciphers (created_with p name opts facts false true)
    heir_sound kit tells sound =
        subst (λ (s : Stepped). Sound ciphers s.state) (ap (λ f. key_step p (commands.Create name opts) f) tells ∙ heir_step) (command_sound p (commands.Create name opts) kit sound)

    -- the state that the code makes is the step's
    pub heir_state : (id : ℕ) (tree : Datasets) (wrapped : List (ℕ × Stored)) → id ≡ p.tree.last + 1 → tree ≡ with_row p.tree name Crypt 0 → wrapped ≡ with_id id (stored_of family) p.wrapped
        → record p { tree = tree; wrapped = wrapped } ≡ created_with p name opts facts false true
    heir_state id tree wrapped next tree_is wrapped_is =
        let wrapped_told : wrapped ≡ with_id (p.tree.last + 1) (new_stored (p.tree.last + 1) opts facts) p.wrapped =
        wrapped_is ∙ ap (λ i. with_id i (stored_of family) p.wrapped) next ∙ ap (λ v. with_id (p.tree.last + 1) v p.wrapped) (sym is.stored) in
        rw (tree_is, wrapped_told) refl

    -- the parent's key opens the heir's record
    pub heir_opens : Sound ciphers p → is_some (mkey ciphers (created_with p name opts facts false true) (p.tree.last + 1)) ≡ true
    heir_opens sound =
        let made : Plain = created_with p name opts facts false true in
        let id : ℕ = p.tree.last + 1 in
        let free_name : IsFree p name opts = free p name opts accepted in
        let parent : (row : Row) × (parent_row p name ≡ Some row) × (row.kind ≡ Crypt) = encrypted_row (parent_row p name) heir_below in
        let has : has_parent_key p (parent_row p name) ≡ true = not_lacking (makes_heir p name opts) (has_parent_key p (parent_row p name)) free_name.key heir in
        let loaded : has_key_of p (owner_of p parent.0.id) ≡ true = sym (ap (λ row. has_parent_key p row) parent.1) ∙ has in
        let key = key_there p (owner_of p parent.0.id) loaded in
        let owner : owner_of made id ≡ Some key.0 = heir_owner ciphers p name opts facts sound free_name.absent free_name.parent parent.0 parent.1 ∙ key.2 in
        let opened : mkey ciphers made id ≡ ciphers.opens (new_stored id opts facts).wrapped key.1 =
        mkey_by ciphers made id key.0 (new_stored id opts facts) key.1 (at_id-with_id id (new_stored id opts facts) p.wrapped) owner key.3 in
        let same : own_key ≡ key.1 = ap (λ row. parent_key p row) parent.1 ∙ known_key (owner_of p parent.0.id) key.0 key.1 key.2 key.3 in
        ap (λ m. is_some m) opened ∙ ap (λ (s : Stored). is_some (ciphers.opens s.wrapped key.1)) is.stored ∙ ap (λ (k : List ℕ). is_some (ciphers.opens family.wrapped k)) (sym same) ∙ is.opens
      where
        known_key : (owner : Option ℕ) (root : ℕ) (key : List ℕ) → owner ≡ Some root → at_id root p.loaded ≡ Some key → unwrap_or (option_and_then (λ root. at_id root p.loaded) owner) no_key ≡ key
        known_key owner root key is_owner found = rw (is_owner, found) refl

-- ---- what a kit tells of a new root

told_at : (p : Plain) (name : List ℕ) (opts : Options) (kit : LineKit) (format : Format) → opts.format ≡ Some format
    → told ciphers p (commands.Create name opts) kit
    ≡ told_encrypted ciphers p name opts (key_of ciphers format (new_iters opts) (new_salt ciphers opts (seed_of kit.seed)) kit.new_key) (seed_of kit.seed)
told_at p name opts kit format is_root =
    let makes : makes_root opts ≡ true = ap (λ found. is_some found) is_root in
    let encrypted : makes_encrypted p name opts ≡ true = ap (λ b. b || (not b && is_below_encrypted p name)) makes in
    let salt : ℕ = new_salt ciphers opts (seed_of kit.seed) in
    ap (λ b. cond b (told_encrypted ciphers p name opts (create_key ciphers p name opts kit) (seed_of kit.seed)) nothing_told) encrypted
    ∙ ap (λ b. told_encrypted ciphers p name opts (cond b (key_of ciphers (new_format opts) (new_iters opts) salt kit.new_key) (Ok (parent_key p (parent_row p name)))) (seed_of kit.seed)) makes
    ∙ ap (λ found. told_encrypted ciphers p name opts (key_of ciphers (unwrap_or found Raw) (new_iters opts) salt kit.new_key) (seed_of kit.seed)) is_root

-- a fault of the key, else one of the seed, is told
first_fault : (p : Plain) (name : List ℕ) (opts : Options) (key seed : Result (List ℕ) Refusal) (why : Refusal) → Err why ≡ unless_fault (result_err key) seed
    → (told_encrypted ciphers p name opts key seed).fault ≡ Some why
first_fault p name opts (Err first) seed why stops = let same : first ≡ why = cc in ap (λ w. Some w) same
first_fault p name opts (Ok key) (Err first) why stops = let same : first ≡ why = cc in ap (λ w. Some w) same
first_fault p name opts (Ok key) (Ok seed) why stops = absurd (cc)

-- where neither has one, the seed was had
seed_had : (key had : Result (List ℕ) Refusal) (seed : List ℕ) → Ok seed ≡ unless_fault (result_err key) had → had ≡ Ok seed
seed_had (Err first) had seed told = absurd (cc)
seed_had (Ok key) had seed told = sym told

module _ (p : Plain) (name : List ℕ) (opts : Options) (kit : LineKit) (format : Format) (is_root : opts.format ≡ Some format) (iters : ℕ) (own_iters : iters ≡ new_iters opts) (behind : Result (List ℕ) Refusal)
    (by_kit : (salt : ℕ) → behind ≡ unless_fault (result_err (key_of ciphers format iters salt kit.new_key)) (seed_of kit.seed)) where
  makes : makes_root opts ≡ true
  makes = ap (λ found. is_some found) is_root

  told_root : told ciphers p (commands.Create name opts) kit ≡ told_encrypted ciphers p name opts (key_of ciphers format iters (new_salt ciphers opts (seed_of kit.seed)) kit.new_key) (seed_of kit.seed)
  told_root = told_at p name opts kit format is_root
      ∙ ap (λ n. told_encrypted ciphers p name opts (key_of ciphers format n (new_salt ciphers opts (seed_of kit.seed)) kit.new_key) (seed_of kit.seed)) (sym own_iters)

  pub stopped : (why : Refusal) → behind ≡ Err why → (told ciphers p (commands.Create name opts) kit).fault ≡ Some why
  stopped why failed =
      let salt : ℕ = new_salt ciphers opts (seed_of kit.seed) in
      ap (λ (facts : Told). facts.fault) told_root ∙ first_fault p name opts (key_of ciphers format iters salt kit.new_key) (seed_of kit.seed) why (sym failed ∙ by_kit salt)

  pub got_seed : (seed : List ℕ) → behind ≡ Ok seed → seed_of kit.seed ≡ Ok seed
  got_seed seed had = seed_had (key_of ciphers format iters 0 kit.new_key) (seed_of kit.seed) seed (sym had ∙ by_kit 0)

  pub key_stopped : (seed : List ℕ) (why : Refusal) → behind ≡ Ok seed → key_of ciphers format iters (new_salt ciphers opts (Ok seed)) kit.new_key ≡ Err why
      → (told ciphers p (commands.Create name opts) kit).fault ≡ Some why
  key_stopped seed why had failed =
      let got : seed_of kit.seed ≡ Ok seed = got_seed seed had in
      ap (λ (facts : Told). facts.fault)
      (told_root ∙ ap (λ s. told_encrypted ciphers p name opts (key_of ciphers format iters (new_salt ciphers opts s) kit.new_key) s) got
      ∙ ap (λ k. told_encrypted ciphers p name opts k (Ok seed)) failed)

  -- the root that key and seed make
  pub is_told : (key seed : List ℕ) (root : NewRoot) → key_of ciphers format iters (new_salt ciphers opts (Ok seed)) kit.new_key ≡ Ok key → behind ≡ Ok seed
      → root.props ≡ (let props : Props = record { format = format; place = unwrap_or opts.place Prompt; iters = new_iters opts; salt = new_salt ciphers opts (Ok seed) } in props)
      → root.family.wrapped ≡ seeded_record ciphers (new_suite p name opts) seed key → root.family.block ≡ unwrap_or opts.block 131072 → root.key ≡ key
      → is_some (ciphers.opens root.family.wrapped root.key) ≡ true → is_some (parsed_record root.family.wrapped) ≡ true → IsRecordSize root.family.block → KeepsIterations root.props
      → IsToldRoot p.tree.last opts (told ciphers p (commands.Create name opts) kit) root
  is_told key seed root had behind_key props wrapped block own opens in_form size kept =
      let facts : Told = told_encrypted ciphers p name opts (Ok key) (Ok seed) in
      let same : told ciphers p (commands.Create name opts) kit ≡ facts =
      told_root ∙ ap (λ s. told_encrypted ciphers p name opts (key_of ciphers format iters (new_salt ciphers opts s) kit.new_key) s) (got_seed seed behind_key)
      ∙ ap (λ k. told_encrypted ciphers p name opts k (Ok seed)) had in
      let opens_it : is_some (ciphers.opens root.family.wrapped key) ≡ true = subst (λ (k : List ℕ). is_some (ciphers.opens root.family.wrapped k) ≡ true) own opens in
      subst (λ (t : Told). IsToldRoot p.tree.last opts t root) (sym same) (record {
        family = subst (λ (k : List ℕ). IsToldFamily p.tree.last opts facts k root.family) (sym own) (told_family p name opts key seed root.family wrapped block opens_it in_form size);
        key = ap (λ b. cond b key no_key) makes ∙ sym own;
        props = ap (λ found. let own : Props = record { format = unwrap_or found Raw; place = unwrap_or opts.place Prompt; iters = new_iters opts; salt = new_salt ciphers opts (Ok seed) } in own) is_root ∙ sym props;
        kept = kept;
      })
