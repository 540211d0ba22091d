-- What a change or an inherit leaves, and which record it names.
use Rattle.std.proofs.Common.{◌≡◌, ⊎_elim, ℕ, Bool, true, false, cond, List, [], ◌∷◌, ◌++◌, Option, Some, None, Result, Ok, Err, is_some, option_map, refl, ap, sym, ◌∙◌, subst, if◌then◌else◌}
use Rattle.std.proofs.lemmas.Bool.{cases_Bool}
use Rattle.std.proofs.lemmas.List.Elements.{All-nil, All-cons}
use Rattle.std.specs.Prelude.{unwrap_or}
use Rattle.std.specs.List.{All}
use Rattle.std.specs.Option.{option_and_then}
use Rattle.dataset_tree.specs.declared.refusal.Refusal.{Refusal}
use Rattle.dataset_tree.specs.declared.refusal.Refusal.TheVariants.{WrongKey, KeyUnavailable}
use Rattle.dataset_tree.specs.Tree.{row_named}
use Rattle.encryption_roots.specs.declared.command.KeyCmd.TheVariants as commands
use Rattle.encryption_roots.specs.declared.kit.LineKit.{LineKit}
use Rattle.encryption_roots.specs.declared.kit.SeedGot.{SeedGot}
use Rattle.encryption_roots.specs.declared.kit.SeedGot.TheVariants as seeds
use Rattle.encryption_roots.specs.declared.props.Options.{Options}
use Rattle.encryption_roots.specs.declared.props.Props.{Props}
use Rattle.encryption_roots.specs.ById.{at_id}
use Rattle.encryption_roots.specs.Owners.{family}
use Rattle.encryption_roots.proofs.ByIdLemmas.{at_id-with_id, at_id-with_id_other, at_id-without_id, at_id-without_id_other}
use Rattle.encryption_roots.proofs.OwnerLemmas.{owner_of_family}
use Rattle.key_machine.specs.Change.{changed_props, changed_format, changed_iters, changed_salt, change_families, told_changed, told_change, changed, change_done}
use Rattle.key_machine.specs.Create.{has_parent_key}
use Rattle.key_machine.specs.Fair.{IsFair, AllKept}
use Rattle.key_machine.specs.Inherit.{unless_seed, key_fault, row_above, key_above, inherit_families, told_inherited, told_inherit, inherited, inherit_done}
use Rattle.key_machine.specs.Load.{first_wrong}
use Rattle.key_machine.specs.Plain.{Plain, Stored, Ciphers, owner_of, has_key, has_key_of, is_same, owned, mkey}
use Rattle.key_machine.specs.Refusals.{first_refusal}
use Rattle.key_machine.specs.Rekey.{fetches_old, first_wrong_of, old_key, old_wrong, told_anew, with_record, with_records}
use Rattle.key_machine.specs.Rekeyed.{IsRekeyed, IsFirstWrong}
use Rattle.key_machine.specs.Reply.{Stepped, Refused}
use Rattle.key_machine.specs.Sound.{Sound}
use Rattle.key_machine.specs.Step.{refusal_of, told, target, key_step, IsAccepted}
use Rattle.key_machine.specs.Told.{Told, key_of, seed_of}
use Rattle.key_machine.proofs.ChangeLaws.{IsChangeable, changeable, change_keeps, not_same, some_id}
use Rattle.key_machine.proofs.FairLaws.{change_genuine, inherit_genuine, above_of, inherit_key_is}
use Rattle.key_machine.proofs.FamilyLaws.{heirs}
use Rattle.key_machine.proofs.InheritLaws.{IsInheritable, inheritable, IsAbove, inherit_keeps}
use Rattle.key_machine.proofs.RekeyRecords.{at_id-map, records_kept, records_written}
use Rattle.key_machine.proofs.SoundLemmas.{accepted_step, refused_by_material}

-- ---- master keys

-- where it has one, a dataset's family is of its owner
family_key : (c : Ciphers) (p : Plain) (dataset : ℕ) → Sound c p → has_key p dataset ≡ true → has_key p (family p.tree.rows dataset) ≡ true
family_key c p dataset s has = sym (ap (has_key_of p) (owner_of_family p.tree p.roots (heirs c p s) dataset)) ∙ has

module _ (c : Ciphers) (p : Plain) (name : List ℕ) (opts : Options) (load_first : Bool) (told : Told) (dataset : ℕ) (s : Sound c p) (fair : IsFair c p (commands.Change name opts load_first) told)
    (accepted : IsAccepted p (commands.Change name opts load_first) told) (has : has_key p dataset ≡ true) where
  change_keeps_at : (found : Option ℕ) → target p (commands.Change name opts load_first) ≡ found → mkey c (change_done p opts told found).state (family p.tree.rows dataset) ≡ mkey c p (family p.tree.rows dataset)
  change_keeps_at None at = refl
  change_keeps_at (Some id) at =
      let is : IsChangeable p id load_first = changeable p name opts load_first id s.tree.tree accepted.state at in
      let genuine = change_genuine c p name opts load_first told id accepted at fair in
      change_keeps c p id opts told s is.first (genuine.families ∙ ap (change_families p opts) at) genuine.kept (family p.tree.rows dataset) (family_key c p dataset s has)

  pub change_keeps_masters : mkey c (key_step p (commands.Change name opts load_first) told).state (family p.tree.rows dataset) ≡ mkey c p (family p.tree.rows dataset)
  change_keeps_masters = ap (λ (stepped : Stepped). mkey c stepped.state (family p.tree.rows dataset)) (accepted_step p (commands.Change name opts load_first) told accepted)
      ∙ change_keeps_at (target p (commands.Change name opts load_first)) refl

module _ (c : Ciphers) (p : Plain) (name : List ℕ) (load_first : Bool) (told : Told) (dataset : ℕ) (s : Sound c p) (fair : IsFair c p (commands.Inherit name load_first) told)
    (accepted : IsAccepted p (commands.Inherit name load_first) told) (has : has_key p dataset ≡ true) where
  inherit_keeps_at : (found : Option ℕ) → target p (commands.Inherit name load_first) ≡ found → mkey c (inherit_done p told found).state (family p.tree.rows dataset) ≡ mkey c p (family p.tree.rows dataset)
  inherit_keeps_at None at = refl
  inherit_keeps_at (Some id) at =
      let is : IsInheritable p id load_first = inheritable p name load_first id s.tree.tree accepted.state at in
      let owner : IsAbove p is.parent = above_of c p name load_first told id s accepted at is in
      let genuine = inherit_genuine c p name load_first told id accepted at fair in
      inherit_keeps c p id told s is.first is.root is.parent is.above owner (genuine.families ∙ ap (inherit_families p) at)
      (subst (λ (key : List ℕ). AllKept c p key told.wrapped) (inherit_key_is p name load_first id is owner at) genuine.kept) (family p.tree.rows dataset) (family_key c p dataset s has)

  pub inherit_keeps_masters : mkey c (key_step p (commands.Inherit name load_first) told).state (family p.tree.rows dataset) ≡ mkey c p (family p.tree.rows dataset)
  inherit_keeps_masters = ap (λ (stepped : Stepped). mkey c stepped.state (family p.tree.rows dataset)) (accepted_step p (commands.Inherit name load_first) told accepted)
      ∙ inherit_keeps_at (target p (commands.Inherit name load_first)) refl

-- ---- what is left

module _ (owner : ℕ → Option ℕ) (root : ℕ) (records : List (ℕ × List ℕ)) (stored : List (ℕ × Stored)) where
  block_of : (entry : ℕ × Stored) (b : Bool) → (cond b (with_record records entry) entry.1).block ≡ entry.1.block
  block_of entry true = refl
  block_of entry false = refl

  blocks_same : (of : ℕ) (found : Option Stored) → option_map (λ (s : Stored). s.block) (option_map (λ (s : Stored). cond (is_same root (owner of)) (with_record records (of, s)) s) found)
      ≡ option_map (λ (s : Stored). s.block) found
  blocks_same of None = refl
  blocks_same of (Some s) = ap (λ b. Some b) (block_of (of, s) (is_same root (owner of)))

  sizes_kept : (of : ℕ) → option_map (λ (s : Stored). s.block) (at_id of (with_records owner root records stored)) ≡ option_map (λ (s : Stored). s.block) (at_id of stored)
  sizes_kept of = ap (λ (found : Option Stored). option_map (λ (s : Stored). s.block) found)
      (at_id-map (λ (entry : ℕ × Stored). cond (is_same root (owner entry.0)) (with_record records entry) entry.1) of stored) ∙ blocks_same of (at_id of stored)

  record_there : (of : ℕ) (old : Stored) (wrapped : List ℕ) → owner of ≡ Some root → at_id of stored ≡ Some old → at_id of records ≡ Some wrapped
      → at_id of (with_records owner root records stored) ≡ Some (record { wrapped = wrapped; block = old.block })
  record_there of old wrapped own there told = records_written owner root records stored of old (ap (is_same root) own ∙ some_id root) there
      ∙ ap (λ (found : Option (List ℕ)). let s : Stored = record { wrapped = unwrap_or found old.wrapped; block = old.block } in Some s) told

change_leaves : (p : Plain) (opts : Options) (told : Told) (id : ℕ)
    → IsRekeyed p (changed p id opts told) id (Some (changed_props (at_id id p.roots) opts told.salt)) (Some told.key) (owner_of (changed p id opts told)) told.wrapped
change_leaves p opts told id =
    let props : Props = changed_props (at_id id p.roots) opts told.salt in
    let owner : ℕ → Option ℕ = owner_of (changed p id opts told) in
    record {
      root = at_id-with_id id props p.roots;
      roots = λ other apart. at_id-with_id_other id other props p.roots apart;
      loaded = at_id-with_id id told.key p.loaded;
      loaded_others = λ other apart. at_id-with_id_other id other told.key p.loaded apart;
      written = record_there owner id told.wrapped p.wrapped;
      unwritten = λ of never. records_kept owner id told.wrapped p.wrapped of (not_same id (owner of) never);
      sizes = sizes_kept owner id told.wrapped p.wrapped;
      rest = refl;
    }

inherit_leaves : (p : Plain) (told : Told) (id : ℕ) → IsRekeyed p (inherited p id told) id None None (owner_of p) told.wrapped
inherit_leaves p told id = record {
  root = at_id-without_id id p.roots;
  roots = λ other apart. at_id-without_id_other id other p.roots apart;
  loaded = at_id-without_id id p.loaded;
  loaded_others = λ other apart. at_id-without_id_other id other p.loaded apart;
  written = record_there (owner_of p) id told.wrapped p.wrapped;
  unwritten = λ of never. records_kept (owner_of p) id told.wrapped p.wrapped of (not_same id (owner_of p of) never);
  sizes = sizes_kept (owner_of p) id told.wrapped p.wrapped;
  rest = refl;
}

pub change_step : (p : Plain) (name : List ℕ) (opts : Options) (load_first : Bool) (told : Told) (id : ℕ) → target p (commands.Change name opts load_first) ≡ Some id
    → IsAccepted p (commands.Change name opts load_first) told → key_step p (commands.Change name opts load_first) told ≡ change_done p opts told (Some id)
change_step p name opts load_first told id at accepted = accepted_step p (commands.Change name opts load_first) told accepted ∙ ap (change_done p opts told) at

pub inherit_step : (p : Plain) (name : List ℕ) (load_first : Bool) (told : Told) (id : ℕ) → target p (commands.Inherit name load_first) ≡ Some id
    → IsAccepted p (commands.Inherit name load_first) told → key_step p (commands.Inherit name load_first) told ≡ inherit_done p told (Some id)
inherit_step p name load_first told id at accepted = accepted_step p (commands.Inherit name load_first) told accepted ∙ ap (inherit_done p told) at

pub change_rekeys : (p : Plain) (name : List ℕ) (opts : Options) (load_first : Bool) (told : Told) (id : ℕ) → target p (commands.Change name opts load_first) ≡ Some id
    → IsAccepted p (commands.Change name opts load_first) told
    → IsRekeyed p (key_step p (commands.Change name opts load_first) told).state id (Some (changed_props (at_id id p.roots) opts told.salt)) (Some told.key)
    (owner_of (key_step p (commands.Change name opts load_first) told).state) told.wrapped
change_rekeys p name opts load_first told id at accepted =
    subst (λ (stepped : Stepped). IsRekeyed p stepped.state id (Some (changed_props (at_id id p.roots) opts told.salt)) (Some told.key) (owner_of stepped.state) told.wrapped)
    (sym (change_step p name opts load_first told id at accepted)) (change_leaves p opts told id)

pub inherit_rekeys : (p : Plain) (name : List ℕ) (load_first : Bool) (told : Told) (id : ℕ) → target p (commands.Inherit name load_first) ≡ Some id
    → IsAccepted p (commands.Inherit name load_first) told → IsRekeyed p (key_step p (commands.Inherit name load_first) told).state id None None (owner_of p) told.wrapped
inherit_rekeys p name load_first told id at accepted =
    subst (λ (stepped : Stepped). IsRekeyed p stepped.state id None None (owner_of p) told.wrapped) (sym (inherit_step p name load_first told id at accepted)) (inherit_leaves p told id)

-- ---- the record that is named

record IsFirstOf (c : Ciphers) (key : List ℕ) (entries : List (ℕ × Stored)) (first : ℕ) : Type 0 where
  before : List (ℕ × Stored)
  stored : Stored
  behind : List (ℕ × Stored)
  families : entries ≡ before ++ (first, stored) ∷ behind
  opened : All (λ entry. is_some (c.opens entry.1.wrapped key) ≡ true) before
  wrong : c.opens stored.wrapped key ≡ None

none_opened : {X : Type 0} (found : Option X) → is_some found ≡ false → found ≡ None
none_opened None h = refl
none_opened (Some x) h = absurd (cc)

first_of_wrong : (c : Ciphers) (key : List ℕ) (entries : List (ℕ × Stored)) (first : ℕ) → first_wrong c key entries ≡ Some first → IsFirstOf c key entries first
first_of_wrong c key [] first found = absurd (cc)
first_of_wrong c key (entry ∷ entries) first found =
    let Opens : ℕ × Stored → Type 0 = λ e. is_some (c.opens e.1.wrapped key) ≡ true in
    ⊎_elim
    (λ (opens : is_some (c.opens entry.1.wrapped key) ≡ true).
    let rest : IsFirstOf c key entries first = first_of_wrong c key entries first (rw opens at found) in
    let is : IsFirstOf c key (entry ∷ entries) first =
    record { before = entry ∷ rest.before; stored = rest.stored; behind = rest.behind; families = ap (λ es. entry ∷ es) rest.families; opened = All-cons Opens entry rest.before opens rest.opened; wrong = rest.wrong } in
    is)
    (λ (fails : is_some (c.opens entry.1.wrapped key) ≡ false).
    let here : Some entry.0 ≡ Some first = rw fails at found in
    let same : entry.0 ≡ first = cc in
    let is : IsFirstOf c key (entry ∷ entries) first = record {
      before = [];
      stored = entry.1;
      behind = entries;
      families = ap (λ (m : ℕ). (m, entry.1) ∷ entries) same;
      opened = All-nil Opens;
      wrong = none_opened (c.opens entry.1.wrapped key) fails;
    } in
    is) (cases_Bool (is_some (c.opens entry.1.wrapped key)))

wrong_told : (wrong : List ℕ → Option ℕ) (tells : (old new seed : List ℕ) → Told) (old new seed : Result (List ℕ) Refusal) (first : ℕ)
    → ((o n k : List ℕ) → (tells o n k).wrong ≡ wrong o) → (told_anew wrong tells old new seed).wrong ≡ Some first → (o : List ℕ) × (old ≡ Ok o) × (wrong o ≡ Some first)
wrong_told wrong tells (Err why) new seed first each found = absurd (cc)
wrong_told wrong tells (Ok old) (Err why) seed first each found = (old, refl, found)
wrong_told wrong tells (Ok old) (Ok new) (Err why) first each found = (old, refl, found)
wrong_told wrong tells (Ok old) (Ok new) (Ok seed) first each found = (old, refl, sym (each old new seed) ∙ found)

module _ (c : Ciphers) (p : Plain) (load_first : Bool) (kit : LineKit) (first : ℕ) where
  of_owner : (id : ℕ) (old : List ℕ) (owner : Option ℕ) → owner_of p id ≡ owner → fetches_old p id load_first ≡ true → old_key c p id load_first kit.old_key ≡ Ok old
      → first_wrong_of c p old owner ≡ Some first → IsFirstWrong c p (Some id) load_first kit first
  of_owner id old None is_owner fetches had found = absurd (cc)
  of_owner id old (Some root) is_owner fetches had found =
      let is : IsFirstOf c old (owned p root) first = first_of_wrong c old (owned p root) first found in
      record {
        id = id;
        root = root;
        key = old;
        target = refl;
        fetches = fetches;
        owner = is_owner;
        fetched = had;
        before = is.before;
        stored = is.stored;
        behind = is.behind;
        families = is.families;
        opened = is.opened;
        wrong = is.wrong;
      }

  is_first_wrong : (id : ℕ) (old : List ℕ) → old_key c p id load_first kit.old_key ≡ Ok old → old_wrong c p id load_first old ≡ Some first → IsFirstWrong c p (Some id) load_first kit first
  is_first_wrong id old had found = ⊎_elim
      (λ (yes : fetches_old p id load_first ≡ true).
      let here : first_wrong_of c p old (owner_of p id) ≡ Some first = rw yes at found in
      of_owner id old (owner_of p id) refl yes had here)
      (λ (no : fetches_old p id load_first ≡ false). absurd (let none : None ≡ Some first = rw no at found in cc)) (cases_Bool (fetches_old p id load_first))

  pub change_names : (opts : Options) (found : Option ℕ) → (told_change c p opts load_first kit found).wrong ≡ Some first → IsFirstWrong c p found load_first kit first
  change_names opts None wrong = absurd (cc)
  change_names opts (Some id) wrong =
      let is = wrong_told (old_wrong c p id load_first) (told_changed c p id opts load_first) (old_key c p id load_first kit.old_key)
      (key_of c (changed_format (at_id id p.roots) opts) (changed_iters (at_id id p.roots) opts) (changed_salt c (at_id id p.roots) opts (seed_of kit.seed)) kit.new_key) (seed_of kit.seed) first
      (λ o n k. refl) wrong in
      is_first_wrong id is.0 is.1 is.2

  pub inherit_names : (found : Option ℕ) → (told_inherit c p load_first kit found).wrong ≡ Some first → IsFirstWrong c p found load_first kit first
  inherit_names None wrong = absurd (cc)
  inherit_names (Some id) wrong =
      let is = wrong_told (old_wrong c p id load_first) (told_inherited c p id load_first) (old_key c p id load_first kit.old_key) (Ok (key_above p id)) (seed_of kit.seed) first (λ o n k. refl) wrong in
      is_first_wrong id is.0 is.1 is.2

-- where a record is wrong, a fault is the seed's alone
seed_fault : (wrong : List ℕ → Option ℕ) (tells : (old new seed : List ℕ) → Told) (old : Result (List ℕ) Refusal) (new : List ℕ) (seed : SeedGot) (first : ℕ)
    → ((o n k : List ℕ) → (tells o n k).fault ≡ None) → (told_anew wrong tells old (Ok new) (seed_of seed)).wrong ≡ Some first
    → option_and_then unless_seed (told_anew wrong tells old (Ok new) (seed_of seed)).fault ≡ None
seed_fault wrong tells (Err why) new seed first each found = absurd (cc)
seed_fault wrong tells (Ok old) new (seeds.Got seed) first each found = ap (λ (fault : Option Refusal). option_and_then unless_seed fault) (each old new seed)
seed_fault wrong tells (Ok old) new seeds.Fault first each found = refl
seed_fault wrong tells (Ok old) new seeds.NotAsked first each found = refl

no_key_fault : (c : Ciphers) (p : Plain) (load_first : Bool) (kit : LineKit) (first : ℕ) (found : Option ℕ) → (told_inherit c p load_first kit found).wrong ≡ Some first
    → option_and_then unless_seed (told_inherit c p load_first kit found).fault ≡ None
no_key_fault c p load_first kit first None wrong = refl
no_key_fault c p load_first kit first (Some id) wrong =
    seed_fault (old_wrong c p id load_first) (told_inherited c p id load_first) (old_key c p id load_first kit.old_key) (key_above p id) kit.seed first (λ o n k. refl) wrong

pub change_is_refused : (c : Ciphers) (p : Plain) (name : List ℕ) (opts : Options) (load_first : Bool) (kit : LineKit) (first : ℕ) → refusal_of p (commands.Change name opts load_first) ≡ None
    → (told c p (commands.Change name opts load_first) kit).wrong ≡ Some first
    → (key_step p (commands.Change name opts load_first) (told c p (commands.Change name opts load_first) kit)).reply ≡ Refused (WrongKey first)
change_is_refused c p name opts load_first kit first state wrong =
    let facts : Told = told c p (commands.Change name opts load_first) kit in
    ap (λ (stepped : Stepped). stepped.reply) (refused_by_material p (commands.Change name opts load_first) facts (WrongKey first) state
    (ap (λ (found : Option ℕ). first_refusal (option_map (λ dataset. WrongKey dataset) found ∷ facts.fault ∷ [])) wrong))

wrong_is_first : (key wrong parent fault : Option Refusal) (why : Refusal) → key ≡ None → wrong ≡ Some why → first_refusal (key ∷ wrong ∷ parent ∷ fault ∷ []) ≡ Some why
wrong_is_first key wrong parent fault why none is =
    ap (λ (first : Option Refusal). first_refusal (first ∷ wrong ∷ parent ∷ fault ∷ [])) none ∙ ap (λ (first : Option Refusal). first_refusal (first ∷ parent ∷ fault ∷ [])) is

pub inherit_is_refused : (c : Ciphers) (p : Plain) (name : List ℕ) (load_first : Bool) (kit : LineKit) (first : ℕ) → refusal_of p (commands.Inherit name load_first) ≡ None
    → (told c p (commands.Inherit name load_first) kit).wrong ≡ Some first
    → (key_step p (commands.Inherit name load_first) (told c p (commands.Inherit name load_first) kit)).reply ≡ Refused (WrongKey first)
inherit_is_refused c p name load_first kit first state wrong =
    let facts : Told = told c p (commands.Inherit name load_first) kit in
    let none : key_fault facts ≡ None = no_key_fault c p load_first kit first (target p (commands.Inherit name load_first)) wrong in
    let loaded : Option Refusal = if has_parent_key p (row_above p (row_named name p.tree.rows)) then None else Some KeyUnavailable in
    ap (λ (stepped : Stepped). stepped.reply) (refused_by_material p (commands.Inherit name load_first) facts (WrongKey first) state
    (wrong_is_first (key_fault facts) (option_map (λ dataset. WrongKey dataset) facts.wrong) loaded facts.fault (WrongKey first) none (ap (λ (found : Option ℕ). option_map (λ dataset. WrongKey dataset) found) wrong)))
