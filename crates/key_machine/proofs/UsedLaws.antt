-- A mapping with a live user keeps its master key over each command and each reap.
use Rattle.std.proofs.Common.{◌≡◌, ◌≢◌, ⊎_elim, ℕ, ◌+◌, ◌<◌, ◌≤◌, Bool, true, false, not, cond, ◌==◌, ◌&&◌, nat_lt, List, Option, Some, None, refl, ap, sym, ◌∙◌, subst, arith}
use Rattle.std.proofs.lemmas.Bool.{cases_Bool}
use Rattle.std.proofs.lemmas.Bool.Decides.{nat_tests}
use Rattle.std.specs.Option.{option_and_then}
use Rattle.dataset_tree.specs.declared.tree.Row.{Row}
use Rattle.encryption_roots.specs.declared.command.KeyCmd.{KeyCmd}
use Rattle.encryption_roots.specs.declared.command.KeyCmd.TheVariants as commands
use Rattle.encryption_roots.specs.declared.props.Location.{Location}
use Rattle.encryption_roots.specs.declared.props.Options.{Options}
use Rattle.encryption_roots.specs.declared.props.Prop.{Prop}
use Rattle.encryption_roots.specs.ById.{at_id, with_id, without_id}
use Rattle.encryption_roots.specs.Owners.{family}
use Rattle.encryption_roots.proofs.ByIdLemmas.{at_id-with_id_other, at_id-without_id_other}
use Rattle.encryption_roots.proofs.OwnerLemmas.{owner_of_family}
use Rattle.key_machine.specs.Busy.{IsFirstInUse, AllIdle}
use Rattle.key_machine.specs.Change.{change_done}
use Rattle.key_machine.specs.Create.{makes_root, makes_encrypted, created}
use Rattle.key_machine.specs.Fair.{IsFair}
use Rattle.key_machine.specs.Get.{get_done}
use Rattle.key_machine.specs.Inherit.{inherit_done}
use Rattle.key_machine.specs.Kept.{KeepsKey, KeepsMaster}
use Rattle.key_machine.specs.Load.{load_cases, loaded_key, load_done}
use Rattle.key_machine.specs.Plain.{Plain, Ciphers, owner_of, is_loaded, has_key, has_key_of, is_same, mkey}
use Rattle.key_machine.specs.Reap.{own_in_use, reap_step}
use Rattle.key_machine.specs.Refusals.{is_loaded_row}
use Rattle.key_machine.specs.Reply.{Stepped}
use Rattle.key_machine.specs.Sound.{Sound, IsEncrypted}
use Rattle.key_machine.specs.Step.{refusal_of, target, key_step, IsAccepted}
use Rattle.key_machine.specs.Told.{Told}
use Rattle.key_machine.specs.Unload.{InUse, first_in_use, closed, closed_below, unloaded, unload_done}
use Rattle.key_machine.specs.Users.{generation_of, users_of}
use Rattle.key_machine.proofs.CloneSteps.{clone_keeps}
use Rattle.key_machine.proofs.CreateLawsCases.{new_row, roots_with, records_with, loaded_with, created_with, grows}
use Rattle.key_machine.proofs.CreateLawsGrown.{encrypted_apart, family_apart, owner_stays, owner_apart, family_stays}
use Rattle.key_machine.proofs.CreateLawsStep.{NoneHolds, none_holds, IsFree, free}
use Rattle.key_machine.proofs.DestroySteps.{destroy_keeps}
use Rattle.key_machine.proofs.FairLaws.{keeps}
use Rattle.key_machine.proofs.FamilyLaws.{heirs}
use Rattle.key_machine.proofs.KeyLists.{at_id_is, at_id-filter}
use Rattle.key_machine.proofs.MasterLaws.{master_alike}
use Rattle.key_machine.proofs.MountLaws.{reap_sound}
use Rattle.key_machine.proofs.MountSteps.{mount_keeps, unmount_keeps, reap_drops, reap_answers}
use Rattle.key_machine.proofs.NamedLaws.{IsNamed, named}
use Rattle.key_machine.proofs.RekeyLaws.{change_keeps_masters, inherit_keeps_masters}
use Rattle.key_machine.proofs.SoundLemmas.{done, by_step, accepted_step}
use Rattle.key_machine.proofs.UnloadLaws.{is_first, all_idle, closed_at}

-- ---- what is kept, but for the loaded key, which a sound state has

record Stays (c : Ciphers) (p q : Plain) (id slot : ℕ) : Type 0 where
  pub mapped : at_id id q.mapped ≡ Some slot
  pub generation : generation_of q slot ≡ generation_of p slot
  pub of_family : family q.tree.rows id ≡ family p.tree.rows id
  pub master : mkey c q (family q.tree.rows id) ≡ mkey c p (family p.tree.rows id)

with_key : (c : Ciphers) (p q : Plain) (id slot : ℕ) → Sound c q → Stays c p q id slot → KeepsMaster c p q id slot
with_key c p q id slot s stays = record {
  mapped = stays.mapped;
  generation = stays.generation;
  of_family = stays.of_family;
  key = at_id_is (λ mapping. has_key q mapping.0 ≡ true) id q.mapped slot s.mappings.keys stays.mapped;
  master = stays.master;
}

of_key : (c : Ciphers) (p q : Plain) (id slot : ℕ) → KeepsKey c p q id slot → Stays c p q id slot
of_key c p q id slot keeps = record { mapped = keeps.mapped; generation = keeps.generation; of_family = keeps.of_family; master = keeps.master }

module _ (c : Ciphers) (p : Plain) (s : Sound c p) (id slot : ℕ) (there : at_id id p.mapped ≡ Some slot) (used : 1 ≤ users_of p (id, slot)) where
  abbrev first : ℕ
  first = family p.tree.rows id

  unchanged : Stays c p p id slot
  unchanged = record { mapped = there; generation = refl; of_family = refl; master = refl }

  encrypted : IsEncrypted p id
  encrypted = at_id_is (λ mapping. IsEncrypted p mapping.0) id p.mapped slot s.mappings.encrypted there

  key : has_key p id ≡ true
  key = at_id_is (λ mapping. has_key p mapping.0 ≡ true) id p.mapped slot s.mappings.keys there

  first_owner : owner_of p id ≡ owner_of p first
  first_owner = owner_of_family p.tree p.roots (heirs c p s) id

  -- the owner of the family has its key loaded
  loaded_owner : (root : ℕ) → owner_of p first ≡ Some root → is_loaded p root ≡ true
  loaded_owner root owner = ap (λ (found : Option ℕ). has_key_of p found) (sym (first_owner ∙ owner)) ∙ key

  -- other loaded keys, and mappings that have this one
  stays_by : (loaded : List (ℕ × List ℕ)) (mapped : List (ℕ × ℕ)) → at_id id mapped ≡ Some slot → ((root : ℕ) → owner_of p first ≡ Some root → at_id root loaded ≡ at_id root p.loaded)
      → Stays c p (record p { loaded = loaded; mapped = mapped }) id slot
  stays_by loaded mapped found keys = record { mapped = found; generation = refl; of_family = refl; master = master_alike c p (record p { loaded = loaded; mapped = mapped }) first refl refl keys }

  -- ---- a load

  load_stays : (told : Told) (check_only : Bool) (root : ℕ) → (is_loaded p root && not check_only) ≡ false → Stays c p (loaded_key p root check_only told) id slot
  load_stays told true root new = unchanged
  load_stays told false root new = stays_by (with_id root told.key p.loaded) p.mapped there
      (λ owner is. at_id-with_id_other root owner told.key p.loaded (λ same. (let loaded : is_loaded p root ≡ true = ap (λ (m : ℕ). is_loaded p m) (sym same) ∙ loaded_owner owner is in let absent : is_loaded p root ≡ false = left (is_loaded p root) new in cc)))
    where
      left : (b : Bool) → (b && true) ≡ false → b ≡ false
      left true h = absurd (cc)
      left false h = refl

  load_done_stays : (name : List ℕ) (check_only : Bool) (place : Option Location) (told : Told) → refusal_of p (commands.Load name check_only place) ≡ None → (found : Option ℕ)
      → target p (commands.Load name check_only place) ≡ found → Stays c p (load_done p check_only told found).state id slot
  load_done_stays name check_only place told accepted None at = unchanged
  load_done_stays name check_only place told accepted (Some root) at =
      let none : NoneHolds (load_cases p name check_only) = none_holds (load_cases p name check_only) accepted in
      let is : IsNamed p name root = named p name root at in
      load_stays told check_only root
      (ap (λ (m : ℕ). is_loaded p m && not check_only) (sym is.same) ∙ ap (λ (row : Option Row). is_loaded_row p row && not check_only) (sym is.found) ∙ none.1.1.1.0)

  -- ---- an unload

  not_owned : (root : ℕ) → AllIdle p root → owner_of p id ≢ Some root
  not_owned root idle owner =
      let none : users_of p (id, slot) ≡ 0 = at_id_is (λ mapping. owner_of p mapping.0 ≡ Some root → users_of p mapping ≡ 0) id p.mapped slot idle there owner in
      omega (arith, none, used)

  is_owner : (root : ℕ) (found : Option ℕ) → is_same root found ≡ true → found ≡ Some root
  is_owner root None same = absurd (cc)
  is_owner root (Some owner) same = ap (λ (m : ℕ). Some m) (equal owner root same) where
    equal : (a b : ℕ) → (a == b) ≡ true → a ≡ b
    equal a b h = grind (arith, nat_tests)

  kept_all : (root : ℕ) → AllIdle p root → not (is_same root (owner_of p id)) ≡ true
  kept_all root idle = ⊎_elim (λ (own : is_same root (owner_of p id) ≡ true). absurd (not_owned root idle (is_owner root (owner_of p id) own)))
      (λ (other : is_same root (owner_of p id) ≡ false). ap not other) (cases_Bool (is_same root (owner_of p id)))

  kept_below : (root dataset count : ℕ) → IsFirstInUse p root dataset count → (is_same root (owner_of p id) && nat_lt id dataset) ≡ false
  kept_below root dataset count busy = by (is_same root (owner_of p id)) (nat_lt id dataset) refl refl where
    below_of : (a b : ℕ) → nat_lt a b ≡ true → a < b
    below_of a b test = grind (arith, nat_tests)

    by : (own below : Bool) → is_same root (owner_of p id) ≡ own → nat_lt id dataset ≡ below → (own && below) ≡ false
    by true true own below = absurd (let none : users_of p (id, slot) ≡ 0 = at_id_is (λ mapping. owner_of p mapping.0 ≡ Some root → mapping.0 < dataset → users_of p mapping ≡ 0) id p.mapped slot busy.idle there (is_owner root (owner_of p id) own) (below_of id dataset below) in omega (arith, none, used))
    by true false own below = refl
    by false below own under = refl

  unloaded_stays : (root : ℕ) (found : Option InUse) → first_in_use p root ≡ found → Stays c p (unloaded p root found).state id slot
  unloaded_stays root None none =
      let idle : AllIdle p root = all_idle p root none in
      stays_by (without_id root p.loaded) (closed p root) (at_id-filter (λ at. not (is_same root (owner_of p at))) id p.mapped (kept_all root idle) ∙ there)
      (λ owner is. at_id-without_id_other root owner p.loaded (λ same. not_owned root idle (first_owner ∙ is ∙ ap (λ (m : ℕ). Some m) same)))
  unloaded_stays root (Some busy) found =
      let is : IsFirstInUse p root busy.dataset busy.count = is_first p root busy s.mappings.mapped found in
      let kept : (is_same root (owner_of p id) && nat_lt id busy.dataset) ≡ false = kept_below root busy.dataset busy.count is in
      stays_by p.loaded (closed_below p root busy.dataset) (closed_at p root busy.dataset id ∙ ap (λ (b : Bool). cond b None (at_id id p.mapped)) kept ∙ there) (λ owner of. refl)

  unload_stays : (found : Option ℕ) → Stays c p (unload_done p (option_and_then (first_in_use p) found) found).state id slot
  unload_stays None = unchanged
  unload_stays (Some root) = unloaded_stays root (first_in_use p root) refl

  -- ---- a create

  create_stays : (name : List ℕ) (opts : Options) (told : Told) → refusal_of p (commands.Create name opts) ≡ None → Stays c p (created p name opts told) id slot
  create_stays name opts told accepted = by (makes_root opts) (makes_encrypted p name opts) where
    is : IsFree p name opts
    is = free p name opts accepted

    by : (root below : Bool) → Stays c p (created_with p name opts told root below) id slot
    by root below =
        let grow = grows c p name opts told s is.absent is.parent root below in
        let row = new_row p name below in
        let roots = roots_with p opts told root in
        let wrapped = records_with p opts told below in
        let loaded = loaded_with p told root in
        let other : id ≢ p.tree.last + 1 = encrypted_apart p row roots wrapped loaded grow id encrypted in
        let strange : first ≢ p.tree.last + 1 = family_apart p row roots wrapped loaded grow id encrypted in
        let of : family (created_with p name opts told root below).tree.rows id ≡ first = family_stays p row roots wrapped loaded grow id other in
        record {
          mapped = there;
          generation = refl;
          of_family = of;
          master = ap (λ (m : ℕ). mkey c (created_with p name opts told root below) m) of
              ∙ master_alike c p (created_with p name opts told root below) first (grow.wrapped_kept first strange) (owner_stays p row roots wrapped loaded grow first strange)
              (λ owner owns. grow.loaded_kept owner (owner_apart p row roots wrapped loaded grow first owner owns));
        }

  -- ---- new wrapping keys

  change_same : (opts : Options) (told : Told) (found : Option ℕ) → mkey c (change_done p opts told found).state first ≡ mkey c p first → Stays c p (change_done p opts told found).state id slot
  change_same opts told None master = unchanged
  change_same opts told (Some at) master = record { mapped = there; generation = refl; of_family = refl; master = master }

  inherit_same : (told : Told) (found : Option ℕ) → mkey c (inherit_done p told found).state first ≡ mkey c p first → Stays c p (inherit_done p told found).state id slot
  inherit_same told None master = unchanged
  inherit_same told (Some at) master = record { mapped = there; generation = refl; of_family = refl; master = master }

  change_stays : (name : List ℕ) (opts : Options) (load_first : Bool) (told : Told) → IsFair c p (commands.Change name opts load_first) told → IsAccepted p (commands.Change name opts load_first) told
      → Stays c p (done p (commands.Change name opts load_first) told).state id slot
  change_stays name opts load_first told fair accepted =
      change_same opts told (target p (commands.Change name opts load_first))
      (subst (λ (stepped : Stepped). mkey c stepped.state first ≡ mkey c p first) (accepted_step p (commands.Change name opts load_first) told accepted)
      (change_keeps_masters c p name opts load_first told id s fair accepted key))

  inherit_stays : (name : List ℕ) (load_first : Bool) (told : Told) → IsFair c p (commands.Inherit name load_first) told → IsAccepted p (commands.Inherit name load_first) told
      → Stays c p (done p (commands.Inherit name load_first) told).state id slot
  inherit_stays name load_first told fair accepted =
      inherit_same told (target p (commands.Inherit name load_first))
      (subst (λ (stepped : Stepped). mkey c stepped.state first ≡ mkey c p first) (accepted_step p (commands.Inherit name load_first) told accepted)
      (inherit_keeps_masters c p name load_first told id s fair accepted key))

  get_stays : (prop : Prop) (found : Option ℕ) → Stays c p (get_done p prop found).state id slot
  get_stays prop None = unchanged
  get_stays prop (Some at) = unchanged

  -- ---- any command

  by_acceptance : (command : KeyCmd) (told : Told) → (IsAccepted p command told → Stays c p (done p command told).state id slot) → Stays c p (key_step p command told).state id slot
  by_acceptance command told carried = by_step p command told (λ stepped. Stays c p stepped.state id slot) carried (λ why state. unchanged) (λ why material. unchanged)

  step_stays : (command : KeyCmd) (told : Told) → IsFair c p command told → Stays c p (key_step p command told).state id slot
  step_stays (commands.Create name opts) told fair = by_acceptance (commands.Create name opts) told (λ accepted. create_stays name opts told accepted.state)
  step_stays (commands.Load name check_only place) told fair =
      by_acceptance (commands.Load name check_only place) told (λ accepted. load_done_stays name check_only place told accepted.state (target p (commands.Load name check_only place)) refl)
  step_stays (commands.Unload name) told fair = by_acceptance (commands.Unload name) told (λ accepted. unload_stays (target p (commands.Unload name)))
  step_stays (commands.Change name opts load_first) told fair = by_acceptance (commands.Change name opts load_first) told (λ accepted. change_stays name opts load_first told fair accepted)
  step_stays (commands.Inherit name load_first) told fair = by_acceptance (commands.Inherit name load_first) told (λ accepted. inherit_stays name load_first told fair accepted)
  step_stays (commands.Mount name) told fair = of_key c p (key_step p (commands.Mount name) told).state id slot (mount_keeps c p id slot there name told)
  step_stays (commands.Unmount name) told fair = of_key c p (key_step p (commands.Unmount name) told).state id slot (unmount_keeps c p id slot there name told)
  step_stays (commands.Get name prop) told fair = by_acceptance (commands.Get name prop) told (λ accepted. get_stays prop (target p (commands.Get name prop)))
  step_stays (commands.Clone from name) told fair = of_key c p (key_step p (commands.Clone from name) told).state id slot (clone_keeps c p from name told id slot s there)
  step_stays (commands.Receive name props wrapped block) told fair = unchanged
  step_stays (commands.Destroy name snaps) told fair = of_key c p (key_step p (commands.Destroy name snaps) told).state id slot (destroy_keeps c p name snaps told id slot s there used)

  -- ---- a reap

  reap_stays : (dataset : ℕ) → Stays c p (reap_step p dataset).state id slot
  reap_stays dataset = ⊎_elim
      (λ dropped.
      let idle : (at : ℕ) × (at_id dataset p.mapped ≡ Some at) × (users_of p (dataset, at) ≡ 0) = (reap_drops p dataset).0 (ap (λ (stepped : Stepped). stepped.reply) dropped.0) in
      let apart : id ≢ dataset = λ same. (let both : Some slot ≡ Some idle.0 = sym there ∙ ap (λ (m : ℕ). at_id m p.mapped) same ∙ idle.1 in let one : slot ≡ idle.0 = cc in
      let none : users_of p (id, slot) ≡ 0 = ap (λ (m : ℕ). users_of p (m, slot)) same ∙ ap (λ (m : ℕ). users_of p (dataset, m)) one ∙ idle.2 in omega (arith, none, used)) in
      subst (λ (stepped : Stepped). Stays c p stepped.state id slot) (sym dropped.0)
      (stays_by p.loaded (without_id dataset p.mapped) (at_id-without_id_other dataset id p.mapped apart ∙ there) (λ owner of. refl)))
      (λ kept. subst (λ (stepped : Stepped). Stays c p stepped.state id slot) (sym kept.0) unchanged) (reap_answers p dataset (own_in_use p dataset))

pub used_keeps : (c : Ciphers) (p : Plain) (command : KeyCmd) (told : Told) (id slot : ℕ) → Sound c p → IsFair c p command told → at_id id p.mapped ≡ Some slot → 1 ≤ users_of p (id, slot)
    → KeepsMaster c p (key_step p command told).state id slot
used_keeps c p command told id slot s fair there used = with_key c p (key_step p command told).state id slot (keeps c p command told s fair) (step_stays c p s id slot there used command told fair)

pub used_reap : (c : Ciphers) (p : Plain) (dataset id slot : ℕ) → Sound c p → at_id id p.mapped ≡ Some slot → 1 ≤ users_of p (id, slot) → KeepsMaster c p (reap_step p dataset).state id slot
used_reap c p dataset id slot s there used = with_key c p (reap_step p dataset).state id slot (reap_sound c p dataset s) (reap_stays c p s id slot there used dataset)
