-- What a kit tells is fair, where the ciphers are sound; and fair steps keep a state sound.
use Rattle.std.proofs.Common.{◌≡◌, ⊎_elim, inl, inr, ℕ, ◌+◌, Bool, true, false, List, [], ◌∷◌, map, Option, Some, None, Result, Ok, Err, is_some, option_map, refl, ap, sym, ◌∙◌, subst, ◌⊎◌}
use Rattle.std.proofs.lemmas.List.Elements.{All-nil, All-cons}
use Rattle.std.specs.Prelude.{if◌then◌else◌}
use Rattle.dataset_tree.specs.declared.kinds.Suite.{Suite}
use Rattle.dataset_tree.specs.declared.refusal.Refusal.{Refusal}
use Rattle.dataset_tree.specs.declared.refusal.Refusal.TheVariants.{WrongKey}
use Rattle.dataset_tree.specs.Suite.{suite_key_len}
use Rattle.dataset_tree.specs.Tree.{IsTree}
use Rattle.dataset_tree.proofs.TreeLemmas.{IsTree-with_row}
use Rattle.encryption_roots.specs.declared.props.Location.{Location}
use Rattle.encryption_roots.specs.declared.props.Options.{Options}
use Rattle.encryption_roots.specs.declared.props.Props.{Props}
use Rattle.encryption_roots.specs.declared.props.Prop.{Prop}
use Rattle.encryption_roots.specs.declared.command.KeyCmd.{KeyCmd}
use Rattle.encryption_roots.specs.declared.command.KeyCmd.TheVariants as commands
use Rattle.encryption_roots.specs.declared.kit.LineKit.{LineKit}
use Rattle.encryption_roots.specs.ById.{at_id}
use Rattle.salt_rotation.specs.Places.{master_place, hmac_place, guid_place, vector_place}
use Rattle.key_machine.specs.Mount.{free_slot, mounted_on, mounted_at, mount_done}
use Rattle.key_machine.specs.Plain.{Plain, Ciphers}
use Rattle.key_machine.specs.Create.{makes_root, makes_encrypted, parent_row, parent_key, create_key, told_encrypted, new_format, new_iters, new_salt, new_suite, seeded_master, seeded_record}
use Rattle.key_machine.specs.Change.{change_families, change_done}
use Rattle.key_machine.specs.Get.{get_done}
use Rattle.key_machine.specs.Inherit.{inherit_families, inherit_key, inherit_done}
use Rattle.key_machine.specs.Load.{load_done, load_material, told_load, told_load_of, told_load_with, loaded_key}
use Rattle.key_machine.specs.Refusals.{first_refusal, not_built}
use Rattle.key_machine.specs.Reply.{Stepped, Done, Refused}
use Rattle.key_machine.specs.Sound.{Sound}
use Rattle.key_machine.specs.Step.{key_step, target, told, refusal_of, in_use, IsAccepted}
use Rattle.key_machine.specs.Told.{Told, no_key, nothing_told, key_of, seed_of}
use Rattle.key_machine.specs.Unload.{InUse, unload_done, unloaded}
use Rattle.key_machine.specs.Unmount.{unmount_done}
use Rattle.key_machine.specs.Fair.{IsMaster, AreSound, IsFair, IsGenuine, AllOpen, AllKept, OpensAll}
use Rattle.key_machine.proofs.SoundLemmas.{done, by_step, accepted_step, refused_step, refused_by_material, step_sound}
use Rattle.key_machine.proofs.CreateLawsStep.{IsFree, free, created_sound}
use Rattle.key_machine.proofs.LoadLaws.{load_accepted, load_sound}
use Rattle.key_machine.proofs.ChangeLaws.{IsChangeable, changeable, change_sound}
use Rattle.key_machine.proofs.InheritLaws.{IsInheritable, inheritable, IsAbove, owner_above, has_above, key_above_is, inherit_sound}
use Rattle.key_machine.proofs.RekeyFair.{created_kept, change_fair, inherit_fair}
use Rattle.key_machine.proofs.UnloadLaws.{unload_sound}
use Rattle.key_machine.proofs.MountLaws.{mount_sound, unmount_sound}
use Rattle.key_machine.proofs.CloneLaws.{clone_sound, clone_tree}
use Rattle.key_machine.proofs.DestroyLaws.{destroy_sound, destroy_tree}

-- ---- a seeded record opens

module _ (c : Ciphers) (are : AreSound c) where
  seeded : (suite : Suite) (seed : List ℕ) → IsMaster (seeded_master c suite seed)
  seeded suite seed = record {
    guid = are.numbers seed guid_place;
    master = are.words seed master_place (suite_key_len suite);
    hmac = are.words seed hmac_place 64;
  }

  seeded_opens : (suite : Suite) (seed key : List ℕ) → is_some (c.opens (seeded_record c suite seed key) key) ≡ true
  seeded_opens suite seed key =
      ap (λ m. is_some m) (are.opened (seeded_master c suite seed) key (c.seed_bytes seed (vector_place 0) 12) (seeded suite seed) (are.words seed (vector_place 0) 12))

  -- ---- a create

  module _ (p : Plain) (tree : IsTree p.tree) (name : List ℕ) (opts : Options) (kit : LineKit) where
    abbrev own : List ℕ
    own = parent_key p (parent_row p name)

    -- of a key and a seed that were had
    written : (encrypted root : Bool) (fetched : Result (List ℕ) Refusal) (key seed : List ℕ) → makes_encrypted p name opts ≡ encrypted → makes_root opts ≡ root → (if root then fetched else Ok own) ≡ Ok key
        → encrypted ≡ true → IsGenuine c p (commands.Create name opts) (told_encrypted c p name opts (Ok key) (Ok seed))
    written encrypted root fetched key seed is_encrypted is_root had made =
        let stands : (if makes_root opts then (if makes_root opts then key else no_key) else own) ≡ key = ap (λ b. if b then (if b then key else no_key) else own) is_root ∙ stands_under root had in
        let sealed : List ℕ = seeded_record c (new_suite p name opts) seed key in
        let one : AllOpen c key ((p.tree.last + 1, sealed) ∷ []) =
        All-cons (λ entry. is_some (c.opens entry.1 key) ≡ true) (p.tree.last + 1, sealed) [] (seeded_opens (new_suite p name opts) seed key) (All-nil (λ entry. is_some (c.opens entry.1 key) ≡ true)) in
        record {
          owned = tt;
          families = sym (ap (λ b. if b then (p.tree.last + 1) ∷ [] else []) (is_encrypted ∙ made));
          kept = created_kept c p (if makes_root opts then (if makes_root opts then key else no_key) else own) ((p.tree.last + 1, sealed) ∷ []) tree refl;
          opened = subst (λ (k : List ℕ). AllOpen c k ((p.tree.last + 1, sealed) ∷ [])) (sym stands) one;
        } where
          stands_under : (root : Bool) → (if root then fetched else Ok own) ≡ Ok key → (if root then (if root then key else no_key) else own) ≡ key
          stands_under true had = refl
          stands_under false had = cc

    -- a fault is what the step answers
    by_fault : (facts : Told) (why : Refusal) → facts.fault ≡ Some why → refusal_of p (commands.Create name opts) ≡ None → IsFair c p (commands.Create name opts) facts
    by_fault facts why fault accepted =
        inl (why, ap (λ stepped. stepped.reply) (refused_by_material p (commands.Create name opts) facts why accepted (ap (λ f. first_refusal (f ∷ [])) fault)))

    encrypted_fair : (key seed : Result (List ℕ) Refusal) → create_key c p name opts kit ≡ key → makes_encrypted p name opts ≡ true → refusal_of p (commands.Create name opts) ≡ None
        → IsFair c p (commands.Create name opts) (told_encrypted c p name opts key seed)
    encrypted_fair (Err why) seed had made accepted = by_fault (told_encrypted c p name opts (Err why) seed) why refl accepted
    encrypted_fair (Ok key) (Err why) had made accepted = by_fault (told_encrypted c p name opts (Ok key) (Err why)) why refl accepted
    encrypted_fair (Ok key) (Ok seed) had made accepted = inr (written (makes_encrypted p name opts) (makes_root opts) (key_of c (new_format opts) (new_iters opts) (new_salt c opts (seed_of kit.seed)) kit.new_key) key seed refl refl had made)

    by_encrypted : (encrypted : Bool) → makes_encrypted p name opts ≡ encrypted → refusal_of p (commands.Create name opts) ≡ None
        → IsFair c p (commands.Create name opts) (if encrypted then told_encrypted c p name opts (create_key c p name opts kit) (seed_of kit.seed) else nothing_told)
    by_encrypted true is accepted = encrypted_fair (create_key c p name opts kit) (seed_of kit.seed) refl is accepted
    by_encrypted false is accepted = inr (record { owned = tt; families = sym (ap (λ b. if b then (p.tree.last + 1) ∷ [] else []) is); opened = All-nil _; kept = All-nil _ })

    create_fair : (refusal : Option Refusal) → refusal_of p (commands.Create name opts) ≡ refusal → IsFair c p (commands.Create name opts) (told c p (commands.Create name opts) kit)
    create_fair (Some why) state = inl (why, ap (λ stepped. stepped.reply) (refused_step p (commands.Create name opts) (told c p (commands.Create name opts) kit) why state))
    create_fair None state = by_encrypted (makes_encrypted p name opts) refl state

-- ---- a load

load_with_writes : (c : Ciphers) (p : Plain) (root : ℕ) (key : Result (List ℕ) Refusal) → (told_load_with c p root key).wrapped ≡ []
load_with_writes c p root (Ok key) = refl
load_with_writes c p root (Err why) = refl

load_of_writes : (c : Ciphers) (p : Plain) (kit : LineKit) (root : ℕ) (props : Option Props) → (told_load_of c p kit root props).wrapped ≡ []
load_of_writes c p kit root None = refl
load_of_writes c p kit root (Some props) = load_with_writes c p root (key_of c props.format props.iters props.salt kit.new_key)

load_writes : (c : Ciphers) (p : Plain) (kit : LineKit) (found : Option ℕ) → (told_load c p kit found).wrapped ≡ []
load_writes c p kit None = refl
load_writes c p kit (Some root) = load_of_writes c p kit root (at_id root p.roots)

no_fault : (facts : Told) → first_refusal (load_material facts) ≡ None → facts.fault ≡ None
no_fault facts none = by facts.fault none where
  by : (fault : Option Refusal) → first_refusal (fault ∷ option_map (λ dataset. WrongKey dataset) facts.wrong ∷ []) ≡ None → fault ≡ None
  by None none = refl
  by (Some why) none = absurd (cc)

module _ (c : Ciphers) (p : Plain) (name : List ℕ) (check_only : Bool) (place : Option Location) (kit : LineKit) where
  abbrev load : KeyCmd
  load = commands.Load name check_only place

  abbrev facts : Told
  facts = told c p load kit

  load_opens : IsAccepted p load facts → (found : Option ℕ) → target p load ≡ found → OpensAll c p facts found
  load_opens accepted None same = tt
  load_opens accepted (Some root) same =
      let reply : (key_step p load facts).reply ≡ Done = ap (λ stepped. stepped.reply) (accepted_step p load facts accepted) ∙ ap (λ at. (load_done p check_only facts at).reply) same in
      (load_accepted c p name check_only place kit root accepted.state (no_fault facts accepted.material) same).0 reply

  load_genuine : IsAccepted p load facts → IsGenuine c p load facts
  load_genuine accepted =
      let writes : facts.wrapped ≡ [] = load_writes c p kit (target p load) in
      record {
        owned = load_opens accepted (target p load) refl;
        families = ap (λ wrapped. map (λ entry. entry.0) wrapped) writes;
        opened = subst (λ (w : List (ℕ × List ℕ)). AllOpen c no_key w) (sym writes) (All-nil _);
        kept = subst (λ (w : List (ℕ × List ℕ)). AllKept c p no_key w) (sym writes) (All-nil _);
      }

  load_fair : IsFair c p load facts
  load_fair = by_step p load facts (λ stepped. key_step p load facts ≡ stepped → IsFair c p load facts) (λ accepted step. inr (load_genuine accepted))
      (λ why state step. inl (why, ap (λ stepped. stepped.reply) step)) (λ why material step. inl (why, ap (λ stepped. stepped.reply) step)) refl

-- ---- any command

nothing_fair : (c : Ciphers) (p : Plain) (command : KeyCmd) → refusal_of p command ≡ Some not_built → IsFair c p command nothing_told
nothing_fair c p command state = inl (not_built, ap (λ stepped. stepped.reply) (refused_step p command nothing_told not_built state))

pub told_fair : (c : Ciphers) (p : Plain) (command : KeyCmd) (kit : LineKit) → AreSound c → Sound c p → IsFair c p command (told c p command kit)
told_fair c p (commands.Create name opts) kit are s = create_fair c are p s.tree.tree name opts kit (refusal_of p (commands.Create name opts)) refl
told_fair c p (commands.Load name check_only place) kit are s = load_fair c p name check_only place kit
told_fair c p (commands.Unload name) kit are s = inr (record { owned = tt; families = refl; opened = All-nil _; kept = All-nil _ })
told_fair c p (commands.Change name opts load_first) kit are s = change_fair c are p s name opts load_first kit
told_fair c p (commands.Inherit name load_first) kit are s = inherit_fair c are p s name load_first kit
told_fair c p (commands.Mount name) kit are s = inr (record { owned = tt; families = refl; opened = All-nil _; kept = All-nil _ })
told_fair c p (commands.Unmount name) kit are s = inr (record { owned = tt; families = refl; opened = All-nil _; kept = All-nil _ })
told_fair c p (commands.Get name prop) kit are s = inr (record { owned = tt; families = refl; opened = All-nil _; kept = All-nil _ })
told_fair c p (commands.Clone from name) kit are s = inr (record { owned = tt; families = refl; opened = All-nil _; kept = All-nil _ })
told_fair c p (commands.Receive name props wrapped block) kit are s = nothing_fair c p (commands.Receive name props wrapped block) refl
told_fair c p (commands.Destroy name snaps) kit are s = inr (record { owned = tt; families = refl; opened = All-nil _; kept = All-nil _ })

-- ---- fair steps keep soundness

-- what is told of an accepted create or load is genuine, since those are never refused
genuine_of : (c : Ciphers) (p : Plain) (command : KeyCmd) (tells : Told) → IsAccepted p command tells → ((why : Refusal) → (done p command tells).reply ≡ Refused why → ⊥) → IsFair c p command tells
    → IsGenuine c p command tells
genuine_of c p command tells accepted never fair =
    ⊎_elim (λ refusal. absurd (never refusal.0 (sym (ap (λ stepped. stepped.reply) (accepted_step p command tells accepted)) ∙ refusal.1))) (λ genuine. genuine) fair

get_kept : (c : Ciphers) (p : Plain) (prop : Prop) (found : Option ℕ) → Sound c p → Sound c (get_done p prop found).state
get_kept c p prop None sound = sound
get_kept c p prop (Some id) sound = sound

load_reply : (c : Ciphers) (p : Plain) (name : List ℕ) (check_only : Bool) (tells : Told) (found : Option ℕ) → (load_done p check_only tells found).state ≡ p
    ⊎ ((why : Refusal) → (load_done p check_only tells found).reply ≡ Refused why → ⊥)
load_reply c p name check_only tells None = inl refl
load_reply c p name check_only tells (Some root) = inr (λ why reply. cc)

-- so is what is told of an accepted change or inherit of a dataset that is there
pub change_genuine : (c : Ciphers) (p : Plain) (name : List ℕ) (opts : Options) (load_first : Bool) (tells : Told) (id : ℕ) → IsAccepted p (commands.Change name opts load_first) tells
    → target p (commands.Change name opts load_first) ≡ Some id → IsFair c p (commands.Change name opts load_first) tells → IsGenuine c p (commands.Change name opts load_first) tells
change_genuine c p name opts load_first tells id accepted at fair =
    let done_is : (done p (commands.Change name opts load_first) tells).reply ≡ Done = ap (λ (found : Option ℕ). (change_done p opts tells found).reply) at in
    genuine_of c p (commands.Change name opts load_first) tells accepted (λ why refused. (let both : Done ≡ Refused why = sym done_is ∙ refused in cc)) fair

pub inherit_genuine : (c : Ciphers) (p : Plain) (name : List ℕ) (load_first : Bool) (tells : Told) (id : ℕ) → IsAccepted p (commands.Inherit name load_first) tells
    → target p (commands.Inherit name load_first) ≡ Some id → IsFair c p (commands.Inherit name load_first) tells → IsGenuine c p (commands.Inherit name load_first) tells
inherit_genuine c p name load_first tells id accepted at fair =
    let done_is : (done p (commands.Inherit name load_first) tells).reply ≡ Done = ap (λ (found : Option ℕ). (inherit_done p tells found).reply) at in
    genuine_of c p (commands.Inherit name load_first) tells accepted (λ why refused. (let both : Done ≡ Refused why = sym done_is ∙ refused in cc)) fair

change_kept : (c : Ciphers) (p : Plain) (name : List ℕ) (opts : Options) (load_first : Bool) (tells : Told) → Sound c p → IsAccepted p (commands.Change name opts load_first) tells
    → IsFair c p (commands.Change name opts load_first) tells → (found : Option ℕ) → target p (commands.Change name opts load_first) ≡ found → Sound c (change_done p opts tells found).state
change_kept c p name opts load_first tells s accepted fair None at = s
change_kept c p name opts load_first tells s accepted fair (Some id) at =
    let is : IsChangeable p id load_first = changeable p name opts load_first id s.tree.tree accepted.state at in
    let genuine = change_genuine c p name opts load_first tells id accepted at fair in
    change_sound c p id opts tells s is.first (genuine.families ∙ ap (change_families p opts) at) genuine.opened

-- the parent's owner, under whose key an accepted inherit writes
pub above_of : (c : Ciphers) (p : Plain) (name : List ℕ) (load_first : Bool) (tells : Told) (id : ℕ) → Sound c p → IsAccepted p (commands.Inherit name load_first) tells
    → (at : target p (commands.Inherit name load_first) ≡ Some id) → (is : IsInheritable p id load_first) → IsAbove p is.parent
above_of c p name load_first tells id s accepted at is = owner_above p is.parent (has_above p name load_first tells id is s.tree.tree accepted.state at accepted.material)

pub inherit_key_is : (p : Plain) (name : List ℕ) (load_first : Bool) (id : ℕ) (is : IsInheritable p id load_first) (owner : IsAbove p is.parent) → target p (commands.Inherit name load_first) ≡ Some id
    → inherit_key p (target p (commands.Inherit name load_first)) ≡ owner.key
inherit_key_is p name load_first id is owner at = ap (inherit_key p) at ∙ key_above_is p id is.first is.parent is.above owner

inherit_kept : (c : Ciphers) (p : Plain) (name : List ℕ) (load_first : Bool) (tells : Told) → Sound c p → IsAccepted p (commands.Inherit name load_first) tells
    → IsFair c p (commands.Inherit name load_first) tells → (found : Option ℕ) → target p (commands.Inherit name load_first) ≡ found → Sound c (inherit_done p tells found).state
inherit_kept c p name load_first tells s accepted fair None at = s
inherit_kept c p name load_first tells s accepted fair (Some id) at =
    let is : IsInheritable p id load_first = inheritable p name load_first id s.tree.tree accepted.state at in
    let owner : IsAbove p is.parent = above_of c p name load_first tells id s accepted at is in
    let genuine = inherit_genuine c p name load_first tells id accepted at fair in
    inherit_sound c p id tells s is.first is.root is.parent is.above owner (genuine.families ∙ ap (inherit_families p) at)
    (subst (λ (key : List ℕ). AllOpen c key tells.wrapped) (inherit_key_is p name load_first id is owner at) genuine.opened)

pub keeps : (c : Ciphers) (p : Plain) (command : KeyCmd) (tells : Told) → Sound c p → IsFair c p command tells → Sound c (key_step p command tells).state
keeps c p (commands.Create name opts) tells sound fair =
    step_sound c p (commands.Create name opts) tells sound
    (λ accepted. created_sound c p name opts tells sound accepted.state (genuine_of c p (commands.Create name opts) tells accepted (λ why reply. cc) fair))
keeps c p (commands.Load name check_only place) tells sound fair =
    let command : KeyCmd = commands.Load name check_only place in
    step_sound c p command tells sound
    (λ accepted. ⊎_elim (λ (same : (load_done p check_only tells (target p command)).state ≡ p). subst (Sound c) (sym same) sound)
    (λ never. load_sound c p tells name check_only place sound accepted.state (genuine_of c p command tells accepted never fair).owned)
    (load_reply c p name check_only tells (target p command)))
keeps c p (commands.Unload name) tells sound fair = step_sound c p (commands.Unload name) tells sound (λ accepted. unload_sound c p (target p (commands.Unload name)) sound)
keeps c p (commands.Change name opts load_first) tells sound fair =
    let command : KeyCmd = commands.Change name opts load_first in
    step_sound c p command tells sound (λ accepted. change_kept c p name opts load_first tells sound accepted fair (target p command) refl)
keeps c p (commands.Inherit name load_first) tells sound fair =
    let command : KeyCmd = commands.Inherit name load_first in
    step_sound c p command tells sound (λ accepted. inherit_kept c p name load_first tells sound accepted fair (target p command) refl)
keeps c p (commands.Mount name) tells sound fair =
    step_sound c p (commands.Mount name) tells sound (λ accepted. mount_sound c p name sound accepted.state (target p (commands.Mount name)) refl)
keeps c p (commands.Unmount name) tells sound fair = step_sound c p (commands.Unmount name) tells sound (λ accepted. unmount_sound c p (target p (commands.Unmount name)) sound)
keeps c p (commands.Get name prop) tells sound fair = step_sound c p (commands.Get name prop) tells sound (λ accepted. get_kept c p prop (target p (commands.Get name prop)) sound)
keeps c p (commands.Clone from name) tells sound fair =
    step_sound c p (commands.Clone from name) tells sound (λ accepted. clone_sound c p from name sound accepted.state (target p (commands.Clone from name)) refl)
keeps c p (commands.Receive name props wrapped block) tells sound fair = sound
keeps c p (commands.Destroy name snaps) tells sound fair =
    step_sound c p (commands.Destroy name snaps) tells sound (λ accepted. destroy_sound c p name snaps sound accepted.state (target p (commands.Destroy name snaps)) refl)

-- ---- trees stay trees

unloaded_tree : (p : Plain) (root : ℕ) (busy : Option InUse) → (unloaded p root busy).state.tree ≡ p.tree
unloaded_tree p root None = refl
unloaded_tree p root (Some busy) = refl

unload_tree : (p : Plain) (found : Option InUse) (at : Option ℕ) → (unload_done p found at).state.tree ≡ p.tree
unload_tree p found None = refl
unload_tree p found (Some root) = unloaded_tree p root found

loaded_tree : (p : Plain) (root : ℕ) (check_only : Bool) (tells : Told) → (loaded_key p root check_only tells).tree ≡ p.tree
loaded_tree p root true tells = refl
loaded_tree p root false tells = refl

load_tree : (p : Plain) (check_only : Bool) (tells : Told) (at : Option ℕ) → (load_done p check_only tells at).state.tree ≡ p.tree
load_tree p check_only tells None = refl
load_tree p check_only tells (Some root) = loaded_tree p root check_only tells

change_tree : (p : Plain) (opts : Options) (tells : Told) (at : Option ℕ) → (change_done p opts tells at).state.tree ≡ p.tree
change_tree p opts tells None = refl
change_tree p opts tells (Some id) = refl

inherit_tree : (p : Plain) (tells : Told) (at : Option ℕ) → (inherit_done p tells at).state.tree ≡ p.tree
inherit_tree p tells None = refl
inherit_tree p tells (Some id) = refl

get_tree : (p : Plain) (prop : Prop) (at : Option ℕ) → (get_done p prop at).state.tree ≡ p.tree
get_tree p prop None = refl
get_tree p prop (Some id) = refl

mounted_on_tree : (p : Plain) (id : ℕ) (free : Option ℕ) → (mounted_on p id free).state.tree ≡ p.tree
mounted_on_tree p id None = refl
mounted_on_tree p id (Some slot) = refl

mounted_at_tree : (p : Plain) (id : ℕ) (place : Option ℕ) → (mounted_at p id place).state.tree ≡ p.tree
mounted_at_tree p id None = mounted_on_tree p id (free_slot p)
mounted_at_tree p id (Some slot) = refl

mount_tree : (p : Plain) (at : Option ℕ) → (mount_done p at).state.tree ≡ p.tree
mount_tree p None = refl
mount_tree p (Some id) = mounted_at_tree p id (at_id id p.mapped)

unmount_tree : (p : Plain) (at : Option ℕ) → (unmount_done p at).state.tree ≡ p.tree
unmount_tree p None = refl
unmount_tree p (Some id) = refl

carried_tree : (p : Plain) (command : KeyCmd) (tells : Told) → IsTree p.tree → refusal_of p command ≡ None → IsTree (done p command tells).state.tree
carried_tree p (commands.Create name opts) tells tree accepted =
    let is : IsFree p name opts = free p name opts accepted in
    IsTree-with_row p.tree name _ 0 tree is.absent is.parent (inl refl)
carried_tree p (commands.Load name check_only place) tells tree accepted = subst IsTree (sym (load_tree p check_only tells (target p (commands.Load name check_only place)))) tree
carried_tree p (commands.Unload name) tells tree accepted = subst IsTree (sym (unload_tree p (in_use p (commands.Unload name)) (target p (commands.Unload name)))) tree
carried_tree p (commands.Change name opts load_first) tells tree accepted = subst IsTree (sym (change_tree p opts tells (target p (commands.Change name opts load_first)))) tree
carried_tree p (commands.Inherit name load_first) tells tree accepted = subst IsTree (sym (inherit_tree p tells (target p (commands.Inherit name load_first)))) tree
carried_tree p (commands.Mount name) tells tree accepted = subst IsTree (sym (mount_tree p (target p (commands.Mount name)))) tree
carried_tree p (commands.Unmount name) tells tree accepted = subst IsTree (sym (unmount_tree p (target p (commands.Unmount name)))) tree
carried_tree p (commands.Get name prop) tells tree accepted = subst IsTree (sym (get_tree p prop (target p (commands.Get name prop)))) tree
carried_tree p (commands.Clone from name) tells tree accepted = clone_tree p from name tree accepted (target p (commands.Clone from name)) refl
carried_tree p (commands.Receive name props wrapped block) tells tree accepted = tree
carried_tree p (commands.Destroy name snaps) tells tree accepted =
    destroy_tree p name snaps tree accepted (in_use p (commands.Destroy name snaps)) (target p (commands.Destroy name snaps)) refl

pub step_tree : (p : Plain) (command : KeyCmd) (tells : Told) → IsTree p.tree → IsTree (key_step p command tells).state.tree
step_tree p command tells tree =
    by_step p command tells (λ (stepped : Stepped). IsTree stepped.state.tree) (λ accepted. carried_tree p command tells tree accepted.state) (λ why state. tree) (λ why material. tree)
