-- What a clone answers, and what it leaves of others.
use Rattle.std.proofs.Common.{◌≡◌, ◌≢◌, ℕ, ◌+◌, List, Option, Some, None, refl, ap, ◌∙◌}
use Rattle.dataset_tree.specs.declared.kinds.Kind.TheVariants.{Crypt}
use Rattle.dataset_tree.specs.Tree.{with_row}
use Rattle.encryption_roots.specs.declared.command.KeyCmd.TheVariants as commands
use Rattle.encryption_roots.specs.ById.{at_id}
use Rattle.encryption_roots.specs.Owners.{family}
use Rattle.key_machine.specs.Clone.{cloned, clone_done}
use Rattle.key_machine.specs.Kept.{KeepsKey}
use Rattle.key_machine.specs.Plain.{Plain, Ciphers, owner_of, has_key_of, mkey}
use Rattle.key_machine.specs.Reply.{Stepped, Made}
use Rattle.key_machine.specs.Sound.{Sound, SoundTree, IsEncrypted}
use Rattle.key_machine.specs.Step.{refusal_of, target, key_step, IsAccepted}
use Rattle.key_machine.specs.Told.{Told}
use Rattle.key_machine.proofs.CloneLaws.{IsClonable, clonable, row, clone_grows, owner_of_clone, family_of_clone}
use Rattle.key_machine.proofs.CreateLawsGrown.{encrypted_apart, family_apart, owner_stays, family_stays}
use Rattle.key_machine.proofs.KeyLists.{at_id_is}
use Rattle.key_machine.proofs.MasterLaws.{master_alike}
use Rattle.key_machine.proofs.MountSteps.{kept_here}
use Rattle.key_machine.proofs.SoundLemmas.{by_step, accepted_step}

pub clone_step : (p : Plain) (from name : List ℕ) (told : Told) (origin : ℕ) → target p (commands.Clone from name) ≡ Some origin → IsAccepted p (commands.Clone from name) told
    → key_step p (commands.Clone from name) told ≡ (let stepped : Stepped = record { state = record p { tree = with_row p.tree name Crypt origin }; reply = Made (p.tree.last + 1) } in stepped)
clone_step p from name told origin found accepted = accepted_step p (commands.Clone from name) told accepted ∙ ap (λ at. clone_done p name at) found

-- ---- the others

module _ (p : Plain) (origin : ℕ) (name : List ℕ) (s : SoundTree p) (is : IsClonable p origin name) where
  other_owner : (id : ℕ) → id ≢ p.tree.last + 1 → owner_of (cloned p origin name) id ≡ owner_of p id
  other_owner id apart = owner_stays p (row p origin name s.tree is) p.roots p.wrapped p.loaded (clone_grows p origin name s.tree is) id apart

  other_family : (id : ℕ) → id ≢ p.tree.last + 1 → family (cloned p origin name).tree.rows id ≡ family p.tree.rows id
  other_family id apart = family_stays p (row p origin name s.tree is) p.roots p.wrapped p.loaded (clone_grows p origin name s.tree is) id apart

  old_apart : (id : ℕ) → IsEncrypted p id → id ≢ p.tree.last + 1
  old_apart id encrypted = encrypted_apart p (row p origin name s.tree is) p.roots p.wrapped p.loaded (clone_grows p origin name s.tree is) id encrypted

  old_family_apart : (id : ℕ) → IsEncrypted p id → family p.tree.rows id ≢ p.tree.last + 1
  old_family_apart id encrypted = family_apart p (row p origin name s.tree is) p.roots p.wrapped p.loaded (clone_grows p origin name s.tree is) id encrypted

  pub other_master : (c : Ciphers) (first : ℕ) → first ≢ p.tree.last + 1 → mkey c (cloned p origin name) first ≡ mkey c p first
  other_master c first apart = master_alike c p (cloned p origin name) first refl (other_owner first apart) (λ root owner. refl)

  pub origin_master : (c : Ciphers) → mkey c (cloned p origin name) (family p.tree.rows origin) ≡ mkey c p (family p.tree.rows origin)
  origin_master c = other_master c (family p.tree.rows origin) (old_family_apart origin is.encrypted)

  pub cloned_keeps : (c : Ciphers) (id slot : ℕ) → IsEncrypted p id → at_id id p.mapped ≡ Some slot → KeepsKey c p (cloned p origin name) id slot
  cloned_keeps c id slot encrypted there =
      let apart : id ≢ p.tree.last + 1 = old_apart id encrypted in
      let of : family (cloned p origin name).tree.rows id ≡ family p.tree.rows id = other_family id apart in
      record {
        mapped = there;
        generation = refl;
        owner = other_owner id apart;
        key = ap (λ (owner : Option ℕ). has_key_of p owner) (other_owner id apart);
        of_family = of;
        master = ap (λ (m : ℕ). mkey c (cloned p origin name) m) of ∙ other_master c (family p.tree.rows id) (old_family_apart id encrypted);
      }

-- ---- the clone

module _ (p : Plain) (from name : List ℕ) (told : Told) (origin : ℕ) (s : SoundTree p) (found : target p (commands.Clone from name) ≡ Some origin) (accepted : IsAccepted p (commands.Clone from name) told) where
  clone_is : IsClonable p origin name
  clone_is = clonable p from name origin s.tree accepted.state found

  abbrev step_state : (key_step p (commands.Clone from name) told).state ≡ cloned p origin name
  step_state = ap (λ (stepped : Stepped). stepped.state) (clone_step p from name told origin found accepted)

  pub clone_owner : owner_of (key_step p (commands.Clone from name) told).state (p.tree.last + 1) ≡ owner_of p origin
  clone_owner = ap (λ (q : Plain). owner_of q (p.tree.last + 1)) step_state ∙ owner_of_clone p origin name s.tree clone_is s

  pub clone_of_family : family (key_step p (commands.Clone from name) told).state.tree.rows (p.tree.last + 1) ≡ family p.tree.rows origin
  clone_of_family = ap (λ (q : Plain). family q.tree.rows (p.tree.last + 1)) step_state ∙ family_of_clone p origin name s.tree clone_is

  pub clone_master : (c : Ciphers) → mkey c (key_step p (commands.Clone from name) told).state (family p.tree.rows origin) ≡ mkey c p (family p.tree.rows origin)
  clone_master c = ap (λ (q : Plain). mkey c q (family p.tree.rows origin)) step_state ∙ origin_master p origin name s clone_is c

-- ---- a mapping keeps its key

clone_kept : (c : Ciphers) (p : Plain) (from name : List ℕ) (id slot : ℕ) → Sound c p → at_id id p.mapped ≡ Some slot → refusal_of p (commands.Clone from name) ≡ None → (found : Option ℕ)
    → target p (commands.Clone from name) ≡ found → KeepsKey c p (clone_done p name found).state id slot
clone_kept c p from name id slot s there accepted None at = kept_here c p id slot there
clone_kept c p from name id slot s there accepted (Some origin) at =
    cloned_keeps p origin name s.tree (clonable p from name origin s.tree.tree accepted at) c id slot (at_id_is (λ mapping. IsEncrypted p mapping.0) id p.mapped slot s.mappings.encrypted there) there

pub clone_keeps : (c : Ciphers) (p : Plain) (from name : List ℕ) (told : Told) (id slot : ℕ) → Sound c p → at_id id p.mapped ≡ Some slot → KeepsKey c p (key_step p (commands.Clone from name) told).state id slot
clone_keeps c p from name told id slot s there =
    by_step p (commands.Clone from name) told (λ stepped. KeepsKey c p stepped.state id slot)
    (λ accepted. clone_kept c p from name id slot s there accepted.state (target p (commands.Clone from name)) refl) (λ why state. kept_here c p id slot there) (λ why material. kept_here c p id slot there)
