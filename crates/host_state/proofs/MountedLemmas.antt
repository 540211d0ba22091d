-- A mounted dataset has a family, that family's opened master key, and a head.
use Rattle.std.proofs.Common.{◌≡◌, ⊎_elim, ℕ, Bool, true, false, cond, ◌==◌, ◌&&◌, List, [], ◌∷◌, Option, Some, None, is_some, is_none, IfSome, refl, ap, sym, ◌∙◌, subst}
use Rattle.std.proofs.lemmas.Bool.{cases_Bool, eq-eqb, eqb-true}
use Rattle.std.proofs.lemmas.List.Elements.{All-head, All-tail}
use Rattle.std.specs.List.{All, list_any}
use Rattle.std.specs.Option.{option_map}
use Rattle.dataset_tree.specs.declared.tree.Row.{Row as Dataset}
use Rattle.dataset_tree.specs.Tree.{id_named, row_named}
use Rattle.encryption_roots.specs.ById.{at_id}
use Rattle.encryption_roots.specs.Owners.{family}
use Rattle.family_log.specs.Model.{FamilyState, head_of}
use Rattle.file_dataset.specs.declared.command.FileCmd.{FileCmd}
use Rattle.key_ciphers.specs.Ciphers.{ciphers}
use Rattle.key_machine.specs.Counts.{is_opened}
use Rattle.key_machine.specs.Plain.{Master, Plain, mkey}
use Rattle.key_machine.specs.Sound.{IsEncrypted, Sound}
use Rattle.key_machine.specs.Unmount.{unmount_cases}
use Rattle.key_machine.specs.Users.{is_mounted}
use Rattle.key_machine.proofs.CreateLawsStep.{NoneHolds, none_holds}
use Rattle.key_machine.proofs.MountLaws.{unmountable}
use Rattle.key_machine.proofs.MountSteps.{opened_where}
use Rattle.key_machine.proofs.NamedLaws.{encrypted_named, named}
use Rattle.key_store.specs.State.{opened_key}
use Rattle.key_store.proofs.OpenedLemmas.{opened_has_master}
use Rattle.host_state.specs.FileLines.{file_refusal, on_family, set_of}
use Rattle.host_state.specs.Hosts.{HasDatasets, HostState, IsHost, KeyFacts, facts_of_family, facts_of_record, is_member}
use Rattle.host_state.specs.Mounted.{HasHead, IsCalled}
use Rattle.host_state.proofs.FileLemmas.{at_by_id, step_is}

some_there : {X : Type 0} (found : Option X) → is_some found ≡ true → (x : X) × (found ≡ Some x)
some_there None some = absurd (cc)
some_there (Some x) some = (x, refl)

some_mapped : {X Y : Type 0} (f : X → Y) (found : Option X) → is_some (option_map f found) ≡ is_some found
some_mapped f None = refl
some_mapped f (Some x) = refl

pub heads_are : (h : HostState) (of id : ℕ) (state : FamilyState) → IsHost h.tells h.keys h.families h.limit → at_id of h.families ≡ Some state → is_some (head_of id state.heads) ≡ is_member h.keys.tree.rows of id
heads_are h of id state host found = subst (λ (f : Option FamilyState). IfSome f (HasDatasets h.keys.tree.rows of)) found (host.datasets of) id

-- an encrypted dataset has a family and its head
pub has_head : (h : HostState) (id : ℕ) → IsHost h.tells h.keys h.families h.limit → Sound ciphers h.keys → IsEncrypted h.keys id → HasHead h id
has_head h id host sound encrypted =
    let of : ℕ = family h.keys.tree.rows id in
    let record_is : is_some (at_id of h.keys.wrapped) ≡ true = (sound.tree.families of).1 (id, encrypted, refl) in
    let same : option_map facts_of_family (at_id of h.families) ≡ option_map facts_of_record (at_id of h.keys.wrapped) =
    sym (at_by_id facts_of_family of h.families) ∙ ap (λ (es : List (ℕ × KeyFacts)). at_id of es) host.paired ∙ at_by_id facts_of_record of h.keys.wrapped in
    let family_is : is_some (at_id of h.families) ≡ true =
    sym (some_mapped facts_of_family (at_id of h.families)) ∙ ap (λ (f : Option KeyFacts). is_some f) same ∙ some_mapped facts_of_record (at_id of h.keys.wrapped) ∙ record_is in
    let state = some_there (at_id of h.families) family_is in
    let member : is_member h.keys.tree.rows of id ≡ true =
    ap (λ (f : Option Dataset). is_some f && (of == of)) encrypted.1 ∙ eq-eqb of of refl in
    let head = some_there (head_of id state.0.heads) (heads_are h of id state.0 host state.1 ∙ member) in
    record { state = state.0; head = head.0; of_family = state.1; of_head = head.1 }

-- ---- a mounted dataset

mounted_has : (P : ℕ → Type 0) (id : ℕ) (mounted : List ℕ) → All P mounted → list_any (λ other. other == id) mounted ≡ true → P id
mounted_has P id [] all any = absurd (cc)
mounted_has P id (other ∷ mounted) all any = ⊎_elim (λ (same : (other == id) ≡ true). subst P (eqb-true other id same) (All-head P other mounted all))
    (λ (apart : (other == id) ≡ false). mounted_has P id mounted (All-tail P other mounted all) (rw apart at any)) (cases_Bool (other == id))

id_there : (set : List ℕ) (rows : List Dataset) → is_none (row_named set rows) ≡ false → (id : ℕ) × (id_named set rows ≡ Some id)
id_there set rows there = by (row_named set rows) there where
  by : (found : Option Dataset) → is_none found ≡ false → (id : ℕ) × (option_map (λ (row : Dataset). row.id) found ≡ Some id)
  by None there = absurd (cc)
  by (Some row) there = (row.id, refl)

-- the family's key of a mounted dataset
key_there : (p : Plain) (id : ℕ) → Sound ciphers p → is_mounted p id ≡ true → (key : Master) × (opened_key p (family p.tree.rows id) ≡ Some key)
key_there p id sound mounted =
    let of : ℕ = family p.tree.rows id in
    let mapped : is_some (at_id id p.mapped) ≡ true = mounted_has (λ other. is_some (at_id other p.mapped) ≡ true) id p.mounted sound.mappings.mounts mounted in
    let opened : is_opened p of ≡ true = (opened_where p of).1 (id, mapped, refl) in
    let key = some_there (mkey ciphers p of) (opened_has_master ciphers p of sound opened) in
    (key.0, ap (λ (b : Bool). cond b (mkey ciphers p of) None) opened ∙ key.1)

pub is_called : (h : HostState) (command : FileCmd) → IsHost h.tells h.keys h.families h.limit → Sound ciphers h.keys → file_refusal h.keys (set_of command) ≡ None → IsCalled h command
is_called h command host sound free =
    let none : NoneHolds (unmount_cases h.keys (set_of command)) = none_holds (unmount_cases h.keys (set_of command)) free in
    let id = id_there (set_of command) h.keys.tree.rows none.0 in
    let of : ℕ = family h.keys.tree.rows id.0 in
    let encrypted : IsEncrypted h.keys id.0 = encrypted_named h.keys (set_of command) id.0 sound.tree.tree (named h.keys (set_of command) id.0 id.1) none.1.0 in
    let has : HasHead h id.0 = has_head h id.0 host sound encrypted in
    let key = key_there h.keys id.0 sound (unmountable h.keys (set_of command) id.0 free id.1) in
    record {
      id = id.0;
      key = key.0;
      named = id.1;
      has = has;
      opened = key.1;
      step = step_is h command id.0 free id.1
          ∙ ap (λ (found : Option FamilyState). on_family h id.0 of command found (opened_key h.keys of)) has.of_family
          ∙ ap (λ (k : Option Master). on_family h id.0 of command (Some has.state) k) key.1;
    }
