-- A new encryption root and a new heir, as the material of their command tells them.
use Rattle.std.specs.Prelude.{◌≡◌, ℕ, ◌+◌, List, ◌∷◌, [], true, is_some, Result, Ok, Err}
use Rattle.std.specs.declared.option.Option.TheVariants.{Some, None}
use Rattle.dataset_tree.specs.declared.refusal.Refusal.{Refusal as Why}
use Rattle.dataset_tree.specs.declared.refusal.Stop.{Stop}
use Rattle.dataset_tree.specs.declared.refusal.Stop.TheVariants as stops
use Rattle.encryption_roots.specs.declared.props.Options.{Options}
use Rattle.encryption_roots.specs.Props.{KeepsIterations}
use Rattle.encryption_roots.specs.RecordSize.{IsRecordSize}
use Rattle.wrapped_keys.specs.Stored.{parsed_record}
use Rattle.key_machine.specs.Create.{new_props, new_stored}
use Rattle.key_machine.specs.Told.{Told}
use Rattle.key_store.specs.declared.create.NewRoot.{NewRoot}
use Rattle.key_store.specs.declared.state.FamilyRecord.{FamilyRecord}
use Rattle.key_ciphers.specs.Ciphers.{ciphers}
use Rattle.key_store.specs.State.{stored_of}

-- What is told is no fault, and is this record, behind the last id, which opens under the key; record and
-- record size are in form.
pub record IsToldFamily (last : ℕ) (opts : Options) (facts : Told) (key : List ℕ) (family : FamilyRecord) : Type 0 where
  pub no_fault : facts.fault ≡ None
  pub written : facts.wrapped ≡ (last + 1, family.wrapped) ∷ []
  pub stored : new_stored (last + 1) opts facts ≡ stored_of family
  pub opens : is_some (ciphers.opens family.wrapped key) ≡ true
  pub in_form : is_some (parsed_record family.wrapped) ≡ true
  pub size : IsRecordSize family.block

-- What is told is this root: its key, its record, which opens under that, and its properties, in form.
pub record IsToldRoot (last : ℕ) (opts : Options) (facts : Told) (root : NewRoot) : Type 0 where
  pub family : IsToldFamily last opts facts root.key root.family
  pub key : facts.key ≡ root.key
  pub props : new_props opts facts ≡ root.props
  pub kept : KeepsIterations root.props

-- What is told is the record of an heir, under the key that it inherits, or the fault that a call answers.
abbrev pub GivesHeir : (last : ℕ) (opts : Options) (facts : Told) (key : List ℕ) → Result FamilyRecord Why → Type 0
GivesHeir last opts facts key (Ok family) = IsToldFamily last opts facts key family
GivesHeir last opts facts key (Err why) = facts.fault ≡ Some why

-- What is told is the fault that a call answers.
abbrev pub TellsFault : {T : Type 0} → Told → Result T Stop → Type 0
TellsFault facts (Ok _) = Unit {0}
TellsFault facts (Err (stops.Refused why)) = facts.fault ≡ Some why
TellsFault facts (Err stops.NoMemory) = Unit {0}
