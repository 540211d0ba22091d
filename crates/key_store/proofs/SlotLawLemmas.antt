-- Commands that change no mapping leave the slots alone.
use Rattle.std.proofs.Common.{◌≡◌, ℕ, zero, suc, Bool, true, false, List, get_or, Option, Some, None, refl}
use Rattle.std.specs.Prelude.{replicate}
use Rattle.encryption_roots.specs.declared.command.KeyCmd.{KeyCmd}
use Rattle.encryption_roots.specs.declared.command.KeyCmd.TheVariants as commands
use Rattle.encryption_roots.specs.declared.props.Location.{Location}
use Rattle.encryption_roots.specs.declared.props.Options.{Options}
use Rattle.encryption_roots.specs.declared.props.Prop.{Prop}
use Rattle.mapping_words.specs.Told.{Told}
use Rattle.key_machine.specs.Change.{change_done}
use Rattle.key_machine.specs.Get.{get_done}
use Rattle.key_machine.specs.Inherit.{inherit_done}
use Rattle.key_machine.specs.Load.{load_done}
use Rattle.key_machine.specs.Plain.{Plain}
use Rattle.key_machine.specs.Reply.{Stepped}
use Rattle.key_machine.specs.Step.{key_step, target}
use Rattle.key_machine.specs.Told.{Told as KeyTold}
use Rattle.key_machine.proofs.SoundLemmas.{by_step, done}
use Rattle.key_store.specs.Agrees.{Agrees}

-- of a list of one value, at every place
pub all_same : {X : Type 0} (x : X) (n i : ℕ) → get_or (replicate n x) i x ≡ x
all_same x zero i = refl
all_same x (suc n) zero = refl
all_same x (suc n) (suc i) = all_same x n i

module _ (t : Told) (p : Plain) (told : KeyTold) (agrees : Agrees t p) where
  abbrev AgreesAfter : Stepped → Type 0
  AgreesAfter stepped = Agrees t stepped.state

  left_alone : (command : KeyCmd) → AgreesAfter (done p command told) → AgreesAfter (key_step p command told)
  left_alone command carried = by_step p command told AgreesAfter (λ accepted. carried) (λ why state. agrees) (λ why material. agrees)

  pub create_leaves : (name : List ℕ) (opts : Options) → AgreesAfter (key_step p (commands.Create name opts) told)
  create_leaves name opts = left_alone (commands.Create name opts) (record { slots = agrees.slots; each = agrees.each })

  loaded_leaves : (check_only : Bool) (at : Option ℕ) → AgreesAfter (load_done p check_only told at)
  loaded_leaves check_only None = agrees
  loaded_leaves true (Some root) = agrees
  loaded_leaves false (Some root) = record { slots = agrees.slots; each = agrees.each }

  pub load_leaves : (name : List ℕ) (check_only : Bool) (place : Option Location) → AgreesAfter (key_step p (commands.Load name check_only place) told)
  load_leaves name check_only place = left_alone (commands.Load name check_only place) (loaded_leaves check_only (target p (commands.Load name check_only place)))

  got_leaves : (prop : Prop) (at : Option ℕ) → AgreesAfter (get_done p prop at)
  got_leaves prop None = agrees
  got_leaves prop (Some id) = agrees

  pub get_leaves : (name : List ℕ) (prop : Prop) → AgreesAfter (key_step p (commands.Get name prop) told)
  get_leaves name prop = left_alone (commands.Get name prop) (got_leaves prop (target p (commands.Get name prop)))

  changed_leaves : (opts : Options) (at : Option ℕ) → AgreesAfter (change_done p opts told at)
  changed_leaves opts None = agrees
  changed_leaves opts (Some id) = record { slots = agrees.slots; each = agrees.each }

  pub change_leaves : (name : List ℕ) (opts : Options) (load_first : Bool) → AgreesAfter (key_step p (commands.Change name opts load_first) told)
  change_leaves name opts load_first = left_alone (commands.Change name opts load_first) (changed_leaves opts (target p (commands.Change name opts load_first)))

  inherited_leaves : (at : Option ℕ) → AgreesAfter (inherit_done p told at)
  inherited_leaves None = agrees
  inherited_leaves (Some id) = record { slots = agrees.slots; each = agrees.each }

  pub inherit_leaves : (name : List ℕ) (load_first : Bool) → AgreesAfter (key_step p (commands.Inherit name load_first) told)
  inherit_leaves name load_first = left_alone (commands.Inherit name load_first) (inherited_leaves (target p (commands.Inherit name load_first)))
