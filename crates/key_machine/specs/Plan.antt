-- A plan of new wrapping keys: the state that it makes, and when it is one of this state.
use Rattle.std.specs.Prelude.{◌≡◌, ℕ, List, map}
use Rattle.std.specs.declared.option.Option.{Option}
use Rattle.std.specs.declared.option.Option.TheVariants.{Some, None}
use Rattle.encryption_roots.specs.declared.command.KeyCmd.{KeyCmd}
use Rattle.encryption_roots.specs.declared.command.KeyCmd.TheVariants as commands
use Rattle.encryption_roots.specs.declared.kit.LineKit.{LineKit}
use Rattle.encryption_roots.specs.ById.{with_id, without_id}
use Rattle.key_machine.specs.declared.view.ChangePlan.{ChangePlan}
use Rattle.key_machine.specs.Plain.{Plain, Ciphers}
use Rattle.key_machine.specs.Rekey.{with_record}
use Rattle.key_machine.specs.Step.{told, key_step, IsAccepted}

-- with this value at the id, or with none
abbrev pub set_id : {X : Type 0} → ℕ → Option X → List (ℕ × X) → List (ℕ × X)
set_id id None entries = without_id id entries
set_id id (Some value) entries = with_id id value entries

-- The root has the plan's properties and its key is loaded, or it is no root and has none; each family of the
-- plan has the plan's record.
abbrev pub planned : Plain → ChangePlan → Plain
planned p plan = record p {
  roots = set_id plan.root plan.props p.roots;
  wrapped = map (λ entry. (entry.0, with_record plan.wrapped.items entry)) p.wrapped;
  loaded = set_id plan.root plan.key p.loaded;
}

-- the commands that plans are made for
abbrev pub IsRekeying : KeyCmd → Type 0
IsRekeying (commands.Create name opts) = ⊥
IsRekeying (commands.Load name check_only place) = ⊥
IsRekeying (commands.Unload name) = ⊥
IsRekeying (commands.Change name opts load_first) = Unit {0}
IsRekeying (commands.Inherit name load_first) = Unit {0}
IsRekeying (commands.Mount name) = ⊥
IsRekeying (commands.Unmount name) = ⊥
IsRekeying (commands.Get name prop) = ⊥
IsRekeying (commands.Clone from name) = ⊥
IsRekeying (commands.Receive name props wrapped block) = ⊥
IsRekeying (commands.Destroy name snaps) = ⊥

-- A plan is of a state where some `change-key` or `change-key -i` is accepted there, under what its kit
-- tells, and makes the planned state.
pub record IsPlanned (c : Ciphers) (p : Plain) (plan : ChangePlan) : Type 0 where
  pub command : KeyCmd
  pub kit : LineKit
  pub rekeying : IsRekeying command
  pub accepted : IsAccepted p command (told c p command kit)
  pub state : (key_step p command (told c p command kit)).state ≡ planned p plan
