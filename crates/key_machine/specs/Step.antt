-- The step of a key command, by its command: its refusals, what it takes, what that tells, and its effect. A
-- refused command changes nothing, but that an unload which is busy has closed the idle mappings before the
-- busy one.
use Rattle.std.specs.Prelude.{◌≡◌, ℕ, List, []}
use Rattle.std.specs.declared.option.Option.{Option}
use Rattle.std.specs.declared.option.Option.TheVariants.{Some, None}
use Rattle.std.specs.Option.{option_and_then}
use Rattle.dataset_tree.specs.declared.refusal.Refusal.{Refusal}
use Rattle.dataset_tree.specs.Tree.{id_named}
use Rattle.encryption_roots.specs.declared.command.KeyCmd.{KeyCmd}
use Rattle.encryption_roots.specs.declared.command.KeyCmd.TheVariants as commands
use Rattle.encryption_roots.specs.declared.kit.LineKit.{LineKit}
use Rattle.key_machine.specs.Change.{change_cases, change_material, change_wanted, told_change, change_done}
use Rattle.key_machine.specs.Clone.{clone_cases, clone_done}
use Rattle.key_machine.specs.Create.{create_cases, create_material, create_wanted, told_create, create_done}
use Rattle.key_machine.specs.Destroy.{destroy_cases, destroy_done}
use Rattle.key_machine.specs.Get.{get_cases, get_done}
use Rattle.key_machine.specs.Inherit.{inherit_cases, inherit_material, inherit_wanted, told_inherit, inherit_done}
use Rattle.key_machine.specs.Load.{load_cases, load_material, load_wanted, told_load, load_done}
use Rattle.key_machine.specs.Mount.{mount_cases, mount_done}
use Rattle.key_machine.specs.Plain.{Plain, Ciphers}
use Rattle.key_machine.specs.Reap.{own_in_use}
use Rattle.key_machine.specs.Refusals.{first_of, first_refusal, not_built}
use Rattle.key_machine.specs.Reply.{Stepped, refused, unless_refused}
use Rattle.key_machine.specs.Told.{Wanted, nothing_wanted, Told, nothing_told}
use Rattle.key_machine.specs.Unload.{InUse, first_in_use, unload_cases, unload_done}
use Rattle.key_machine.specs.Unmount.{unmount_cases, unmount_done}

-- the refusal that the state decides
abbrev pub refusal_of : Plain → KeyCmd → Option Refusal
refusal_of p (commands.Create name opts) = first_of (create_cases p name opts)
refusal_of p (commands.Load name check_only place) = first_of (load_cases p name check_only)
refusal_of p (commands.Unload name) = first_of (unload_cases p name)
refusal_of p (commands.Change name opts load_first) = first_of (change_cases p name opts load_first)
refusal_of p (commands.Inherit name load_first) = first_of (inherit_cases p name load_first)
refusal_of p (commands.Mount name) = first_of (mount_cases p name)
refusal_of p (commands.Unmount name) = first_of (unmount_cases p name)
refusal_of p (commands.Get name prop) = first_of (get_cases p name)
refusal_of p (commands.Clone from name) = first_of (clone_cases p from name)
refusal_of p (commands.Receive name props wrapped block) = Some not_built
refusal_of p (commands.Destroy name snaps) = first_of (destroy_cases p name snaps)

-- what a command takes that the state doesn't refuse
abbrev pub wanted : Plain → KeyCmd → Wanted
wanted p (commands.Create name opts) = create_wanted p name opts
wanted p (commands.Load name check_only place) = load_wanted p name place
wanted p (commands.Unload name) = nothing_wanted
wanted p (commands.Change name opts load_first) = change_wanted p name opts load_first
wanted p (commands.Inherit name load_first) = inherit_wanted p name load_first
wanted p (commands.Mount name) = nothing_wanted
wanted p (commands.Unmount name) = nothing_wanted
wanted p (commands.Get name prop) = nothing_wanted
wanted p (commands.Clone from name) = nothing_wanted
wanted p (commands.Receive name props wrapped block) = nothing_wanted
wanted p (commands.Destroy name snaps) = nothing_wanted

-- what that tells
abbrev pub told : Ciphers → Plain → KeyCmd → LineKit → Told
told c p (commands.Create name opts) kit = told_create c p name opts kit
told c p (commands.Load name check_only place) kit = told_load c p kit (id_named name p.tree.rows)
told c p (commands.Unload name) kit = nothing_told
told c p (commands.Change name opts load_first) kit = told_change c p opts load_first kit (id_named name p.tree.rows)
told c p (commands.Inherit name load_first) kit = told_inherit c p load_first kit (id_named name p.tree.rows)
told c p (commands.Mount name) kit = nothing_told
told c p (commands.Unmount name) kit = nothing_told
told c p (commands.Get name prop) kit = nothing_told
told c p (commands.Clone from name) kit = nothing_told
told c p (commands.Receive name props wrapped block) kit = nothing_told
told c p (commands.Destroy name snaps) kit = nothing_told

-- the refusals that what is told decides, in the command's order
abbrev pub material_cases : Plain → KeyCmd → Told → List (Option Refusal)
material_cases p (commands.Create name opts) told = create_material told
material_cases p (commands.Load name check_only place) told = load_material told
material_cases p (commands.Unload name) told = []
material_cases p (commands.Change name opts load_first) told = change_material told
material_cases p (commands.Inherit name load_first) told = inherit_material p name told
material_cases p (commands.Mount name) told = []
material_cases p (commands.Unmount name) told = []
material_cases p (commands.Get name prop) told = []
material_cases p (commands.Clone from name) told = []
material_cases p (commands.Receive name props wrapped block) told = []
material_cases p (commands.Destroy name snaps) told = []

abbrev pub material_refusal : Plain → KeyCmd → Told → Option Refusal
material_refusal p command told = first_refusal (material_cases p command told)

-- the dataset that a command is about, where it is there; for a clone, that which it is made from
abbrev pub target : Plain → KeyCmd → Option ℕ
target p (commands.Create name opts) = None
target p (commands.Load name check_only place) = id_named name p.tree.rows
target p (commands.Unload name) = id_named name p.tree.rows
target p (commands.Change name opts load_first) = id_named name p.tree.rows
target p (commands.Inherit name load_first) = id_named name p.tree.rows
target p (commands.Mount name) = id_named name p.tree.rows
target p (commands.Unmount name) = id_named name p.tree.rows
target p (commands.Get name prop) = id_named name p.tree.rows
target p (commands.Clone from name) = id_named from p.tree.rows
target p (commands.Receive name props wrapped block) = None
target p (commands.Destroy name snaps) = id_named name p.tree.rows

-- the effect, by what the command's closes found
abbrev pub carried_out : Plain → KeyCmd → Told → Option InUse → Option ℕ → Stepped
carried_out p (commands.Create name opts) told found at = create_done p name opts told
carried_out p (commands.Load name check_only place) told found at = load_done p check_only told at
carried_out p (commands.Unload name) told found at = unload_done p found at
carried_out p (commands.Change name opts load_first) told found at = change_done p opts told at
carried_out p (commands.Inherit name load_first) told found at = inherit_done p told at
carried_out p (commands.Mount name) told found at = mount_done p at
carried_out p (commands.Unmount name) told found at = unmount_done p at
carried_out p (commands.Get name prop) told found at = get_done p prop at
carried_out p (commands.Clone from name) told found at = clone_done p name at
carried_out p (commands.Receive name props wrapped block) told found at = refused p not_built
carried_out p (commands.Destroy name snaps) told found at = destroy_done p found at

-- what the closes of a command find by the plain state's own users: those of a root's mappings, where its key
-- is unloaded, and that of a dataset's own, where it is destroyed
abbrev pub in_use : Plain → KeyCmd → Option InUse
in_use p (commands.Create name opts) = None
in_use p (commands.Load name check_only place) = None
in_use p (commands.Unload name) = option_and_then (first_in_use p) (id_named name p.tree.rows)
in_use p (commands.Change name opts load_first) = None
in_use p (commands.Inherit name load_first) = None
in_use p (commands.Mount name) = None
in_use p (commands.Unmount name) = None
in_use p (commands.Get name prop) = None
in_use p (commands.Clone from name) = None
in_use p (commands.Receive name props wrapped block) = None
in_use p (commands.Destroy name snaps) = option_and_then (own_in_use p) (id_named name p.tree.rows)

-- the step of a command whose closes found this mapping in use, or none
abbrev pub key_step_found : Option InUse → Plain → KeyCmd → Told → Stepped
key_step_found found p command told =
    unless_refused p (refusal_of p command)
    (unless_refused p (material_refusal p command told) (carried_out p command told found (target p command)))

-- the step of a plain state
abbrev pub key_step : Plain → KeyCmd → Told → Stepped
key_step p command told = key_step_found (in_use p command) p command told

-- neither the state nor the material refuses the command
pub record IsAccepted (p : Plain) (command : KeyCmd) (told : Told) : Type 0 where
  pub state : refusal_of p command ≡ None
  pub material : material_refusal p command told ≡ None
