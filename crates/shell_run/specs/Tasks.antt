-- What a line asks of the keystore: commands, one after another, and how it reports of them.
use Rattle.std.specs.Prelude.{ℕ, Bool, not, ◌||◌, List, [], ◌∷◌, map, if◌then◌else◌, Result, Ok, Err}
use Rattle.std.specs.declared.option.Option.{Option}
use Rattle.std.specs.declared.option.Option.TheVariants.{Some, None}
use Rattle.std.specs.List.{flat_map}
use Rattle.dataset_tree.specs.declared.refusal.Refusal.{Refusal}
use Rattle.dataset_tree.specs.declared.refusal.Refusal.TheVariants.{NoSuch}
use Rattle.dataset_tree.specs.declared.tree.Row.{Row}
use Rattle.dataset_tree.specs.SetName.{named}
use Rattle.dataset_tree.specs.Tree.{row_of, id_named}
use Rattle.encryption_roots.specs.declared.command.KeyCmd.{KeyCmd}
use Rattle.encryption_roots.specs.declared.command.KeyCmd.TheVariants as commands
use Rattle.encryption_roots.specs.Owned.{roots_below}
use Rattle.key_machine.specs.Plain.{Plain, has_key}
use Rattle.shell_run.specs.declared.task.Report.{Report}
use Rattle.shell_run.specs.declared.task.Report.TheVariants.{Replies, Roots, Refused}
use Rattle.shell_run.specs.declared.task.RootAction.{RootAction}
use Rattle.shell_run.specs.declared.task.RootAction.TheVariants.{Load, Unload}

-- the commands, in turn, and the report
pub record Asked : Type 0 where
  pub commands : List KeyCmd
  pub report : Report

abbrev pub no_command : Report → Asked
no_command report = record { commands = []; report = report }

abbrev pub one_command : KeyCmd → Asked
one_command command = record { commands = command ∷ []; report = Replies }

-- the command on the dataset that a word names, or why it names none
abbrev pub command_named : (List ℕ → KeyCmd) → Result (List ℕ) Refusal → Result KeyCmd Refusal
command_named command (Ok name) = Ok (command name)
command_named command (Err why) = Err why

-- what is asked of something that a line names, or why it names none
abbrev pub asked_if : {A : Type 0} → (A → Asked) → Result A Refusal → Asked
asked_if asked (Ok given) = asked given
asked_if asked (Err why) = no_command (Refused why)

abbrev pub on_name : (List ℕ → KeyCmd) → (word : List ℕ) → Asked
on_name command word = asked_if one_command (command_named command (named word))

-- ---- the roots of a line, by the state at its beginning

-- the roots at or below a dataset, in order of id
abbrev pub roots_under : Plain → Option ℕ → Result (List ℕ) Refusal
roots_under p None = Err NoSuch
roots_under p (Some id) = Ok (roots_below p.tree.rows p.roots id)

abbrev pub roots_named : Plain → Result (List ℕ) Refusal → Result (List ℕ) Refusal
roots_named p (Ok name) = roots_under p (id_named name p.tree.rows)
roots_named p (Err why) = Err why

abbrev pub all_roots : Plain → List ℕ
all_roots p = map (λ entry. entry.0) p.roots

-- A load that keeps the keys skips the roots whose key is loaded, an unload those whose key isn't.
abbrev pub is_tried : Plain → RootAction → ℕ → Bool
is_tried p (Load check_only) root = check_only || not (has_key p root)
is_tried p Unload root = has_key p root

abbrev pub root_command : RootAction → (name : List ℕ) → KeyCmd
root_command (Load check_only) name = commands.Load name check_only None
root_command Unload name = commands.Unload name

abbrev pub command_at : RootAction → Option Row → List KeyCmd
command_at action None = []
command_at action (Some row) = root_command action row.name ∷ []

abbrev pub command_on : Plain → RootAction → ℕ → List KeyCmd
command_on p action root = if is_tried p action root then command_at action (row_of root p.tree.rows) else []

-- a command for each of these roots that is tried
abbrev pub on_each : Plain → RootAction → List ℕ → Asked
on_each p action roots = record { commands = flat_map (command_on p action) roots; report = Roots }

abbrev pub on_roots : Plain → RootAction → Result (List ℕ) Refusal → Asked
on_roots p action roots = asked_if (on_each p action) roots
