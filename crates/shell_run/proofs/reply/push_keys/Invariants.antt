use Rattle.std.proofs.Common.{◌≡◌, ◌++◌, take}
use Rattle.std.specs.List.{flat_map}
use Rattle.shell_run.specs.Texts.{count_line}
use Rattle.shell_run.proofs.reply.push_keys.Given as goal

-- the keys so far
abbrev pub invariant-loop-entry : goal.invariant-loop-entry
invariant-loop-entry l = l.text.items ≡ l.fn.text.items ++ flat_map (count_line l.line l.kind l.tree.rows) (take l.entry-index l.keys)
