use Rattle.std.proofs.Common.{◌≡◌, ◌++◌, take}
use Rattle.std.specs.List.{flat_map}
use Rattle.shell_run.specs.Texts.{map_line}
use Rattle.shell_run.proofs.reply.push_maps.Given as goal

-- the mappings so far
abbrev pub invariant-loop-entry : goal.invariant-loop-entry
invariant-loop-entry l = l.text.items ≡ l.fn.text.items ++ flat_map (map_line l.line l.tree.rows) (take l.entry-index l.maps)
