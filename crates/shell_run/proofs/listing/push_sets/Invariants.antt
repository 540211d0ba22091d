use Rattle.std.proofs.Common.{◌≡◌, ◌++◌, take}
use Rattle.std.specs.List.{flat_map}
use Rattle.shell_run.specs.Reports.{listed}
use Rattle.shell_run.proofs.listing.push_sets.Given as goal

-- the rows so far
abbrev pub invariant-loop-row : goal.invariant-loop-row
invariant-loop-row g l = l.text.items ≡ l.fn.text.items ++ flat_map (listed l.line l.host) (take l.row-index l.rows)
