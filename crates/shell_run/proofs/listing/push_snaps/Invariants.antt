use Rattle.std.proofs.Common.{◌≡◌, ◌++◌, take}
use Rattle.std.specs.List.{flat_map}
use Rattle.shell_run.specs.Texts.{snap_line}
use Rattle.shell_run.proofs.listing.push_snaps.Given as goal

-- the rows so far
abbrev pub invariant-loop-part : goal.invariant-loop-part
invariant-loop-part l = l.text.items ≡ l.fn.text.items ++ flat_map (snap_line l.line l.set) (take l.part-index l.parts)
