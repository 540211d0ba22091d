use Rattle.std.proofs.Common.{◌≡◌, take}
use Rattle.family_log.proofs.family.copied_log.Given as goal

abbrev pub invariant-entries : goal.invariant-entries
invariant-entries l = l.copies.items ≡ take l.entry-index l.log
