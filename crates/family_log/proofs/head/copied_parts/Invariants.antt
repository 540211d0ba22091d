use Rattle.std.proofs.Common.{◌≡◌, take}
use Rattle.family_log.proofs.head.copied_parts.Given as goal

abbrev pub invariant-parts : goal.invariant-parts
invariant-parts l = l.copies.items ≡ take l.part-index l.parts
