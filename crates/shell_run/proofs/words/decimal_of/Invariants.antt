use Rattle.std.proofs.Common.{◌≡◌, ◌<◌, ◌^◌, drop}
use Rattle.shell_lines.specs.Settings.{decimal_of}
use Rattle.shell_lines.proofs.DigitLemmas.{decimal_after}
use Rattle.shell_run.proofs.words.decimal_of.Given as goal

-- the digits that are left go on with the number, which has at most a digit for each of those before
abbrev pub invariant-loop-byte : goal.invariant-loop-byte
invariant-loop-byte l = (decimal_after l.number (drop l.byte-index l.text) ≡ decimal_of l.text) × (l.number < 10 ^ l.byte-index)
