use Rattle.std.proofs.Common.{◌≡◌, take}
use Rattle.key_ciphers.specs.Ciphers.{ciphers}
use Rattle.change_key.specs.Records.{anew, numbered}
use Rattle.change_key.proofs.records.rewrapped.Given as goal

abbrev pub invariant-loop-number : goal.invariant-loop-number
invariant-loop-number g l = l.records.items ≡ numbered (anew ciphers (g.V.KeyView.shows l.state) l.seed l.old l.new) 0 (take l.number l.families)
