use Rattle.std.proofs.Common.{◌≡◌, ◌+◌, ◌≤◌, ◌<◌, true, false, nat_le, nat_lt, length, refl, sym, arith}
use Rattle.std.proofs.lemmas.Bool.Decides.{nat_tests}
use Rattle.indirect_macs.specs.Runs.{target}
use Rattle.indirect_macs.proofs.replace.target.Goals as goal
use Rattle.indirect_macs.proofs.replace.target.Goals.{else-run-index-2-via-then-run-index-2+else-index-run, else-run-index-2-via-else-run-index-2}

pub returns-then-run-index : goal.returns-then-run-index
unfolding target
returns-then-run-index c = λ before is.
    let past : nat_le c.args.run.now.blocks c.args.index ≡ true = grind (arith, nat_tests) in
    rw past refl

pub returns-then-index-run : goal.returns-then-index-run
unfolding target
returns-then-index-run c = λ before is.
    let within : nat_le c.args.run.now.blocks c.args.index ≡ false = grind (arith, nat_tests) in
    let low : nat_le c.args.run.now.from c.args.index ≡ true = grind (arith, nat_tests) in
    let small : c.args.index < c.args.run.now.from + length c.args.run.now.refs.now = omega arith in
    let high : nat_lt c.args.index (c.args.run.now.from + length c.args.run.now.refs.now) ≡ true = grind (arith, nat_tests) in
    rw (within, low, high) refl

pub returns : goal.returns
unfolding target
returns c = λ before is.
    let within : nat_le c.args.run.now.blocks c.args.index ≡ false = grind (arith, nat_tests) in
    elim c.else-run-index-2.branch [
      | else-run-index-2-via-then-run-index-2+else-index-run w ↦
          let large : c.args.run.now.from + length c.args.run.now.refs.now ≤ c.args.index = omega arith in
          let low : nat_le c.args.run.now.from c.args.index ≡ true = grind (arith, nat_tests) in
          let high : nat_lt c.args.index (c.args.run.now.from + length c.args.run.now.refs.now) ≡ false = grind (arith, nat_tests) in
          rw (within, low, high) (sym is)
      | else-run-index-2-via-else-run-index-2 w ↦
          let low : nat_le c.args.run.now.from c.args.index ≡ false = grind (arith, nat_tests) in
          rw (within, low) (sym is)
    ]
