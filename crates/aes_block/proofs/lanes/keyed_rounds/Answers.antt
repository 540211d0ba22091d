use Rattle.std.proofs.Common.{◌≡◌, ◌+◌, arith}
use Rattle.aes_block.proofs.lanes.keyed_rounds.Goals as goal
use Rattle.aes_block.proofs.lanes.keyed_rounds.Goals.{in-4, in-6, in_default}

pub returns : goal.returns
returns g c = λ w s towers bytes lanes.
    elim c.match-this.branch [
      | in-4 a ↦
          let after_1 = a.keyed_round.ensures w s towers bytes lanes in
          let after_2 = a.keyed_round-in-4.ensures w s towers bytes after_1 in
          let after_3 = a.keyed_round-in-4-2.ensures w s towers bytes after_2 in
          let after_4 = a.keyed_round-in-4-3.ensures w s towers bytes after_3 in
          let after_5 = a.keyed_round-in-4-4.ensures w s towers bytes after_4 in
          let after_6 = a.keyed_round-in-4-5.ensures w s towers bytes after_5 in
          let after_7 = a.keyed_round-in-4-6.ensures w s towers bytes after_6 in
          let after_8 = a.keyed_round-in-4-7.ensures w s towers bytes after_7 in
          let after_9 = a.keyed_round-in-4-8.ensures w s towers bytes after_8 in
          let last : g.row.NK + 5 ≡ 9 = omega (arith, a.in-4) in
          rw (a.result-is, last) after_9
      | in-6 a ↦
          let after_1 = a.keyed_round-in-6.ensures w s towers bytes lanes in
          let after_2 = a.keyed_round-in-6-2.ensures w s towers bytes after_1 in
          let after_3 = a.keyed_round-in-6-3.ensures w s towers bytes after_2 in
          let after_4 = a.keyed_round-in-6-4.ensures w s towers bytes after_3 in
          let after_5 = a.keyed_round-in-6-5.ensures w s towers bytes after_4 in
          let after_6 = a.keyed_round-in-6-6.ensures w s towers bytes after_5 in
          let after_7 = a.keyed_round-in-6-7.ensures w s towers bytes after_6 in
          let after_8 = a.keyed_round-in-6-8.ensures w s towers bytes after_7 in
          let after_9 = a.keyed_round-in-6-9.ensures w s towers bytes after_8 in
          let after_10 = a.keyed_round-in-6-10.ensures w s towers bytes after_9 in
          let after_11 = a.keyed_round-in-6-11.ensures w s towers bytes after_10 in
          let last : g.row.NK + 5 ≡ 11 = omega (arith, a.in-6) in
          rw (a.result-is, last) after_11
      | in_default a ↦
          let after_1 = a.keyed_round-in_default.ensures w s towers bytes lanes in
          let after_2 = a.keyed_round-in_default-2.ensures w s towers bytes after_1 in
          let after_3 = a.keyed_round-in_default-3.ensures w s towers bytes after_2 in
          let after_4 = a.keyed_round-in_default-4.ensures w s towers bytes after_3 in
          let after_5 = a.keyed_round-in_default-5.ensures w s towers bytes after_4 in
          let after_6 = a.keyed_round-in_default-6.ensures w s towers bytes after_5 in
          let after_7 = a.keyed_round-in_default-7.ensures w s towers bytes after_6 in
          let after_8 = a.keyed_round-in_default-8.ensures w s towers bytes after_7 in
          let after_9 = a.keyed_round-in_default-9.ensures w s towers bytes after_8 in
          let after_10 = a.keyed_round-in_default-10.ensures w s towers bytes after_9 in
          let after_11 = a.keyed_round-in_default-11.ensures w s towers bytes after_10 in
          let after_12 = a.keyed_round-in_default-12.ensures w s towers bytes after_11 in
          let after_13 = a.keyed_round-in_default-13.ensures w s towers bytes after_12 in
          let last : g.row.NK + 5 ≡ 13 = omega (arith, c.requires, a.in_default) in
          rw (a.result-is, last) after_13
    ]
