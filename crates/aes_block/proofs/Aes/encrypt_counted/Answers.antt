use Rattle.std.proofs.Common.{◌≡◌, ◌+◌, ◌-◌, suc, List, ℕ, refl, ap, ◌∙◌, arith}
use Rattle.aes_block.specs.Cipher.{add_round_key, cipher, mix_columns, shift_rows, state_after, sub_bytes}
use Rattle.aes_block.proofs.CipherLaws.{cipher_of_schedule}
use Rattle.aes_block.proofs.Aes.encrypt_counted.Goals as goal

pub rounds-init : goal.rounds-init
unfolding state_after
rounds-init g c = (c.add_round_key.ensures, omega arith)

pub rounds-preserved : goal.rounds-preserved
unfolding state_after
rounds-preserved g c =
    let w = c.self.inside.words in
    let r = c.rounds.round in
    let next : r + 1 - 1 ≡ suc (r - 1) = omega arith in
    let number : r ≡ suc (r - 1) = omega arith in
    let before = state_after w c.args.block.now (r - 1) in (
      c.counted_round.ensures.round
          ∙ ap (λ (s : List ℕ). add_round_key (mix_columns (shift_rows (sub_bytes s))) w r) c.rounds.invariant.0
          ∙ ap (add_round_key (mix_columns (shift_rows (sub_bytes before))) w) number
          ∙ rw next refl,
      c.counted_round.ensures.counted ∙ omega (arith, c.rounds.invariant.1),
    )

pub returns : goal.returns
unfolding cipher
returns g c =
    let last : c.rounds.round ≡ g.row.NK + 6 = omega arith in
    record {
      encrypted =
          c.add_round_key-2.ensures
          ∙ rw (c.shift_rows.ensures, c.counted_sub_bytes.ensures.substituted, c.rounds.invariant.0, last)
          (cipher_of_schedule g.row.NK c.self.inside.words c.args.self.now c.args.block.now
          c.self.invariant.0 c.self.told.0 c.self.invariant.1 c.self.view_is);
      counted = c.counted_sub_bytes.ensures.counted ∙ omega (arith, c.rounds.invariant.1);
    }
