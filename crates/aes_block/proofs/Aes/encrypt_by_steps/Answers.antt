use Rattle.std.proofs.Common.{◌≡◌, ◌+◌, ◌-◌, suc, ap, ◌∙◌, arith}
use Rattle.aes_block.specs.Cipher.{add_round_key, cipher, mix_columns, shift_rows, state_after, sub_bytes}
use Rattle.aes_block.proofs.CipherLaws.{cipher_of_schedule}
use Rattle.aes_block.proofs.Aes.encrypt_by_steps.Goals as goal

pub rounds-init : goal.rounds-init
unfolding state_after
rounds-init g c = c.add_round_key.ensures

pub rounds-preserved : goal.rounds-preserved
unfolding state_after
rounds-preserved g c =
    let next : c.rounds.round + 1 - 1 ≡ suc (c.rounds.round - 1) = omega arith in
    let number : c.rounds.round ≡ suc (c.rounds.round - 1) = omega arith in
    rw next (c.add_round_key-in-rounds.ensures
    ∙ rw (c.mix_columns.ensures, c.shift_rows.ensures, c.sub_bytes.ensures, c.rounds.invariant)
    (ap (add_round_key (mix_columns (shift_rows (sub_bytes (state_after c.self.inside.words c.args.block.now (c.rounds.round - 1))))) c.self.inside.words) number))

pub returns : goal.returns
unfolding cipher
returns g c =
    let last : c.rounds.round ≡ g.row.NK + 6 = omega arith in
    c.add_round_key-2.ensures
    ∙ rw (c.shift_rows-2.ensures, c.sub_bytes-2.ensures, c.rounds.invariant, last)
    (cipher_of_schedule g.row.NK c.self.inside.words c.args.self.now c.args.block.now
    c.self.invariant.0 c.self.told.0 c.self.invariant.1 c.self.view_is)
