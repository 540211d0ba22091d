use Rattle.std.proofs.Common.{length, arith}
use Rattle.salt_rotation.proofs.KeyStream.{moved, fills}
use Rattle.salt_rotation.proofs.seed_words.SeedWords.fill.Goals as goal

pub returns : goal.returns
returns c =
    let there = moved c.self.inside.seed c.args.place _ _ _ c.from_seed-stream.ensures c.set_word_pos.ensures c.from.ensures (omega arith) in
    let filled = fills c.self.inside.seed c.args.place (length c.args.out.now) _ _ _ there (omega arith) c.fill_bytes_via_u32.ensures in
    rw (← c.self.view_is) filled.0
