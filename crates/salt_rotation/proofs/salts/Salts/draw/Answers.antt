use Rattle.std.proofs.Common.{◌+◌, ◌*◌, ◌^◌, refl, ap, ◌∙◌, arith}
use Rattle.salt_rotation.specs.SeedWords.{generator_at}
use Rattle.salt_rotation.specs.Salts.{iv_of}
use Rattle.salt_rotation.proofs.KeyStream.{fills}
use Rattle.salt_rotation.proofs.salts.Salts.draw.Goals as goal

pub invariant_of-self : goal.invariant_of-self
invariant_of-self c =
    let filled =
    fills c.self.inside.seed (2 ^ 60 + 3 * c.self.inside.made) 12 _ _ _
    c.self.invariant.at_next_vector (omega arith) c.fill_bytes_via_u32.ensures in
    let room = rw (← c.self.view_is) at c.requires in
    record {
      limit_positive = c.self.invariant.limit_positive;
      limit_fits = c.self.invariant.limit_fits;
      made_fits = omega (arith, room);
      at_next_vector = filled.1 ∙ ap (generator_at c.self.inside.seed) (omega arith);
      salt_kept = c.kept_or_computed-self-inside.ensures;
    }

pub returns-clause-value : goal.returns-clause-value
unfolding iv_of
returns-clause-value c =
    let filled =
    fills c.self.inside.seed (2 ^ 60 + 3 * c.self.inside.made) 12 _ _ _
    c.self.invariant.at_next_vector (omega arith) c.fill_bytes_via_u32.ensures in
    rw (← c.self.view_is, c.kept_or_computed-self-inside.ensures, filled.0) refl
