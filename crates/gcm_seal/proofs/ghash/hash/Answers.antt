use Rattle.std.proofs.Common.{rules, ◌≡◌, length, [], ◌++◌, length-append, arith, refl, ◌∙◌}
use Rattle.gcm_seal.specs.Gcm.{padded, lengths_block, hash_input}
use Rattle.gcm_seal.proofs.Hashing.{length-padded, padded_whole, ghash_value-empty, ghash_of}
use Rattle.gcm_seal.proofs.ghash.hash.Goals as goal

pub returns : goal.returns
unfolding hash_input
returns c =
    let a = padded c.args.aad.now in
    let s = padded c.args.sealed.now in
    let n = c.lengths.result in
    let h = c.from_be_bytes.result in
    let aad_done = c.absorb-after_aad.ensures h [] c.put_multiples.ensures refl (ghash_value-empty c.from_be_bytes.result) in
    let sealed_done = c.absorb-after_sealed.ensures h a c.put_multiples.ensures (omega (arith, length-padded c.args.aad.now)) aad_done in
    let lengths_done = c.absorb.ensures h (a ++ s) c.put_multiples.ensures
    (omega (arith, length-append a s, length-padded c.args.aad.now, length-padded c.args.sealed.now)) sealed_done in
    let whole : padded n ≡ lengths_block (length c.args.aad.now) (length c.args.sealed.now) = padded_whole n (search rules) ∙ c.lengths.ensures in
    ghash_of c.args.hash_subkey _ c.from_be_bytes.result c.absorb.result c.to_be_bytes.result c.from_be_bytes.ensures
    (rw whole at lengths_done) c.to_be_bytes.ensures
