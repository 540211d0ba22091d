use Rattle.std.proofs.Common.{◌≡◌, ◌-◌, length, ℕ, List, ◌++◌, drop, replicate, refl, sym, ap, ◌∙◌, arith}
use Rattle.std.proofs.lemmas.List.{append-nil}
use Rattle.gcm_seal.specs.Gcm.{number_of}
use Rattle.gcm_seal.proofs.Hashing.{number_of_block, padded_block}
use Rattle.gcm_seal.proofs.ghash.padded_number.Goals as goal

pub returns-then-part-eq-BLOCK_LEN : goal.returns-then-part-eq-BLOCK_LEN
returns-then-part-eq-BLOCK_LEN c =
    let x = c.args.part.now in
    let none : 16 - length x ≡ 0 = omega arith in
    c.whole_number.ensures ∙ ap number_of (sym (rw none (append-nil x)))

pub returns : goal.returns
returns c =
    let x = c.args.part.now in
    number_of_block _ c.from_be_bytes.result c.from_be_bytes.ensures
    ∙ ap number_of (ap (λ (r : List ℕ). r ++ drop (length x) (replicate 16 0)) c.copy_from_slice.ensures.after ∙ padded_block x (length x) c.requires refl)
