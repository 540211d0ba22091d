use Rattle.std.proofs.Common.{◌≡◌, ℕ, List, [], ◌∷◌, ◌++◌, ◌∙◌, subst, append_assoc}
use Rattle.std.proofs.lemmas.List.{append-nil}
use Rattle.sha2.specs.Hashers.{Holds512}
use Rattle.byte_fields.specs.LittleEndian.{little_endian_bytes}
use Rattle.indirect_macs.proofs.entry.update_block.Goals as goal

pieces : (covered size salt iv mac : List ℕ) → ((((covered ++ 1 ∷ []) ++ size) ++ salt) ++ iv) ++ mac ≡ covered ++ ((((1 ∷ size) ++ salt) ++ iv) ++ mac)
pieces covered size salt iv mac = simp append_assoc

pub returns-in-Some : goal.returns-in-Some
returns-in-Some c covered held =
    let size : c.put_u32.new.bytes ≡ little_endian_bytes 4 c.in-Some.block.size = c.put_u32.ensures ∙ append-nil _ in
    let last = c.update-in-Some-4.ensures _ (c.update-in-Some-3.ensures _ (c.update-in-Some-2.ensures _ (c.update-in-Some.ensures _ (c.update.ensures covered held)))) in
    rw (c.in-Some.is, ← size) (subst (λ (m : List ℕ). Holds512 c.update-in-Some-4.new.self m) (pieces covered c.put_u32.new.bytes _ _ _) last)
