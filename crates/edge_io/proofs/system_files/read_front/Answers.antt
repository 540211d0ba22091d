use Rattle.std.proofs.Common.{◌≡◌, ℕ, ◌+◌, ◌-◌, ◌≤◌, List, ◌++◌, length, take, drop, sym, ap, ◌∙◌, subst, rules, drop_at, length-take-le}
use Rattle.std.proofs.lemmas.List.{take_at}
use Rattle.std.proofs.KnownBytes.{Consumes-trans}
use Rattle.std.specs.Io.KnownBytes.{Consumes}
use borrow.Rule.Slice.PartMut.{put_mid, post_of}
use lib.Seq.{take-add, take-append-le}
use Rattle.edge_io.proofs.system_files.read_front.Goals as goal

-- the bytes that came before and those of one read, in a slice that is written from `at` on
take_read : (out piece : List ℕ) (at room count : ℕ) → at ≤ length out → count ≤ length piece
    → take at out ++ take count piece ≡ take (at + count) (put_mid at room out piece)
take_read out piece at room count within fits =
    let rest = piece ++ post_of at room out in
    let len = length-take-le at out within in
    let front : take at (take at out ++ rest) ≡ take at out = take_at (take at out) rest at len in
    let back : take count (drop at (take at out ++ rest)) ≡ take count piece =
    ap (take count) (drop_at (take at out) rest at len) ∙ take-append-le count piece (post_of at room out) fits in
    sym (take-add at count (take at out ++ rest) ∙ ap (λ l. l ++ take count (drop at (take at out ++ rest))) front ∙ ap (λ l. take at out ++ l) back)

pub loop-len-preserved : goal.loop-len-preserved
loop-len-preserved g c =
    let at = c.loop-len.len in
    let both = Consumes-trans _ _ _ _ _ c.loop-len.invariant.moved c.in_ok-count.ensures.bytes.0 in
    record {
      within = search rules;
      moved = subst (Consumes _ _) (take_read c.loop-len.out c.read.new.buf at (length c.loop-len.out - at) c.in_ok-count.count c.loop-len.invariant.within c.in_ok-count.ensures.bound.0) both;
    }
