use Rattle.std.proofs.Common.{◌≡◌, ℕ, ◌+◌, ◌≤◌, List, ◌++◌, length, take, drop, sym, ap, ◌∙◌, arith, take-append-drop}
use Rattle.std.proofs.lemmas.List.{drop-drop, length-take-le, take_at, take_rest}
use Rattle.edge_io.specs.Memory.{InMemory}
use Rattle.edge_io.proofs.memory.MemSourceSource.read.Goals as goal

-- the bytes left are those that were copied and those after them
copied_first : (items left copied out : List ℕ) (start n : ℕ) → drop start items ≡ left → copied ≡ take n (drop start items) → n ≤ length (drop start items)
    → left ≡ take n (copied ++ drop n out) ++ drop (start + n) items
copied_first items left copied out start n view is within =
    let len : length copied ≡ n = ap length is ∙ length-take-le n (drop start items) within in
    sym view ∙ sym (take-append-drop n (drop start items))
    ∙ ap (λ l. l ++ drop n (drop start items)) (sym is ∙ sym (take_at copied (drop n out) n len))
    ∙ ap (λ l. take n (copied ++ drop n out) ++ l) (drop-drop n start items)

pub returns-clause-moved : goal.returns-clause-moved
returns-clause-moved c =
    let bytes = c.deref.result.now in
    let start = c.self.inside.start in
    let rest = take_rest bytes start ∙ ap (drop start) c.deref.ensures.value in
    copied_first c.self.inside.bytes.items c.args.self.now.bytes c.copy_from_slice.new.self c.args.out.now start c.min-count.result
    (ap (λ (state : InMemory). state.bytes) c.self.view_is)
    (c.copy_from_slice.ensures.after ∙ ap (take c.min-count.result) rest)
    (omega (arith, c.min-count.ensures, ap length rest))
