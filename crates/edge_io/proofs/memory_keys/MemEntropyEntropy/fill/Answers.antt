use Rattle.std.proofs.Common.{◌≡◌, Some, length, take, drop, sym, ap, ◌∙◌, arith}
use Rattle.std.proofs.lemmas.List.{drop-drop, take_rest}
use Rattle.edge_io.specs.Memory.{InMemory}
use Rattle.edge_io.proofs.memory_keys.MemEntropyEntropy.fill.Goals as goal

pub returns-clause-moved : goal.returns-clause-moved
returns-clause-moved c =
    let items = c.self.inside.bytes.items in
    let start = c.self.inside.start in
    let view : drop start items ≡ c.args.self.now.bytes = ap (λ (state : InMemory). state.bytes) c.self.view_is in
    let left = take_rest c.deref.result.now start ∙ ap (drop start) c.deref.ensures.value ∙ view in
    record {
      enough = omega (arith, ap length left);
      next = c.copy_from_slice.ensures.after ∙ ap (take 32) left;
      rest = ap (λ l. Some l) (sym (drop-drop 32 start items) ∙ ap (drop 32) view);
    }
