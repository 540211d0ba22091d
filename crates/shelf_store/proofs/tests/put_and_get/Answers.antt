use Rattle.std.proofs.Common.{◌≡◌, ℕ, List, [], ◌∷◌, ◌++◌, length, map, Option, Some, None, IfSome, ap, ◌∙◌, sym, arith, length-append, slice_index_or}
use Rattle.std.specs.List.{slice_get}
use Rattle.std.specs.Option.{option_map}
use Rattle.std.proofs.lemmas.List.{length-map}
use Rattle.std.proofs.lemmas.Option.{get_or_from_slice_get}
use Rattle.std.proofs.Math.Seq.{get_or-append_seam}
use Rattle.shelf_store.specs.ShelfState.{ShelfState, HasToldSizes, counted, with_block}
use Rattle.shelf_store.proofs.tests.put_and_get.Goals as goal

-- what is read at the end of the held blocks is the block that was put there
last_block : (held : Option (List (List ℕ))) (sizes : List ℕ) (block out : List ℕ) (address : ℕ) → address ≡ length sizes
    → IfSome (option_map (λ blocks. blocks ++ block ∷ []) held) (λ blocks. map length blocks ≡ sizes ++ length block ∷ [])
    → IfSome (option_map (λ blocks. blocks ++ block ∷ []) held) (λ blocks. slice_get blocks address ≡ Some out)
    → IfSome (option_map (λ blocks. blocks ++ block ∷ []) held) (λ _. out ≡ block)
last_block None sizes block out address is_end same read = tt
last_block (Some blocks) sizes block out address is_end same read =
    let all = blocks ++ block ∷ [] in
    let end : address ≡ length blocks =
    omega (
      arith,
      is_end,
      ap length same,
      length-map all (length {A = ℕ}),
      length-append blocks (block ∷ []),
      length-append sizes (length block ∷ []),
    ) in
    sym (get_or_from_slice_get all address out out read)
    ∙ ap (λ k. slice_index_or all k out) end ∙ get_or-append_seam blocks block [] out

reads_back : (old mid new : ShelfState) (block out : List ℕ) (address : ℕ) → mid ≡ with_block (counted old) block
    → address ≡ length old.sizes → HasToldSizes mid → IfSome mid.held (λ blocks. slice_get blocks address ≡ Some out)
    → new ≡ counted mid → IfSome new.held (λ _. out ≡ block)
reads_back old mid new block out address put is_end sizes read got =
    let same = rw put at sizes.of_held in
    let at_end = rw put at read in
    rw (got, put) (last_block old.held old.sizes block out address is_end same at_end)

pub returns-in-Ok : goal.returns-in-Ok
returns-in-Ok g c = record {
  read = reads_back (g.S.Shelf.told c.args.shelf.now) _ _ _ _ _ c.in_ok-address.ensures.ok c.in_ok-address.ensures.address
      c.in_ok-address.ensures.sizes c.in-Ok.ensures.bytes c.in-Ok.ensures.after;
}
