-- The rows of a new table, and references one after another, over plain variables.
use Rattle.std.proofs.Common.{◌≡◌, ℕ, zero, suc, ◌+◌, ◌<◌, ◌≤◌, ◌==◌, if◌then◌else◌, List, [], ◌∷◌, ◌++◌, length, get_or, set, take, drop, ap, sym, ◌∙◌, append_assoc, arith, Option, Some}
use Rattle.std.specs.List.{AllPairs, slice_get}
use Rattle.std.proofs.lemmas.List.{append-nil, drop_all, drop_more, get_or_default}
use Rattle.std.proofs.lemmas.List.Edits.{map_over_more}
use Rattle.std.proofs.lemmas.Option.{get_or_from_slice_get}
use Rattle.indirect_macs.specs.declared.refs.BlockRef.{BlockRef}
use Rattle.family_log.specs.declared.entry.RefAt.{RefAt}
use Rattle.family_log.specs.declared.table.TableRow.{TableRow}
use Rattle.file_directory.proofs.OrderLemmas.{pairs-tail}
use Rattle.file_dataset.specs.Changes.{greatest_object, put_row, refs_from}

abbrev Rises : TableRow → TableRow → Type 0
Rises earlier later = earlier.object < later.object

pub greatest_is_last : (rows : List TableRow) (k : ℕ) (row : TableRow) → AllPairs Rises rows → slice_get rows k ≡ Some row
    → length rows ≡ suc k → row.object ≡ greatest_object rows
greatest_is_last [] k row rising is last = absurd (cc)
greatest_is_last (first ∷ []) zero row rising is last =
    let one : first ≡ row = cc in
    let same : first.object ≡ row.object = ap (λ (r : TableRow). r.object) one in
    omega arith
greatest_is_last (first ∷ next ∷ rows) zero row rising is last = absurd (omega arith)
greatest_is_last (first ∷ rows) (suc k) row rising is last =
    let rest : row.object ≡ greatest_object rows = greatest_is_last rows k row (pairs-tail Rises first rows rising) is (omega arith) in
    let here : get_or rows k row ≡ row = get_or_from_slice_get rows k row row is in
    let same : (get_or rows k row).object ≡ row.object = ap (λ (r : TableRow). r.object) here in
    let below : first.object < (get_or rows k row).object = rising 0 (suc k) row (omega arith) (omega arith) in
    omega arith

-- one more row was put, or stays
pub row_put : (new : TableRow) (rows now : List TableRow) (i : ℕ) (d made : TableRow) → i < length rows → length now ≡ length rows
    → now ≡ put_row new (take i rows) ++ drop i rows
    → made ≡ (if (get_or now i d).object == new.object then new else get_or now i d)
    → set now i made ≡ put_row new (take (i + 1) rows) ++ drop (i + 1) rows
row_put new rows now i d made within long so_far is =
    ap (λ (row : TableRow). set now i row) is
    ∙ map_over_more (λ row. if row.object == new.object then new else row) rows now i (get_or now i d) within so_far
    (get_or_default now i d (get_or now i d) (omega arith))

-- one more reference behind those that were pushed
pub refs_more : (object first index i : ℕ) (pushed : List RefAt) (refs : List (Option BlockRef)) (d : Option BlockRef)
    → i < length refs → pushed ++ refs_from object index (drop i refs) ≡ refs_from object first refs
    → (pushed ++ record { object = object; index = index; to = get_or refs i d } ∷ []) ++ refs_from object (index + 1) (drop (i + 1) refs)
    ≡ refs_from object first refs
unfolding refs_from
refs_more object first index i pushed refs d within so_far =
    let front : drop i refs ≡ get_or refs i d ∷ drop (i + 1) refs = drop_more refs i d within in
    let parts = rw front at so_far in
    append_assoc pushed _ _ ∙ parts

pub refs_all : (object first index i : ℕ) (pushed : List RefAt) (refs : List (Option BlockRef)) → length refs ≤ i
    → pushed ++ refs_from object index (drop i refs) ≡ refs_from object first refs → pushed ≡ refs_from object first refs
unfolding refs_from
refs_all object first index i pushed refs past so_far =
    let none : drop i refs ≡ [] = drop_all i refs past in
    sym (append-nil pushed) ∙ (rw none at so_far)
