-- A directory that is read of blocks of bytes is in form.
use Rattle.std.proofs.Common.{◌≡◌, ℕ, ◌+◌, ◌-◌, ◌/◌, ◌%◌, ◌<◌, ◌≤◌, Bool, true, false, if◌then◌else◌, min, List, [], length, get_or, Option, Some, None, Result, Ok, Err, refl, ap, sym, subst, ◌∙◌, arith}
use Rattle.std.specs.Prelude.{slice_get}
use Rattle.std.specs.List.{All}
use Rattle.std.specs.Option.{option_map_or}
use Rattle.std.proofs.lemmas.List.Elements.{All-from_get_or}
use Rattle.std.proofs.lemmas.Option.{slice_get-get_or}
use Rattle.dataset_tree.specs.declared.refusal.Refusal.{Refusal}
use Rattle.dataset_tree.specs.declared.refusal.Refusal.TheVariants as refusals
use Rattle.block_crypt.specs.Blocks.{KeyValue}
use Rattle.indirect_macs.specs.declared.refs.BlockRef.{BlockRef}
use Rattle.indirect_macs.specs.declared.refs.MacError.{MacError}
use Rattle.indirect_macs.specs.declared.refs.MacError.TheVariants.{MacFailed}
use Rattle.indirect_macs.specs.declared.refs.ObjTree.{ObjTree}
use Rattle.indirect_macs.specs.Trees.{AreBytes, HoldsBytes}
use Rattle.indirect_macs.specs.Walk.{goes_on}
use Rattle.family_log.specs.declared.table.Table.{Table}
use Rattle.family_log.specs.declared.table.TableRow.{TableRow}
use Rattle.family_log.specs.Tables.{row_of}
use Rattle.file_blocks.specs.Objects.{object_range, opened_ref, text_at, text_of, walk_in}
use Rattle.file_blocks.proofs.Bytes.{range_at, range_long}
use Rattle.file_blocks.proofs.Fitting.{opened_bytes}
use Rattle.file_directory.specs.declared.directory.DirectoryEntry.{DirectoryEntry}
use Rattle.file_directory.specs.Form.{IsDirectory, objects_of}
use Rattle.file_directory.specs.Reading.{directory_answer, read_directory}
use Rattle.file_directory.proofs.ReadLemmas.{is_read}
use Rattle.file_dataset.specs.Reads.{has_portable, held_directory, held_entries, held_text, row_range}
use Rattle.file_dataset.proofs.EditParts.{object_ok, then_ok}

-- ---- bytes

text_bytes : (key : KeyValue) (held : List (List ℕ)) (record_size : ℕ) (tree : ObjTree) (index : ℕ) (stored : Option (List ℕ)) → HoldsBytes held
    → text_at key held record_size tree index ≡ Ok stored → AreBytes (option_map_or (λ text. text) stored [])
unfolding text_at text_of
text_bytes key held record_size tree index stored holds is = by_walk (walk_in held record_size tree index) is
  where
    by_opened : (r : BlockRef) (opened : Option (List ℕ)) → opened_ref key held r ≡ opened
        → option_map_or (λ text. Ok (Some text)) opened (Err (MacFailed 0 index)) ≡ Ok stored → AreBytes (option_map_or (λ text. text) stored [])
    by_opened r None same is = absurd (cc)
    by_opened r (Some text) same is =
        let e : Some text ≡ stored = cc in
        subst (λ (o : Option (List ℕ)). AreBytes (option_map_or (λ t. t) o [])) e (opened_bytes key held r text holds same)

    by_walk : (found : Result (Option BlockRef) MacError) → goes_on (λ found. text_of key held index found) (λ failed. Err failed) found ≡ Ok stored
        → AreBytes (option_map_or (λ text. text) stored [])
    by_walk (Err failed) is = absurd (cc)
    by_walk (Ok None) is =
        let e : None ≡ stored = cc in subst (λ (o : Option (List ℕ)). AreBytes (option_map_or (λ t. t) o [])) e (λ i. omega arith)
    by_walk (Ok (Some r)) is = by_opened r (opened_ref key held r) refl is

same_some : {X : Type 0} (o : Option X) (a b : X) → o ≡ Some a → o ≡ Some b → a ≡ b
same_some o a b one two = cc

range_bytes : (key : KeyValue) (held : List (List ℕ)) (record_size : ℕ) (tree : ObjTree) (from end : ℕ) (bytes : List ℕ) → 0 < record_size → from ≤ end
    → HoldsBytes held → object_range key held record_size tree from end ≡ Ok bytes → All (λ byte. byte < 256) bytes
range_bytes key held record_size tree from end bytes some order holds is =
    All-from_get_or (λ byte. byte < 256) bytes 0 (λ j within.
    let long = range_long key held record_size tree from end bytes some order is in
    let at = range_at key held record_size tree from end bytes some j is (omega (arith, long, within)) in
    subst (λ (n : ℕ). n < 256) (sym (same_some (slice_get bytes j) _ _ (slice_get-get_or bytes j 0 within) at.2))
    (text_bytes key held record_size tree ((from + j) / record_size) at.0 holds at.1 ((from + j) % record_size)))

-- ---- the directory

no_bytes : All (λ byte. byte < 256) []
no_bytes k d within = absurd (omega (arith, within))

text_held_bytes : (key : KeyValue) (held : List (List ℕ)) (table : Table) (text : List ℕ) → 0 < table.block → HoldsBytes held → held_text key held table ≡ Ok text
    → All (λ byte. byte < 256) text
text_held_bytes key held table text some holds is = by_row (row_of 1 table) is
  where
    by_row : (found : Option TableRow) → option_map_or (λ own. row_range key held table.block own 0 own.length) found (Ok []) ≡ Ok text → All (λ byte. byte < 256) text
    by_row None is = let e : [] ≡ text = cc in subst (λ (l : List ℕ). All (λ byte. byte < 256) l) e no_bytes
    by_row (Some own) is =
        let start : min 0 own.length ≤ min (0 + own.length) own.length = omega arith in
        range_bytes key held table.block own.tree (min 0 own.length) (min (0 + own.length) own.length) text some start holds
        (object_ok own.object (object_range key held table.block own.tree (min 0 own.length) (min (0 + own.length) own.length)) text is)

answer_ok : (read : Result (List DirectoryEntry) ℕ) (entries : List DirectoryEntry) → directory_answer read ≡ Ok entries → read ≡ Ok entries
answer_ok (Ok found) entries is = cc
answer_ok (Err at) entries is = absurd (cc)

entries_form : (key : KeyValue) (held : List (List ℕ)) (table : Table) (entries : List DirectoryEntry) → 0 < table.block → HoldsBytes held
    → held_entries key held table ≡ Ok entries → IsDirectory (objects_of table) entries
unfolding held_entries
entries_form key held table entries some holds is =
    let read = then_ok (λ text. directory_answer (read_directory (objects_of table) text)) (held_text key held table) entries is in
    (is_read (objects_of table) read.0 entries (text_held_bytes key held table read.0 some holds read.1)
    (answer_ok (read_directory (objects_of table) read.0) entries read.2)).in_form

pub directory_form : (key : KeyValue) (hmac_key : List ℕ) (held : List (List ℕ)) (table : Table) (entries : List DirectoryEntry) → 0 < table.block → HoldsBytes held
    → held_directory key hmac_key held table ≡ Ok entries → IsDirectory (objects_of table) entries
unfolding held_directory
directory_form key hmac_key held table entries some holds is = by_portable (has_portable hmac_key table) is
  where
    by_portable : (b : Bool) → (if b then held_entries key held table else Err (refusals.MacFailed 0 0 0)) ≡ Ok entries → IsDirectory (objects_of table) entries
    by_portable true is = entries_form key held table entries some holds is
    by_portable false is = absurd (cc)
