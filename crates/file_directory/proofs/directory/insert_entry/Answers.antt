use Rattle.std.proofs.Common.{◌≤◌, ◌∙◌, List, ℕ, Bool, ap, length, sym, subst}
use Rattle.std.specs.List.{prefix_len}
use Rattle.std.proofs.lemmas.List.Sums.{prefix_len-le-length}
use Rattle.file_directory.specs.declared.directory.DirectoryEntry.{DirectoryEntry}
use Rattle.file_directory.specs.Entries.{stands_before}
use Rattle.file_directory.proofs.ChangeLemmas.{with_entry_at}
use Rattle.file_directory.proofs.directory.insert_entry.Goals as goal

pub insert-requires : goal.insert-requires
insert-requires c =
    let test : DirectoryEntry → Bool = λ entry. stands_before entry.name c.args.entry.name in
    let old : List DirectoryEntry = c.args.entries.now.items in
    let count = sym (ap (λ (entries : List DirectoryEntry). length entries) c.as_slice.ensures.value) ∙ c.as_slice.ensures.len in
    rw (c.place_for-at.ensures, c.as_slice.ensures.value, c.as_bytes.ensures.bytes)
    (subst (λ (n : ℕ). prefix_len test old ≤ n) count (prefix_len-le-length test old))

pub returns-clause-inserted : goal.returns-clause-inserted
returns-clause-inserted c =
    rw (c.in_ok-insert.ensures.items, c.place_for-at.ensures, c.as_slice.ensures.value, c.as_bytes.ensures.bytes)
    (with_entry_at c.args.entry c.args.entries.now.items)
