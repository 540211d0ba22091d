use Rattle.std.proofs.Common.{◌≡◌, ◌<◌, ◌^◌, ◌==◌, ℕ, true, false, List, length, Option, Some, None, IfSome, ap, subst}
use Rattle.file_directory.specs.declared.directory.DirectoryEntry.{DirectoryEntry}
use Rattle.file_directory.specs.Form.{objects_of}
use Rattle.file_directory.specs.Reading.{next_entry, directory_answer}
use Rattle.file_directory.proofs.ReadLemmas.{one_read, all_read, stops_here, not_empty, is_empty}
use Rattle.file_directory.proofs.directory.Directory.parse.Goals as goal

pub reading-preserved : goal.reading-preserved
reading-preserved c =
    let before : List DirectoryEntry = c.reading.entries.items in
    let rest : List ℕ = c.reading.rest.now in
    let found : next_entry (objects_of c.args.table.now) before rest ≡ Some c.in-Some.entry = cc (c.in_ok-entry.ensures.entry, c.as_slice.ensures.value) in
    let small : c.in-Some.entry.object < 2 ^ 32 = subst (λ (o : Option DirectoryEntry). IfSome o (λ entry. entry.object < 2 ^ 32)) c.in-Some.is c.in_ok-entry.ensures.fits in
    rw (c.in_ok-push-in-Some.ensures.items, c.split_at.ensures.back, c.front_size.ensures)
    (one_read (objects_of c.args.table.now) c.args.text.now before rest c.in-Some.entry c.reading.invariant small found)

pub returns-in-None : goal.returns-in-None
returns-in-None c =
    let before : List DirectoryEntry = c.reading.entries.items in
    let rest : List ℕ = c.reading.rest.now in
    let none : next_entry (objects_of c.args.table.now) before rest ≡ None = cc (c.in_ok-entry.ensures.entry, c.as_slice.ensures.value) in
    let test : (length rest == 0) ≡ false = cc in
    let wrong = stops_here (objects_of c.args.table.now) c.args.text.now before rest c.reading.invariant (not_empty (length rest) test) none in
    rw c.bad_directory.ensures (ap directory_answer wrong)

pub returns : goal.returns
returns c =
    let rest : List ℕ = c.reading.rest.now in
    let test : (length rest == 0) ≡ true = cc in
    ap directory_answer (all_read (objects_of c.args.table.now) c.args.text.now c.reading.entries.items rest c.reading.invariant (is_empty (length rest) test))
