-- The files of a directory's entries, by the bytes of their objects.
use Rattle.std.proofs.Common.{◌≡◌, ◌≢◌, ℕ, suc, Bool, true, false, not, if◌then◌else◌, List, [], ◌∷◌, length, map, Option, Some, None, refl, sym, ap, ◌∙◌, arith}
use Rattle.std.proofs.Common.{Ordering, Less, Equal, Greater}
use Rattle.std.specs.List.{All, AllPairs, find}
use Rattle.std.specs.Option.{option_and_then, option_map}
use Rattle.std.specs.Ordering.{nat_cmp, is_lt, ordering_reverse}
use Rattle.std.specs.Cmp.Lexicographic.{slice_cmp, nat_list_cmp_total}
use Rattle.std.specs.Str.{bytes_eq}
use Rattle.std.proofs.lemmas.List.Elements.{All-cons, All-head, All-nil, All-tail, All-weaker}
use Rattle.std.proofs.lemmas.Slice.Eq.{bytes_eq-Decides}
use Rattle.file_directory.specs.declared.directory.DirectoryEntry.{DirectoryEntry}
use Rattle.file_directory.specs.Entries.{has_name, object_named, stands_before, with_entry, without_name}
use Rattle.file_directory.proofs.FormLemmas.{Differs, Rises}
use Rattle.file_directory.proofs.OrderLemmas.{pairs-head, pairs-tail}
use Rattle.file_blocks.specs.Wholes.{all_of}
use Rattle.file_dataset.specs.Edits.{Files, bytes_of, changed, removed, touched}

pub by_space : {P : Type 0} (b : Bool) → (b ≡ true → P) → (b ≡ false → P) → P
by_space true here there = here refl
by_space false here there = there refl

-- ---- all of some

pub record Parts {X : Type 0} (first : Option X) (rest : List (Option X)) (all : List X) : Type 0 where
  pub x : X
  pub xs : List X
  pub is_first : first ≡ Some x
  pub are_rest : all_of rest ≡ Some xs
  pub are : all ≡ x ∷ xs

pub parts_of : {X : Type 0} (first : Option X) (rest : List (Option X)) (all : List X) → all_of (first ∷ rest) ≡ Some all → Parts first rest all
parts_of None rest all is = absurd (cc)
parts_of {X = X} (Some x) rest all is = by_rest (all_of rest) refl is
  where
    by_rest : (found : Option (List X)) → all_of rest ≡ found → option_map (λ xs. x ∷ xs) found ≡ Some all → Parts (Some x) rest all
    by_rest None same is = absurd (cc)
    by_rest (Some xs) same is = let e : x ∷ xs ≡ all = cc in record { x = x; xs = xs; is_first = refl; are_rest = same; are = sym e }

-- an entry's name, with the bytes of its object
abbrev pub file_by : (ℕ → Option (List ℕ)) → DirectoryEntry → Option (List ℕ × List ℕ)
file_by b entry = option_map (λ bytes. (entry.name, bytes)) (b entry.object)

unfoldable pub files_by : (ℕ → Option (List ℕ)) → List DirectoryEntry → Option Files
files_by b entries = all_of (map (file_by b) entries)

pub record OneFile (b : ℕ → Option (List ℕ)) (entry : DirectoryEntry) (entries : List DirectoryEntry) (files : Files) : Type 0 where
  pub bytes : List ℕ
  pub rest : Files
  pub has : b entry.object ≡ Some bytes
  pub are_rest : files_by b entries ≡ Some rest
  pub are : files ≡ (entry.name, bytes) ∷ rest

pub one_file : (b : ℕ → Option (List ℕ)) (entry : DirectoryEntry) (entries : List DirectoryEntry) (files : Files)
    → files_by b (entry ∷ entries) ≡ Some files → OneFile b entry entries files
unfolding files_by
one_file b entry entries files is =
    let parts = parts_of (file_by b entry) (map (file_by b) entries) files is in by_bytes (b entry.object) refl parts
  where
    by_bytes : (found : Option (List ℕ)) → b entry.object ≡ found
        → Parts (option_map (λ bytes. (entry.name, bytes)) found) (map (file_by b) entries) files → OneFile b entry entries files
    by_bytes None same parts = absurd (let e = parts.is_first in cc)
    by_bytes (Some bytes) same parts =
        let e : (entry.name, bytes) ≡ parts.x = (let one = parts.is_first in cc) in
        record { bytes = bytes; rest = parts.xs; has = same; are_rest = parts.are_rest; are = parts.are ∙ ap (λ (x : List ℕ × List ℕ). let fs : Files = x ∷ parts.xs in fs) (sym e) }

pub one_more_file : (b : ℕ → Option (List ℕ)) (entry : DirectoryEntry) (entries : List DirectoryEntry) (bytes : List ℕ) (rest : Files)
    → b entry.object ≡ Some bytes → files_by b entries ≡ Some rest → files_by b (entry ∷ entries) ≡ Some ((entry.name, bytes) ∷ rest)
unfolding files_by
one_more_file b entry entries bytes rest has are = rw (has, are) refl

no_files : (b : ℕ → Option (List ℕ)) (files : Files) → files_by b [] ≡ Some files → files ≡ []
unfolding files_by
no_files b files is = let e : [] ≡ files = cc in sym e

-- ---- edits

-- the same files, where each entry's object has the same bytes
pub same_files : (b c : ℕ → Option (List ℕ)) (entries : List DirectoryEntry) (files : Files)
    → All (λ entry. (bytes : List ℕ) → b entry.object ≡ Some bytes → c entry.object ≡ Some bytes) entries
    → files_by b entries ≡ Some files → files_by c entries ≡ Some files
unfolding files_by
same_files b c [] files all is = is
same_files b c (entry ∷ entries) files all is =
    let one = one_file b entry entries files is in
    let P : DirectoryEntry → Type 0 = λ entry. (bytes : List ℕ) → b entry.object ≡ Some bytes → c entry.object ≡ Some bytes in
    one_more_file c entry entries one.bytes one.rest (All-head P entry entries all one.bytes one.has)
    (same_files b c entries one.rest (All-tail P entry entries all) one.are_rest)
    ∙ ap Some (sym one.are)

pub touched_files : (b : ℕ → Option (List ℕ)) (new : DirectoryEntry) (entries : List DirectoryEntry) (files : Files) → b new.object ≡ Some []
    → files_by b entries ≡ Some files → files_by b (with_entry new entries) ≡ Some (touched new.name files)
touched_files b new [] files empty is =
    one_more_file b new [] [] [] empty (is ∙ ap Some (no_files b files is)) ∙ ap (λ (fs : Files). Some (touched new.name fs)) (sym (no_files b files is))
touched_files b new (entry ∷ entries) files empty is =
    let one = one_file b entry entries files is in
    placed one.bytes one.rest one.has one.are_rest (touched_files b new entries one.rest empty one.are_rest)
    ∙ ap (λ (fs : Files). Some (touched new.name fs)) (sym one.are)
  where
    placed : (bytes : List ℕ) (rest : Files) → b entry.object ≡ Some bytes → files_by b entries ≡ Some rest
        → files_by b (with_entry new entries) ≡ Some (touched new.name rest)
        → files_by b (with_entry new (entry ∷ entries)) ≡ Some (touched new.name ((entry.name, bytes) ∷ rest))
    placed bytes rest has are later =
        by_space (stands_before entry.name new.name)
        (λ before. rw before (one_more_file b entry (with_entry new entries) bytes (touched new.name rest) has later))
        (λ behind. rw behind (one_more_file b new (entry ∷ entries) [] ((entry.name, bytes) ∷ rest) empty (one_more_file b entry entries bytes rest has are)))

pub removed_files : (b : ℕ → Option (List ℕ)) (name : List ℕ) (entries : List DirectoryEntry) (files : Files)
    → files_by b entries ≡ Some files → files_by b (without_name name entries) ≡ Some (removed name files)
removed_files b name [] files is =
    let none : files ≡ [] = no_files b files is in is ∙ ap Some none ∙ ap (λ (fs : Files). Some (removed name fs)) (sym none)
removed_files b name (entry ∷ entries) files is =
    let one = one_file b entry entries files is in
    left one.bytes one.rest one.has (removed_files b name entries one.rest one.are_rest)
    ∙ ap (λ (fs : Files). Some (removed name fs)) (sym one.are)
  where
    left : (bytes : List ℕ) (rest : Files) → b entry.object ≡ Some bytes → files_by b (without_name name entries) ≡ Some (removed name rest)
        → files_by b (without_name name (entry ∷ entries)) ≡ Some (removed name ((entry.name, bytes) ∷ rest))
    left bytes rest has later =
        by_space (bytes_eq entry.name name) (λ gone. rw gone later)
        (λ stays. rw stays (one_more_file b entry (without_name name entries) bytes (removed name rest) has later))

pub changed_files : (b c : ℕ → Option (List ℕ)) (change : List ℕ → List ℕ) (name : List ℕ) (entries : List DirectoryEntry) (files : Files)
    → All (λ entry. (bytes : List ℕ) → b entry.object ≡ Some bytes
    → c entry.object ≡ Some (if bytes_eq entry.name name then change bytes else bytes)) entries
    → files_by b entries ≡ Some files → files_by c entries ≡ Some (changed change name files)
unfolding files_by
changed_files b c change name [] files all is =
    let none : files ≡ [] = no_files b files is in is ∙ ap Some none ∙ ap (λ (fs : Files). Some (changed change name fs)) (sym none)
changed_files b c change name (entry ∷ entries) files all is =
    let one = one_file b entry entries files is in
    let P : DirectoryEntry → Type 0 = λ entry. (bytes : List ℕ) → b entry.object ≡ Some bytes
    → c entry.object ≡ Some (if bytes_eq entry.name name then change bytes else bytes) in
    placed one.bytes one.rest (All-head P entry entries all one.bytes one.has)
    (changed_files b c change name entries one.rest (All-tail P entry entries all) one.are_rest)
    ∙ ap (λ (fs : Files). Some (changed change name fs)) (sym one.are)
  where
    placed : (bytes : List ℕ) (rest : Files) → c entry.object ≡ Some (if bytes_eq entry.name name then change bytes else bytes)
        → files_by c entries ≡ Some (changed change name rest)
        → files_by c (entry ∷ entries) ≡ Some (changed change name ((entry.name, bytes) ∷ rest))
    placed bytes rest has later =
        by_space (bytes_eq entry.name name)
        (λ here. rw here (one_more_file c entry entries (change bytes) (changed change name rest) (rw here at has) later))
        (λ other. rw other (one_more_file c entry entries bytes (changed change name rest) (rw other at has) later))

-- ---- names

same_order : (o : Ordering) → o ≡ ordering_reverse o → is_lt o ≡ true → ⊥
same_order Less turned less = cc
same_order Equal turned less = cc
same_order Greater turned less = cc

-- no name stands before itself
not_before : (name : List ℕ) → stands_before name name ≡ true → ⊥
not_before name is = same_order (slice_cmp nat_cmp name name) (nat_list_cmp_total.antisymm name name) is

-- an entry has this name exactly where it has this object
abbrev pub Matches : (name : List ℕ) → (object : ℕ) → DirectoryEntry → Type 0
Matches name object entry = (bytes_eq entry.name name ≡ true → entry.object ≡ object) × (bytes_eq entry.name name ≡ false → entry.object ≢ object)

same_name : (a b : List ℕ) → bytes_eq a b ≡ true → a ≡ b
same_name a b h = (bytes_eq-Decides a b).0 h

same_before : {name : List ℕ} (a b : List ℕ) → a ≡ name → b ≡ name → stands_before a b ≡ true → stands_before name name ≡ true
same_before a b one other is = rw (one, other) at is

true_is_false : true ≡ false → ⊥
true_is_false e = cc

-- the entry that is found is the only one of its name, and the only one of its object
pub found_matches : (name : List ℕ) (entries : List DirectoryEntry) (object : ℕ) → AllPairs Rises entries → AllPairs Differs entries
    → object_named name entries ≡ Some object → All (Matches name object) entries
found_matches name [] object rising apart found = All-nil (Matches name object)
found_matches name (entry ∷ entries) object rising apart found =
    by_name (bytes_eq entry.name name) refl found
    (λ later. found_matches name entries object (pairs-tail Rises entry entries rising) (pairs-tail Differs entry entries apart) later)
  where
    by_name : (b : Bool) → bytes_eq entry.name name ≡ b
        → option_map (λ (e : DirectoryEntry). e.object) (if b then Some entry else find (has_name name) entries) ≡ Some object
        → (object_named name entries ≡ Some object → All (Matches name object) entries) → All (Matches name object) (entry ∷ entries)
    by_name true named is later =
        let own : entry.object ≡ object = cc in
        let rises = pairs-head Rises entry entries rising in
        let differs = pairs-head Differs entry entries apart in
        All-cons (Matches name object) entry entries (λ _. own, λ other. absurd (true_is_false (sym named ∙ other)))
        (λ k d within. (
          λ again. absurd (not_before name (same_before entry.name _ (same_name entry.name name named) (same_name _ name again) (rises k d within))),
          λ other same. differs k d within (own ∙ sym same),
        ))
    by_name false named is later =
        All-cons (Matches name object) entry entries
        (λ same. absurd (true_is_false (sym same ∙ named)), λ other same. absurd (behind (later is) (sym same)))
        (later is)
      where
        behind : All (Matches name object) entries → object ≡ entry.object → ⊥
        behind all same = found_apart entries is all (λ k d within. pairs-head Differs entry entries apart k d within)
          where
            found_apart : (es : List DirectoryEntry) → object_named name es ≡ Some object → All (Matches name object) es → All (Differs entry) es → ⊥
            found_apart [] found all differs = cc
            found_apart (e ∷ es) found all differs =
                by_space (bytes_eq e.name name)
                (λ here. All-head (Differs entry) e es differs (sym ((All-head (Matches name object) e es all).0 here ∙ same)))
                (λ other. found_apart es (rw other at found) (All-tail (Matches name object) e es all) (All-tail (Differs entry) e es differs))

-- the bytes of the file with a name
pub named_bytes : (b : ℕ → Option (List ℕ)) (name : List ℕ) (entries : List DirectoryEntry) (files : Files) → files_by b entries ≡ Some files
    → bytes_of name files ≡ option_and_then b (object_named name entries)
named_bytes b name [] files is = ap (bytes_of name) (no_files b files is)
named_bytes b name (entry ∷ entries) files is =
    let one = one_file b entry entries files is in
    ap (bytes_of name) one.are ∙ placed one.bytes one.rest one.has (named_bytes b name entries one.rest one.are_rest)
  where
    placed : (bytes : List ℕ) (rest : Files) → b entry.object ≡ Some bytes → bytes_of name rest ≡ option_and_then b (object_named name entries)
        → bytes_of name ((entry.name, bytes) ∷ rest) ≡ option_and_then b (object_named name (entry ∷ entries))
    placed bytes rest has later =
        by_space (bytes_eq entry.name name) (λ here. rw (here, has) refl) (λ other. rw other later)

-- what each entry gives by its name and the bytes of its object
pub rows_by : {X : Type 0} (b : ℕ → Option (List ℕ)) (row : DirectoryEntry → X) (of_file : List ℕ × List ℕ → X) (entries : List DirectoryEntry) (files : Files)
    → ((entry : DirectoryEntry) (bytes : List ℕ) → b entry.object ≡ Some bytes → row entry ≡ of_file (entry.name, bytes))
    → files_by b entries ≡ Some files → map row entries ≡ map of_file files
rows_by b row of_file [] files each is = sym (ap (map of_file) (no_files b files is))
rows_by {X = X} b row of_file (entry ∷ entries) files each is =
    let one = one_file b entry entries files is in
    ap (λ (x : X). x ∷ map row entries) (each entry one.bytes one.has)
    ∙ ap (λ (xs : List X). of_file (entry.name, one.bytes) ∷ xs) (rows_by b row of_file entries one.rest each one.are_rest)
    ∙ sym (ap (map of_file) one.are)

-- each entry's object has bytes
pub found_has : (b : ℕ → Option (List ℕ)) (name : List ℕ) (entries : List DirectoryEntry) (object : ℕ) (files : Files) → files_by b entries ≡ Some files
    → object_named name entries ≡ Some object → b object ≡ None → ⊥
found_has b name [] object files is found none = cc
found_has b name (entry ∷ entries) object files is found none =
    let one = one_file b entry entries files is in
    by_space (bytes_eq entry.name name)
    (λ here. let same : entry.object ≡ object = (let e = rw here at found in cc) in
    let has = one.has in
    let gone : b entry.object ≡ None = ap b same ∙ none in cc)
    (λ other. found_has b name entries object one.rest one.are_rest (rw other at found) none)
