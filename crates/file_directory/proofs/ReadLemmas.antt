-- How a reading goes on by one entry, over a whole directory, and what it answers.
use Rattle.std.proofs.Common.{◌≡◌, ℕ, zero, suc, ◌+◌, ◌-◌, ◌<◌, ◌≤◌, ◌^◌, ◌==◌, Bool, true, false, List, [], ◌∷◌, ◌++◌, length, take, drop, Option, Some, None, Result, Ok, Err, refl, sym, ap, ◌∙◌, arith, append_assoc, subst}
use Rattle.std.specs.List.{All}
use Rattle.std.specs.Option.{option_map_or}
use Rattle.std.proofs.lemmas.Bool.Decides.{nat_tests}
use Rattle.std.proofs.Math.Seq.{take-append_seam}
use Rattle.std.proofs.lemmas.List.{length-append, length-drop, append-nil}
use Rattle.std.proofs.lemmas.List.Elements.{All-drop}
use Rattle.file_directory.specs.declared.directory.DirectoryEntry.{DirectoryEntry}
use Rattle.file_directory.specs.Entries.{entry_bytes, directory_text}
use Rattle.file_directory.specs.Form.{IsDirectory}
use Rattle.file_directory.specs.Reading.{front_size, next_entry, read_behind, read_directory, IsFirstWrong}
use Rattle.file_directory.proofs.FormLemmas.{no_entries, follows, followed, front_in_form, last_entry}
use Rattle.file_directory.proofs.TextLemmas.{directory_text-push, is_next, rest_behind, front_is_whole, next_is, front_length, front_object}

pub not_empty : (n : ℕ) → (n == 0) ≡ false → 0 < n
not_empty n h = grind (arith, nat_tests)

pub is_empty : (n : ℕ) → (n == 0) ≡ true → n ≡ 0
is_empty n h = grind (arith, nat_tests)

module _ (objects : ℕ → Bool) where
  -- a text read behind these entries, by as many as may stand in it
  abbrev pub read_on : List DirectoryEntry → List ℕ → Result (List DirectoryEntry) ℕ
  read_on before text = read_behind objects (length text) before text

  -- any number of entries that is no less than that of the bytes is enough
  same : (a b : ℕ) (before : List DirectoryEntry) (text : List ℕ) → length text ≤ a → length text ≤ b
      → read_behind objects a before text ≡ read_behind objects b before text
  unfolding read_behind
  same zero zero before text fits_a fits_b = refl
  same zero (suc b) before [] fits_a fits_b = refl
  same zero (suc b) before (x ∷ xs) fits_a fits_b = absurd (omega arith)
  same (suc a) zero before [] fits_a fits_b = refl
  same (suc a) zero before (x ∷ xs) fits_a fits_b = absurd (omega arith)
  same (suc a) (suc b) before [] fits_a fits_b = refl
  same (suc a) (suc b) before (x ∷ xs) fits_a fits_b =
      either (λ entry.
      let shorter : length (drop (front_size (x ∷ xs)) (x ∷ xs)) ≡ length (x ∷ xs) - front_size (x ∷ xs) = length-drop (front_size (x ∷ xs)) (x ∷ xs) in
      same a b (before ++ entry ∷ []) (drop (front_size (x ∷ xs)) (x ∷ xs)) (omega arith) (omega arith))
      (next_entry objects before (x ∷ xs))
    where
      either : ((entry : DirectoryEntry) → read_behind objects a (before ++ entry ∷ []) (drop (front_size (x ∷ xs)) (x ∷ xs)) ≡ read_behind objects b (before ++ entry ∷ []) (drop (front_size (x ∷ xs)) (x ∷ xs)))
          → (found : Option DirectoryEntry)
          → option_map_or (λ entry. read_behind objects a (before ++ entry ∷ []) (drop (front_size (x ∷ xs)) (x ∷ xs))) found (Err (length (directory_text before)))
          ≡ option_map_or (λ entry. read_behind objects b (before ++ entry ∷ []) (drop (front_size (x ∷ xs)) (x ∷ xs))) found (Err (length (directory_text before)))
      either later None = refl
      either later (Some entry) = later entry

  pub ends : (before : List DirectoryEntry) → read_on before [] ≡ Ok before
  unfolding read_behind
  ends before = refl

  -- with an entry at its front
  pub goes_on : (before : List DirectoryEntry) (text : List ℕ) (entry : DirectoryEntry) → next_entry objects before text ≡ Some entry
      → read_on before text ≡ read_on (before ++ entry ∷ []) (drop (front_size text) text)
  unfolding read_behind
  goes_on before [] entry found = absurd (cc)
  goes_on before (x ∷ xs) entry found =
      let rest : List ℕ = drop (front_size (x ∷ xs)) (x ∷ xs) in
      let shorter : length rest ≡ length (x ∷ xs) - front_size (x ∷ xs) = length-drop (front_size (x ∷ xs)) (x ∷ xs) in
      ap (λ (o : Option DirectoryEntry). option_map_or (λ e. read_behind objects (length xs) (before ++ e ∷ []) rest) o (Err (length (directory_text before)))) found
      ∙ same (length xs) (length rest) (before ++ entry ∷ []) rest (omega arith) (omega arith)

  -- with a wrong entry at its front
  pub is_wrong : (before : List DirectoryEntry) (text : List ℕ) → 0 < length text → next_entry objects before text ≡ None
      → read_on before text ≡ Err (length (directory_text before))
  unfolding read_behind
  is_wrong before [] more none = absurd (omega arith)
  is_wrong before (x ∷ xs) more none =
      ap (λ (o : Option DirectoryEntry). option_map_or (λ e. read_behind objects (length xs) (before ++ e ∷ []) (drop (front_size (x ∷ xs)) (x ∷ xs))) o (Err (length (directory_text before)))) none

  -- over a directory in form
  pub reads_over : (before more : List DirectoryEntry) (rest : List ℕ) → IsDirectory objects (before ++ more)
      → read_on before (directory_text more ++ rest) ≡ read_on (before ++ more) rest
  reads_over before [] rest form = ap (λ (es : List DirectoryEntry). read_on es rest) (sym (append-nil before))
  reads_over before (entry ∷ more) rest form =
      let moved : (before ++ entry ∷ []) ++ more ≡ before ++ entry ∷ more = append_assoc before (entry ∷ []) more in
      let form_moved : IsDirectory objects ((before ++ entry ∷ []) ++ more) = subst (λ (es : List DirectoryEntry). IsDirectory objects es) (sym moved) form in
      let to_entry : IsDirectory objects (before ++ entry ∷ []) = front_in_form objects (before ++ entry ∷ []) more form_moved in
      let fits : entry.object < 2 ^ 32 = (last_entry objects before entry to_entry).greatest in
      let behind : List ℕ = directory_text more ++ rest in
      let text_moved : (entry_bytes entry ++ directory_text more) ++ rest ≡ entry_bytes entry ++ behind = append_assoc (entry_bytes entry) (directory_text more) rest in
      let next : next_entry objects before (entry_bytes entry ++ behind) ≡ Some entry = is_next objects before entry behind fits (followed objects before entry to_entry) in
      ap (λ (bs : List ℕ). read_on before bs) text_moved
      ∙ goes_on before (entry_bytes entry ++ behind) entry next
      ∙ ap (λ (bs : List ℕ). read_on (before ++ entry ∷ []) bs) (rest_behind entry behind)
      ∙ reads_over (before ++ entry ∷ []) more rest form_moved
      ∙ ap (λ (es : List DirectoryEntry). read_on es rest) moved

  -- the text of a directory gives it
  pub written_reads : (entries : List DirectoryEntry) → IsDirectory objects entries → read_directory objects (directory_text entries) ≡ Ok entries
  written_reads entries form =
      ap (λ (bs : List ℕ). read_on [] bs) (sym (append-nil (directory_text entries))) ∙ reads_over [] entries [] form ∙ ends entries

  -- an error lies behind what was read
  errors_behind : (most : ℕ) (before : List DirectoryEntry) (text : List ℕ) (at : ℕ) → read_behind objects most before text ≡ Err at
      → length (directory_text before) ≤ at
  unfolding read_behind
  errors_behind zero before text at wrong = absurd (cc)
  errors_behind (suc most) before [] at wrong = absurd (cc)
  errors_behind (suc most) before (x ∷ xs) at wrong =
      either (λ entry is. errors_behind most (before ++ entry ∷ []) (drop (front_size (x ∷ xs)) (x ∷ xs)) at is) (next_entry objects before (x ∷ xs)) wrong
    where
      either : ((entry : DirectoryEntry) → read_behind objects most (before ++ entry ∷ []) (drop (front_size (x ∷ xs)) (x ∷ xs)) ≡ Err at → length (directory_text (before ++ entry ∷ [])) ≤ at)
          → (found : Option DirectoryEntry)
          → option_map_or (λ entry. read_behind objects most (before ++ entry ∷ []) (drop (front_size (x ∷ xs)) (x ∷ xs))) found (Err (length (directory_text before))) ≡ Err at
          → length (directory_text before) ≤ at
      either later None is =
          let same_place : length (directory_text before) ≡ at = cc in omega arith
      either later (Some entry) is =
          let further : length (directory_text (before ++ entry ∷ [])) ≤ at = later entry is in
          omega (arith, further, ap length (directory_text-push before entry), length-append (directory_text before) (entry_bytes entry))

  -- ---- what a reading answers of a whole text

  pub record IsStop (whole : List ℕ) (at : ℕ) : Type 0 where
    pub front : List DirectoryEntry
    pub in_form : IsDirectory objects front
    pub front_is : directory_text front ≡ take at whole
    pub within : at < length whole

  pub record IsRead (whole : List ℕ) (entries : List DirectoryEntry) : Type 0 where
    pub in_form : IsDirectory objects entries
    pub text : directory_text entries ≡ whole

  abbrev pub Tells : List ℕ → Result (List DirectoryEntry) ℕ → Type 0
  Tells whole (Ok entries) = IsRead whole entries
  Tells whole (Err at) = IsStop whole at

  sound : (most : ℕ) (before : List DirectoryEntry) (text : List ℕ) → length text ≤ most → IsDirectory objects before → All (λ b. b < 256) text
      → Tells (directory_text before ++ text) (read_behind objects most before text)
  unfolding read_behind
  sound zero before [] fits form bytes = record { in_form = form; text = sym (append-nil (directory_text before)) }
  sound zero before (x ∷ xs) fits form bytes = absurd (omega arith)
  sound (suc most) before [] fits form bytes = record { in_form = form; text = sym (append-nil (directory_text before)) }
  sound (suc most) before (x ∷ xs) fits form bytes =
      either (λ entry shorter longer_form. sound most (before ++ entry ∷ []) (drop (front_size (x ∷ xs)) (x ∷ xs)) shorter longer_form (All-drop (λ b. b < 256) (front_size (x ∷ xs)) (x ∷ xs) bytes))
      (next_entry objects before (x ∷ xs)) refl
    where
      either : ((entry : DirectoryEntry) → length (drop (front_size (x ∷ xs)) (x ∷ xs)) ≤ most → IsDirectory objects (before ++ entry ∷ [])
          → Tells (directory_text (before ++ entry ∷ []) ++ drop (front_size (x ∷ xs)) (x ∷ xs)) (read_behind objects most (before ++ entry ∷ []) (drop (front_size (x ∷ xs)) (x ∷ xs))))
          → (found : Option DirectoryEntry) → next_entry objects before (x ∷ xs) ≡ found
          → Tells (directory_text before ++ x ∷ xs) (option_map_or (λ entry. read_behind objects most (before ++ entry ∷ []) (drop (front_size (x ∷ xs)) (x ∷ xs))) found (Err (length (directory_text before))))
      either later None is = record {
        front = before;
        in_form = form;
        front_is = sym (take-append_seam (directory_text before) (x ∷ xs));
        within = omega (arith, length-append (directory_text before) (x ∷ xs));
      }
      either later (Some entry) is =
          let next = next_is objects before (x ∷ xs) entry is in
          let text : List ℕ = x ∷ xs in
          let rest : List ℕ = drop (front_size text) text in
          let shorter : length rest ≡ length text - front_size text = length-drop (front_size text) text in
          let front : text ≡ entry_bytes entry ++ rest =
          front_is_whole text bytes next.fits ∙ ap (λ (e : DirectoryEntry). entry_bytes e ++ rest) next.is in
          let small : entry.object < 2 ^ 32 = subst (λ (e : DirectoryEntry). e.object < 2 ^ 32) next.is (front_object text bytes next.fits) in
          let longer : directory_text (before ++ entry ∷ []) ++ rest ≡ directory_text before ++ text =
          ap (λ (bs : List ℕ). bs ++ rest) (directory_text-push before entry) ∙ append_assoc (directory_text before) (entry_bytes entry) rest
          ∙ ap (λ (bs : List ℕ). directory_text before ++ bs) (sym front) in
          subst (λ (whole : List ℕ). Tells whole (read_behind objects most (before ++ entry ∷ []) rest)) longer
          (later entry (omega arith) (follows objects before entry form small next.may))

  -- a reading tells of the text that was read
  pub readings_tell : (text : List ℕ) → All (λ b. b < 256) text → Tells text (read_directory objects text)
  readings_tell text bytes = sound (length text) [] text (omega arith) (no_entries objects) bytes

  pub is_read : (text : List ℕ) (entries : List DirectoryEntry) → All (λ b. b < 256) text → read_directory objects text ≡ Ok entries → IsRead text entries
  is_read text entries bytes is = subst (λ (r : Result (List DirectoryEntry) ℕ). Tells text r) is (readings_tell text bytes)

  pub first_wrong : (text : List ℕ) (at : ℕ) → All (λ b. b < 256) text → read_directory objects text ≡ Err at → IsFirstWrong objects text at
  first_wrong text at bytes is =
      let stop : IsStop text at = subst (λ (r : Result (List DirectoryEntry) ℕ). Tells text r) is (readings_tell text bytes) in
      record {
        front = stop.front;
        in_form = stop.in_form;
        front_is = stop.front_is;
        within = stop.within;
        longest = λ longer rest form text_is.
            errors_behind (length rest) longer rest at (sym (reads_over [] longer rest form) ∙ subst (λ (bs : List ℕ). read_directory objects bs ≡ Err at) text_is is);
      }

  -- ---- the loop

  -- these entries were read of a text, and this is left
  pub record IsReading (text : List ℕ) (before : List DirectoryEntry) (rest : List ℕ) : Type 0 where
    pub goes_on_as : read_directory objects text ≡ read_on before rest
    pub form : IsDirectory objects before
    pub place : length (directory_text before) + length rest ≡ length text

  pub nothing_read : (text : List ℕ) → IsReading text [] text
  nothing_read text = record { goes_on_as = refl; form = no_entries objects; place = omega arith }

  pub one_read : (text : List ℕ) (before : List DirectoryEntry) (rest : List ℕ) (entry : DirectoryEntry) → IsReading text before rest
      → entry.object < 2 ^ 32 → next_entry objects before rest ≡ Some entry
      → IsReading text (before ++ entry ∷ []) (drop (front_size rest) rest)
  one_read text before rest entry reading small found =
      let next = next_is objects before rest entry found in
      let size : length (entry_bytes entry) ≡ front_size rest =
      ap (λ (e : DirectoryEntry). length (entry_bytes e)) (sym next.is) ∙ front_length rest next.fits in
      record {
        goes_on_as = reading.goes_on_as ∙ goes_on before rest entry found;
        form = follows objects before entry reading.form small next.may;
        place = omega (arith, reading.place, next.fits, size, ap length (directory_text-push before entry), length-append (directory_text before) (entry_bytes entry), length-drop (front_size rest) rest);
      }

  pub all_read : (text : List ℕ) (before : List DirectoryEntry) (rest : List ℕ) → IsReading text before rest → length rest ≡ 0
      → read_directory objects text ≡ Ok before
  all_read text before [] reading none = reading.goes_on_as ∙ ends before
  all_read text before (x ∷ xs) reading none = absurd (omega arith)

  pub stops_here : (text : List ℕ) (before : List DirectoryEntry) (rest : List ℕ) → IsReading text before rest → 0 < length rest
      → next_entry objects before rest ≡ None → read_directory objects text ≡ Err (length text - length rest)
  stops_here text before rest reading more none =
      let here : length (directory_text before) ≡ length text - length rest = omega (arith, reading.place) in
      reading.goes_on_as ∙ is_wrong before rest more none ∙ ap (λ (at : ℕ). Err at) here
