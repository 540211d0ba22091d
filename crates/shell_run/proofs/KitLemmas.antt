-- What is taken for a command: the old key, the new key and a seed.
use Rattle.std.proofs.Common.{◌≡◌, ◌⊎◌, inl, inr, ⊎_elim, ◌<◌, ℕ, ◌+◌, ◌≤◌, Bool, true, false, ◌||◌, List, [], ◌∷◌, ◌++◌, drop, if◌then◌else◌, Option, Some, None, Result, Ok, Err, IsErr, IsErrAnd, IfSome, IsSomeAnd, refl, ap, sym, ◌∙◌, subst, append_assoc, arith}
use Rattle.std.specs.declared.alloc.AllocError.{AllocError}
use Rattle.std.specs.List.{AllByRecursion}
use Rattle.std.proofs.lemmas.List.{append-nil}
use Rattle.edge_io.specs.Counts.{next_listed}
use Rattle.edge_io.specs.Entropy.{is_short, fill_fails}
use Rattle.edge_io.specs.KeyFiles.{fetched}
use Rattle.encryption_roots.specs.declared.kit.Fetched.{Fetched}
use Rattle.encryption_roots.specs.declared.kit.Fetched.TheVariants as fetches
use Rattle.encryption_roots.specs.declared.kit.SeedGot.{SeedGot}
use Rattle.encryption_roots.specs.declared.kit.SeedGot.TheVariants as seeds
use Rattle.encryption_roots.specs.declared.kit.LineKit.{LineKit}
use Rattle.encryption_roots.specs.declared.props.Location.{Location}
use Rattle.encryption_roots.specs.declared.props.Location.TheVariants.{Prompt, File}
use Rattle.key_machine.specs.Told.{Wanted}
use Rattle.shell_run.specs.declared.ending.Halt.{Halt}
use Rattle.shell_run.specs.declared.ending.Halt.TheVariants.{BadLine, ReadFault, NoMemory}
use Rattle.shell_run.specs.declared.found.FoundEntry.{FoundEntry}
use Rattle.shell_run.specs.declared.found.FoundKind.{FoundKind}
use Rattle.shell_run.specs.declared.found.FoundKind.TheVariants.{OldKey, NewKey, Seed}
use Rattle.shell_run.specs.Answers.{Acts, ActsAs, Agrees, Fetches, Fills, FillsFrom, GivesKit, IsCalled, PromptGives, PromptStops, TakesKit, is_fault, is_seed_fault, spot_of, supply_takings, taking_with}
use Rattle.shell_run.specs.Outer.{Calls, Outer, Takes, left_after}
use Rattle.shell_run.specs.Ran.{IsFront}
use Rattle.shell_run.specs.Script.{Script, ToldScript, Given, Gives, Stops, prompted, script_told}
use Rattle.shell_run.specs.Takings.{rank, AreInOrder, Taking, has_entry, is_fetch, is_fill, fills_of}
use Rattle.shell_run.specs.Transcript.{Spot, taking_at, seed_at, fetch_at, material_of, at_prompt, material_at, fill_at, seed_from, takings_of, Supply, Has, Lacks, with_new, with_old, kit_of}
use Rattle.shell_run.proofs.TakingLemmas.{entries_made, all_both, all_first, all_second, all_weaker, order_both, outcomes_both, takes_both, takes_fetch, takes_fill, takes_none}

-- ---- one taking

-- a fetch from a file found no memory to be listed
pub fetch_not : (entry : FoundEntry) (place : Option Location) (old new : Outer) (script : ToldScript) (result : Result Fetched Halt) → IsErr result → IsErrAnd result (λ halt. halt ≡ NoMemory) → Takes (λ line. line ≡ entry.line) [] old new
    → Acts entry.line old new (Fetches result entry place old.files script script)
fetch_not entry place old new script (Ok given) is_err stopped takes = absurd (cc)
fetch_not entry place old new script (Err halt) is_err stopped takes =
    let memory : halt ≡ NoMemory = stopped in
    subst (λ (h : Halt). Acts entry.line old new (Fetches (Err h) entry place old.files script script)) (sym memory)
    (record { made = []; takes = takes; said = (fetch_at (taking_with entry false) place, refl) })

file_told : (entry : FoundEntry) (path : List ℕ) (given : Fetched) (files : Option (List (List ℕ × List ℕ))) (script : ToldScript)
    → IfSome files (λ told. given ≡ (if is_fault given then fetches.Fault else material_of (fetched path told)))
    → IfSome files (λ files. IfSome (script_told script) (λ here. IsSomeAnd (script_told script) (λ left. material_at (taking_with entry (is_fault given)) files here (Some (File path)) ≡ Gives given left)))
file_told entry path given None script material = tt
file_told entry path given (Some files) script material = of_script script.ahead where
  of_script : (ahead : Option (List (List ℕ))) → (let here : ToldScript = record { next = script.next; ahead = ahead } in
      IfSome (script_told here) (λ now. IsSomeAnd (script_told here) (λ left. material_at (taking_with entry (is_fault given)) files now (Some (File path)) ≡ Gives given left)))
  of_script None = tt
  of_script (Some lines) = ap (λ (x : Fetched). let g : Given Fetched = Gives x (record { next = script.next; ahead = lines }) in g) (sym material)

pub fetch_acts : (entry : FoundEntry) → is_fetch entry.what ≡ true → (path : List ℕ) (given : Fetched) (old new : Outer) (script : ToldScript)
    → IsCalled (next_listed old.fetches.made old.fetches.failing) (is_fault given) old.fetches new.fetches → new.files ≡ old.files → new.entropy ≡ old.entropy → new.fills ≡ old.fills
    → new.found ≡ old.found ++ (if is_fault given then entry ∷ [] else [])
    → IfSome old.files (λ told. given ≡ (if is_fault given then fetches.Fault else material_of (fetched path told)))
    → Acts entry.line old new (Fetches (Ok given) entry (Some (File path)) old.files script script)
fetch_acts entry fetch path given old new script called files entropy fills found material = record {
  made = taking_with entry (is_fault given) ∷ [];
  takes = takes_fetch entry fetch (is_fault given) old new called files entropy fills found;
  said = (refl, file_told entry path given old.files script material);
}

pub fetch_stopped : (entry : FoundEntry) → is_fetch entry.what ≡ true → (path : List ℕ) (old new : Outer) (script : ToldScript)
    → IsCalled (next_listed old.fetches.made old.fetches.failing) false old.fetches new.fetches → new.files ≡ old.files → new.entropy ≡ old.entropy → new.fills ≡ old.fills
    → new.found ≡ old.found ++ [] → Acts entry.line old new (Fetches (Err NoMemory) entry (Some (File path)) old.files script script)
fetch_stopped entry fetch path old new script called files entropy fills found = record {
  made = taking_with entry false ∷ [];
  takes = takes_fetch entry fetch false old new called files entropy fills found;
  said = ([], refl);
}

-- a prompt makes no taking
pub prompt_acts : (entry : FoundEntry) (material : List ℕ) (outer : Outer) (old new : ToldScript) → PromptGives material old new
    → Acts entry.line outer outer (Fetches (Ok (fetches.Got material)) entry (Some Prompt) outer.files old new)
prompt_acts entry material outer old new gives = record { made = []; takes = takes_none (λ line. line ≡ entry.line) outer; said = (refl, each outer.files (script_told old) (script_told new) gives) } where
  each : (files : Option (List (List ℕ × List ℕ))) (here left : Option Script) → IfSome here (λ script. IsSomeAnd left (λ rest. prompted script ≡ Gives material rest))
      → IfSome files (λ files. IfSome here (λ script. IsSomeAnd left (λ rest. material_at (taking_with entry false) files script (Some Prompt) ≡ Gives (fetches.Got material) rest)))
  each None here left gives = tt
  each (Some files) None left gives = tt
  each (Some files) (Some script) None gives = absurd gives
  each (Some files) (Some script) (Some rest) gives = ap at_prompt gives

pub prompt_stops : (entry : FoundEntry) (halt : Halt) (outer : Outer) (old new : ToldScript) → PromptStops halt old → Acts entry.line outer outer (Fetches (Err halt) entry (Some Prompt) outer.files old new)
prompt_stops entry (BadLine number at) outer old new stops = record { made = []; takes = takes_none (λ line. line ≡ entry.line) outer; said = (refl, each outer.files (script_told old) stops) } where
  each : (files : Option (List (List ℕ × List ℕ))) (here : Option Script) → IfSome here (λ script. prompted script ≡ Stops number at)
      → IfSome files (λ files. IfSome here (λ script. material_at (taking_with entry false) files script (Some Prompt) ≡ Stops number at))
  each None here stops = tt
  each (Some files) None stops = tt
  each (Some files) (Some script) stops = ap at_prompt stops
prompt_stops entry ReadFault outer old new stops = record { made = []; takes = takes_none (λ line. line ≡ entry.line) outer; said = refl }
prompt_stops entry NoMemory outer old new stops = record { made = []; takes = takes_none (λ line. line ≡ entry.line) outer; said = ([], refl) }

-- where nothing is asked for
pub unasked_acts : (entry : FoundEntry) (outer : Outer) (script : ToldScript) → Acts entry.line outer outer (Fetches (Ok fetches.NotAsked) entry None outer.files script script)
unasked_acts entry outer script = record { made = []; takes = takes_none (λ line. line ≡ entry.line) outer; said = (refl, each outer.files (script_told script)) } where
  each : (files : Option (List (List ℕ × List ℕ))) (here : Option Script)
      → IfSome files (λ files. IfSome here (λ script. IsSomeAnd here (λ left. material_at (taking_with entry false) files script None ≡ Gives fetches.NotAsked left)))
  each None here = tt
  each (Some files) None = tt
  each (Some files) (Some script) = refl

pub fill_not : (entry : FoundEntry) (wanted : Bool) (old new : Outer) (result : Result SeedGot AllocError) → IsErr result → Takes (λ line. line ≡ entry.line) [] old new → Acts entry.line old new (Fills result entry wanted old.entropy)
fill_not entry wanted old new (Ok seed) stopped takes = absurd (cc)
fill_not entry wanted old new (Err stop) stopped takes = record { made = []; takes = takes; said = refl }

pub fill_acts : (entry : FoundEntry) → is_fill entry.what ≡ true → (seed : SeedGot) (old new : Outer) → IsCalled (fill_fails old.entropy (next_listed old.fills.made old.fills.failing)) (is_seed_fault seed) old.fills new.fills
    → new.files ≡ old.files → IfSome old.entropy (λ left. FillsFrom left new.entropy seed) → new.fetches ≡ old.fetches → new.found ≡ old.found ++ (if is_seed_fault seed then entry ∷ [] else [])
    → Acts entry.line old new (Fills (Ok seed) entry true old.entropy)
fill_acts entry fill seed old new called files from fetches found = record {
  made = taking_with entry (is_seed_fault seed) ∷ [];
  takes = takes_fill entry fill (is_seed_fault seed) old new called files (left_told old.entropy seed from) fetches found;
  said = (refl, seed_told old.entropy seed from);
} where
  left_told : (told : Option (List ℕ)) (seed : SeedGot) → IfSome told (λ left. FillsFrom left new.entropy seed) → IfSome told (λ left. new.entropy ≡ Some (if is_seed_fault seed then left else drop 32 left))
  left_told None seed from = tt
  left_told (Some left) seeds.NotAsked from = absurd from
  left_told (Some left) (seeds.Got bytes) from = from.2
  left_told (Some left) seeds.Fault from = from

  seed_told : (told : Option (List ℕ)) (seed : SeedGot) → IfSome told (λ left. FillsFrom left new.entropy seed)
      → IfSome told (λ left. (seed ≡ seed_from (taking_with entry (is_seed_fault seed)) left true) × (true ≡ true → is_seed_fault seed || is_short left ≡ is_seed_fault seed))
  seed_told None seed from = tt
  seed_told (Some left) seeds.NotAsked from = absurd from
  seed_told (Some left) (seeds.Got bytes) from = (ap (λ xs. seeds.Got xs) from.1, λ wanted. from.0)
  seed_told (Some left) seeds.Fault from = (refl, λ wanted. refl)

-- where no call was made and nothing is listed, nothing was taken
pub takes_listless : (here : ℕ → Type 0) (files : Option (List (List ℕ × List ℕ))) (fetches fills : Calls) (entropy : Option (List ℕ)) (old new : List FoundEntry) → new ≡ old
    → Takes here [] (record { files = files; fetches = fetches; entropy = entropy; fills = fills; found = old }) (record { files = files; fetches = fetches; entropy = entropy; fills = fills; found = new })
takes_listless here files fetches fills entropy old new same =
    let outer : List FoundEntry → Outer = λ found. record { files = files; fetches = fetches; entropy = entropy; fills = fills; found = found } in
    subst (λ (found : List FoundEntry). Takes here [] (outer old) (outer found)) (sym same) (takes_none here (outer old))

-- ---- their order

-- a taking of line n, of this part of it, whose kind stands in this range
record IsWithin (n own low high : ℕ) (taking : Taking) : Type 0 where
  line : taking.entry.line ≡ n
  part : taking.entry.part ≡ own
  above : low ≤ rank taking.entry.what
  below : rank taking.entry.what < high

abbrev pub entry_of : (n part : ℕ) → FoundKind → FoundEntry
entry_of n part what = record { line = n; part = part; what = what }

all_of_part : (n part low high : ℕ) (made : List Taking) → AllByRecursion (IsWithin n part low high) made → AllByRecursion (λ taking. taking.entry.part ≡ part) made
all_of_part n part low high made within = all_weaker (IsWithin n part low high) (λ taking. taking.entry.part ≡ part) made (λ taking p. p.part) within

within_wider : (n part low middle high : ℕ) (made : List Taking) → middle ≤ high → AllByRecursion (IsWithin n part low middle) made → AllByRecursion (IsWithin n part low high) made
within_wider n part low middle high made wider within =
    all_weaker (IsWithin n part low middle) (IsWithin n part low high) made (λ taking p. record { line = p.line; part = p.part; above = p.above; below = omega (arith, p.below, wider) }) within

within_from : (n part lower low high : ℕ) (made : List Taking) → lower ≤ low → AllByRecursion (IsWithin n part low high) made → AllByRecursion (IsWithin n part lower high) made
within_from n part lower low high made wider within =
    all_weaker (IsWithin n part low high) (IsWithin n part lower high) made (λ taking p. record { line = p.line; part = p.part; above = omega (arith, p.above, wider); below = p.below }) within

order_within : (n part low middle high : ℕ) (xs ys : List Taking) → AllByRecursion (IsWithin n part low middle) xs → AllByRecursion (IsWithin n part middle high) ys → AreInOrder (entries_made xs) → AreInOrder (entries_made ys)
    → AreInOrder (entries_made (xs ++ ys))
order_within n part low middle high xs ys =
    order_both (IsWithin n part low middle) (IsWithin n part middle high) xs ys (λ x y p q. inr (p.line ∙ sym q.line, inr (p.part ∙ sym q.part, omega (arith, p.below, q.above))))

fetch_within : (n part : ℕ) (what : FoundKind) (fails : Bool) (place : Option Location) → AllByRecursion (IsWithin n part (rank what) (rank what + 1)) (fetch_at (taking_with (entry_of n part what) fails) place)
fetch_within n part what fails None = tt
fetch_within n part what fails (Some Prompt) = tt
fetch_within n part what fails (Some (File path)) = (record { line = refl; part = refl; above = omega arith; below = omega arith }, tt)

fill_within : (n part : ℕ) (fails wanted : Bool) → AllByRecursion (IsWithin n part 2 3) (fill_at (taking_with (entry_of n part Seed) fails) wanted)
fill_within n part fails false = tt
fill_within n part fails true = (record { line = refl; part = refl; above = omega arith; below = omega arith }, tt)

front_within : (n part low high : ℕ) (made whole : List Taking) → IsFront made whole → AllByRecursion (IsWithin n part low high) whole → AllByRecursion (IsWithin n part low high) made
front_within n part low high made whole front within = all_first (IsWithin n part low high) made front.0 (subst (AllByRecursion (IsWithin n part low high)) front.1 within)

-- a fetch took what belongs to it, whatever it answered
fetched_within : (n part : ℕ) (what : FoundKind) (result : Result Fetched Halt) (place : Option Location) (files : Option (List (List ℕ × List ℕ))) (old new : ToldScript) (made : List Taking) → Fetches result (entry_of n part what) place files old new made
    → AllByRecursion (IsWithin n part (rank what) (rank what + 1)) made
fetched_within n part what (Ok fetched) place files old new made said = subst (AllByRecursion (IsWithin n part (rank what) (rank what + 1))) (sym said.0) (fetch_within n part what (is_fault fetched) place)
fetched_within n part what (Err (BadLine number at)) place files old new made said = subst (AllByRecursion (IsWithin n part (rank what) (rank what + 1))) (sym said.0) tt
fetched_within n part what (Err ReadFault) place files old new made said = subst (AllByRecursion (IsWithin n part (rank what) (rank what + 1))) (sym said) tt
fetched_within n part what (Err NoMemory) place files old new made said =
    front_within n part (rank what) (rank what + 1) made (fetch_at (taking_with (entry_of n part what) false) place) said (fetch_within n part what false place)

filled_within : (n part : ℕ) (result : Result SeedGot AllocError) (wanted : Bool) (entropy : Option (List ℕ)) (made : List Taking) → Fills result (entry_of n part Seed) wanted entropy made → AllByRecursion (IsWithin n part 2 3) made
filled_within n part (Ok seed) wanted entropy made said = subst (AllByRecursion (IsWithin n part 2 3)) (sym said.0) (fill_within n part (is_seed_fault seed) wanted)
filled_within n part (Err stop) wanted entropy made said = subst (AllByRecursion (IsWithin n part 2 3)) (sym said) tt

-- ---- what the line's own entries say of it

fetch_agrees : (n part : ℕ) (entries : List FoundEntry) (what : FoundKind) (fails : Bool) (place : Option Location) → Agrees entries (fetch_at (taking_with (entry_of n part what) fails) place)
    → fetch_at (taking_with (entry_of n part what) fails) place ≡ fetch_at (taking_at (spot_of n part entries) what) place
fetch_agrees n part entries what fails None agrees = refl
fetch_agrees n part entries what fails (Some Prompt) agrees = refl
fetch_agrees n part entries what fails (Some (File path)) agrees = ap (λ b. taking_with (entry_of n part what) b ∷ []) (sym agrees.0)

material_agrees : (n part : ℕ) (entries : List FoundEntry) (what : FoundKind) (fails : Bool) (place : Option Location) (files : List (List ℕ × List ℕ)) (script : Script) → Agrees entries (fetch_at (taking_with (entry_of n part what) fails) place)
    → material_at (taking_with (entry_of n part what) fails) files script place ≡ material_at (taking_at (spot_of n part entries) what) files script place
material_agrees n part entries what fails None files script agrees = refl
material_agrees n part entries what fails (Some Prompt) files script agrees = refl
material_agrees n part entries what fails (Some (File path)) files script agrees = ap (λ b. material_at (taking_with (entry_of n part what) b) files script (Some (File path))) (sym agrees.0)

-- only a prompt ends a run
stops_agree : (n part : ℕ) (entries : List FoundEntry) (what : FoundKind) (place : Option Location) (files : List (List ℕ × List ℕ)) (script : Script) (number at : ℕ) → material_at (taking_with (entry_of n part what) false) files script place ≡ Stops number at
    → material_at (taking_at (spot_of n part entries) what) files script place ≡ Stops number at
stops_agree n part entries what None files script number at stops = absurd (cc)
stops_agree n part entries what (Some Prompt) files script number at stops = stops
stops_agree n part entries what (Some (File path)) files script number at stops = absurd (cc)

front_nil : {A : Type 0} (whole : List A) → IsFront [] whole
front_nil whole = (whole, refl)

front_agrees : (n part : ℕ) (entries : List FoundEntry) (what : FoundKind) (place : Option Location) (made : List Taking) → Agrees entries made → IsFront made (fetch_at (taking_with (entry_of n part what) false) place)
    → IsFront made (fetch_at (taking_at (spot_of n part entries) what) place)
front_agrees n part entries what None made agrees front = front
front_agrees n part entries what (Some Prompt) made agrees front = front
front_agrees n part entries what (Some (File path)) [] agrees front = front_nil _
front_agrees n part entries what (Some (File path)) (taking ∷ made) agrees front =
    let same : taking_with (entry_of n part what) false ≡ taking = let e : taking_with (entry_of n part what) false ∷ [] ≡ taking ∷ (made ++ front.0) = front.1 in cc in
    let says : has_entry (entry_of n part what) entries ≡ false = subst (λ (t : Taking). has_entry t.entry entries ≡ t.fails) (sym same) agrees.0 in
    subst (λ (b : Bool). IsFront (taking ∷ made) (taking_with (entry_of n part what) b ∷ [])) (sym says) front

seed_agrees : (n part : ℕ) (entries : List FoundEntry) (left : List ℕ) (fails : Bool) → has_entry (entry_of n part Seed) entries ≡ fails → fails || is_short left ≡ fails → taking_with (entry_of n part Seed) fails ≡ seed_at (spot_of n part entries) left
seed_agrees n part entries left fails says enough =
    ap (λ b. taking_with (entry_of n part Seed) b) (sym (ap (λ b. b || is_short left) says ∙ enough))

pub fill_agrees : (n part : ℕ) (entries : List FoundEntry) (left : List ℕ) (fails wanted : Bool) → (wanted ≡ true → fails || is_short left ≡ fails) → Agrees entries (fill_at (taking_with (entry_of n part Seed) fails) wanted)
    → (fill_at (taking_with (entry_of n part Seed) fails) wanted ≡ fill_at (seed_at (spot_of n part entries) left) wanted)
    × (seed_from (taking_with (entry_of n part Seed) fails) left wanted ≡ seed_from (seed_at (spot_of n part entries) left) left wanted)
fill_agrees n part entries left fails false enough agrees = (refl, refl)
fill_agrees n part entries left fails true enough agrees =
    let same : taking_with (entry_of n part Seed) fails ≡ seed_at (spot_of n part entries) left = seed_agrees n part entries left fails agrees.0 (enough refl) in
    (ap (λ t. fill_at t true) same, ap (λ t. seed_from t left true) same)

-- ---- a fetch leaves the entropy

fetch_fills : (n part : ℕ) (what : FoundKind) → is_fetch what ≡ true → (fails : Bool) (place : Option Location) → fills_of (fetch_at (taking_with (entry_of n part what) fails) place) ≡ []
fetch_fills n part what fetch fails None = refl
fetch_fills n part what fetch fails (Some Prompt) = refl
fetch_fills n part what fetch fails (Some (File path)) = by_kind what fetch where
  by_kind : (what : FoundKind) → is_fetch what ≡ true → fills_of (taking_with (entry_of n part what) fails ∷ []) ≡ []
  by_kind OldKey fetch = refl
  by_kind NewKey fetch = refl
  by_kind Seed fetch = absurd (cc)
  by_kind other fetch = refl

same_entropy : (a b : Outer) (here : ℕ → Type 0) (made : List Taking) (left : List ℕ) → Takes here made a b → fills_of made ≡ [] → a.entropy ≡ Some left → b.entropy ≡ Some left
same_entropy a b here made left takes none told =
    let now : IfSome (Some left) (λ l. b.entropy ≡ Some (left_after (fills_of made) l)) = subst (λ (e : Option (List ℕ)). IfSome e (λ l. b.entropy ≡ Some (left_after (fills_of made) l))) told takes.entropy in
    now ∙ ap (λ bs. Some (left_after bs left)) none

-- ---- all three

where_each : {A B C : Type 0} (a : Option A) (b : Option B) (c : Option C) (P : A → B → C → Type 0) → ((x : A) (y : B) (z : C) → a ≡ Some x → b ≡ Some y → c ≡ Some z → P x y z) → IfSome a (λ x. IfSome b (λ y. IfSome c (λ z. P x y z)))
where_each None b c P holds = tt
where_each (Some x) None c P holds = tt
where_each (Some x) (Some y) None P holds = tt
where_each (Some x) (Some y) (Some z) P holds = holds x y z refl refl refl

pub told_at : {A : Type 0} (a : Option A) (x : A) (P : A → Type 0) → a ≡ Some x → IfSome a P → P x
told_at a x P told holds = let here : IfSome (Some x) P = subst (λ (o : Option _). IfSome o P) told holds in here

pub some_of : {A : Type 0} (a : Option A) (P : A → Type 0) → IsSomeAnd a P → (x : A) × (a ≡ Some x) × P x
some_of None P holds = absurd holds
some_of (Some x) P holds = (x, refl, holds)

some_at : {A : Type 0} (a : Option A) (x : A) (P : A → Type 0) → a ≡ Some x → P x → IsSomeAnd a P
some_at None x P told holds = absurd (cc)
some_at (Some y) x P told holds = let same : x ≡ y = cc in subst P same holds

-- a fetch gave what its place gives, and left so much of the script
gave_of : (n part : ℕ) (what : FoundKind) (given : Fetched) (place : Option Location) (outer : Option (List (List ℕ × List ℕ))) (old new : ToldScript) (made : List Taking) (entries : List FoundEntry) (files : List (List ℕ × List ℕ)) (script : Script)
    → outer ≡ Some files → script_told old ≡ Some script → Agrees entries made → Fetches (Ok given) (entry_of n part what) place outer old new made
    → (left : Script) × (script_told new ≡ Some left) × (material_at (taking_at (spot_of n part entries) what) files script place ≡ Gives given left) × (made ≡ fetch_at (taking_at (spot_of n part entries) what) place)
gave_of n part what given place outer old new made entries files script f s agrees said =
    let made_agrees : Agrees entries (fetch_at (taking_with (entry_of n part what) (is_fault given)) place) = subst (Agrees entries) said.0 agrees in
    let gives : IsSomeAnd (script_told new) (λ left. material_at (taking_with (entry_of n part what) (is_fault given)) files script place ≡ Gives given left) =
    told_at (script_told old) script (λ here. IsSomeAnd (script_told new) (λ left. material_at (taking_with (entry_of n part what) (is_fault given)) files here place ≡ Gives given left)) s
    (told_at outer files (λ fs. IfSome (script_told old) (λ here. IsSomeAnd (script_told new) (λ left. material_at (taking_with (entry_of n part what) (is_fault given)) fs here place ≡ Gives given left))) f said.1) in
    let found = some_of (script_told new) (λ left. material_at (taking_with (entry_of n part what) (is_fault given)) files script place ≡ Gives given left) gives in (
      found.0,
      found.1,
      sym (material_agrees n part entries what (is_fault given) place files script made_agrees) ∙ found.2,
      said.0 ∙ fetch_agrees n part entries what (is_fault given) place made_agrees,
    )

-- a fetch was the first of three takings, and the run is over behind it
front_of_first : (first rest last : List Taking) (made : List Taking) → IsFront made first → IsFront made (first ++ rest ++ last)
front_of_first first rest last made front = ((front.0 ++ rest) ++ last, ap (λ xs. (xs ++ rest) ++ last) front.1 ∙ ap (λ xs. xs ++ last) (append_assoc made front.0 rest) ∙ append_assoc made (front.0 ++ rest) last)

front_of_second : (first second last : List Taking) (xs ys : List Taking) → xs ≡ first → IsFront ys second → IsFront (xs ++ ys) (first ++ second ++ last)
front_of_second first second last xs ys same front = (
  front.0 ++ last,
  ap (λ zs. (zs ++ second) ++ last) (sym same) ∙ ap (λ zs. (xs ++ zs) ++ last) front.1 ∙ ap (λ zs. zs ++ last) (sym (append_assoc xs ys front.0)) ∙ append_assoc (xs ++ ys) front.0 last,
)

-- no fetch is a fill
fetched_fills : (n part : ℕ) (what : FoundKind) → is_fetch what ≡ true → (result : Result Fetched Halt) (place : Option Location) (files : Option (List (List ℕ × List ℕ))) (old new : ToldScript) (made : List Taking) → Fetches result (entry_of n part what) place files old new made
    → fills_of made ≡ []
fetched_fills n part what fetch (Ok given) place files old new made said = ap fills_of said.0 ∙ fetch_fills n part what fetch (is_fault given) place
fetched_fills n part what fetch (Err (BadLine number at)) place files old new made said = ap fills_of said.0
fetched_fills n part what fetch (Err ReadFault) place files old new made said = ap fills_of said
fetched_fills n part what fetch (Err NoMemory) place files old new made said = none (fetch_at (taking_with (entry_of n part what) false) place) said (fetch_fills n part what fetch false place) where
  second : {A : Type 0} (xs ys : List A) → xs ++ ys ≡ [] → xs ≡ []
  second [] ys e = refl
  second (x ∷ xs) ys e = absurd (cc)

  none : (whole : List Taking) → IsFront made whole → fills_of whole ≡ [] → fills_of made ≡ []
  none whole front empty = second (fills_of made) (fills_of front.0) (sym (outcomes_both is_fill made front.0) ∙ ap fills_of (sym front.1) ∙ empty)

-- a front of what is taken at a place: nothing, or the place is a file
nothing_or_file : (taking : Taking) (place : Option Location) (made : List Taking) (files : List (List ℕ × List ℕ)) (script : Script) → IsFront made (fetch_at taking place)
    → (made ≡ []) ⊎ ((given : Fetched) × (left : Script) × (material_at taking files script place ≡ Gives given left))
nothing_or_file taking None made files script front = inl (no_front made front) where
  no_front : (made : List Taking) → IsFront made [] → made ≡ []
  no_front [] front = refl
  no_front (other ∷ made) front = absurd (let e : [] ≡ other ∷ (made ++ front.0) = front.1 in cc)
nothing_or_file taking (Some Prompt) made files script front = inl (no_front made front) where
  no_front : (made : List Taking) → IsFront made [] → made ≡ []
  no_front [] front = refl
  no_front (other ∷ made) front = absurd (let e : [] ≡ other ∷ (made ++ front.0) = front.1 in cc)
nothing_or_file taking (Some (File path)) made files script front = inr (_, script, refl)

-- the first fetch was made, and of the second nothing
front_with_new : (spot : Spot) (left : List ℕ) (wants : Wanted) (old : Fetched) (given : Given Fetched) (xs ys : List Taking) → xs ≡ fetch_at (taking_at spot OldKey) wants.old_place → ys ≡ []
    → IsFront (xs ++ ys) (supply_takings (with_new spot left wants old given))
front_with_new spot left wants old (Stops number at) xs ys first none = ([], sym first ∙ sym (append-nil xs) ∙ sym (append-nil (xs ++ [])) ∙ ap (λ zs. (xs ++ zs) ++ []) (sym none))
front_with_new spot left wants old (Gives new script) xs ys first none =
    front_of_second (fetch_at (taking_at spot OldKey) wants.old_place) (fetch_at (taking_at spot NewKey) wants.new_place) (fill_at (seed_at spot left) wants.seed) xs ys first
    (subst (λ zs. IsFront zs (fetch_at (taking_at spot NewKey) wants.new_place)) (sym none) (front_nil _))

-- a front of the first fetch was made
front_with_old : (spot : Spot) (left : List ℕ) (wants : Wanted) (old : Fetched) (given : Given Fetched) (made : List Taking) → IsFront made (fetch_at (taking_at spot OldKey) wants.old_place)
    → IsFront made (supply_takings (with_new spot left wants old given))
front_with_old spot left wants old (Stops number at) made front = front
front_with_old spot left wants old (Gives new script) made front =
    front_of_first (fetch_at (taking_at spot OldKey) wants.old_place) (fetch_at (taking_at spot NewKey) wants.new_place) (fill_at (seed_at spot left) wants.seed) made front

-- the run is over at the first fetch
stopped_first : (n part : ℕ) (halt : Halt) (wants : Wanted) (entries : List FoundEntry) (outer : Option (List (List ℕ × List ℕ))) (old new : ToldScript) (made : List Taking) (files : List (List ℕ × List ℕ)) (left : List ℕ) (script : Script)
    → outer ≡ Some files → script_told old ≡ Some script → Agrees entries made → Fetches (Err halt) (entry_of n part OldKey) wants.old_place outer old new made
    → GivesKit (Err halt) (kit_of (spot_of n part entries) files left script wants) (script_told new) made
stopped_first n part (BadLine number at) wants entries outer old new made files left script f s agrees said =
    let stops : material_at (taking_with (entry_of n part OldKey) false) files script wants.old_place ≡ Stops number at =
    told_at (script_told old) script (λ here. material_at (taking_with (entry_of n part OldKey) false) files here wants.old_place ≡ Stops number at) s
    (told_at outer files (λ fs. IfSome (script_told old) (λ here. material_at (taking_with (entry_of n part OldKey) false) fs here wants.old_place ≡ Stops number at)) f said.1) in
    ap (with_old (spot_of n part entries) files left wants) (stops_agree n part entries OldKey wants.old_place files script number at stops) ∙ ap (λ xs. Lacks number at xs) (sym said.0)
stopped_first n part ReadFault wants entries outer old new made files left script f s agrees said =
    (subst (λ xs. IsFront xs (supply_takings (kit_of (spot_of n part entries) files left script wants))) (sym said) (front_nil _), ap fills_of said)
stopped_first n part NoMemory wants entries outer old new made files left script f s agrees said =
    let front : IsFront made (fetch_at (taking_at (spot_of n part entries) OldKey) wants.old_place) = front_agrees n part entries OldKey wants.old_place made agrees said in
    ⊎_elim (λ none. subst (λ xs. IsFront xs (supply_takings (kit_of (spot_of n part entries) files left script wants))) (sym none) (front_nil _))
    (λ file. subst (λ (g : Given Fetched). IsFront made (supply_takings (with_old (spot_of n part entries) files left wants g))) (sym file.2)
    (front_with_old (spot_of n part entries) left wants file.0 (material_at (taking_at (spot_of n part entries) NewKey) files file.1 wants.new_place) made front))
    (nothing_or_file (taking_at (spot_of n part entries) OldKey) wants.old_place made files script front)

-- at the second
stopped_second : (n part : ℕ) (halt : Halt) (wants : Wanted) (entries : List FoundEntry) (outer : Option (List (List ℕ × List ℕ))) (old new : ToldScript) (xs ys : List Taking) (files : List (List ℕ × List ℕ)) (left : List ℕ) (script : Script) (given : Fetched)
    → outer ≡ Some files → script_told old ≡ Some script → xs ≡ fetch_at (taking_at (spot_of n part entries) OldKey) wants.old_place → fills_of xs ≡ [] → Agrees entries ys → Fetches (Err halt) (entry_of n part NewKey) wants.new_place outer old new ys
    → GivesKit (Err halt) (with_new (spot_of n part entries) left wants given (material_at (taking_at (spot_of n part entries) NewKey) files script wants.new_place)) (script_told new) (xs ++ ys)
stopped_second n part (BadLine number at) wants entries outer old new xs ys files left script given f s first empty agrees said =
    let stops : material_at (taking_with (entry_of n part NewKey) false) files script wants.new_place ≡ Stops number at =
    told_at (script_told old) script (λ here. material_at (taking_with (entry_of n part NewKey) false) files here wants.new_place ≡ Stops number at) s
    (told_at outer files (λ fs. IfSome (script_told old) (λ here. material_at (taking_with (entry_of n part NewKey) false) fs here wants.new_place ≡ Stops number at)) f said.1) in
    ap (with_new (spot_of n part entries) left wants given) (stops_agree n part entries NewKey wants.new_place files script number at stops)
    ∙ ap (λ zs. Lacks number at zs) (sym first ∙ sym (append-nil xs) ∙ ap (λ zs. xs ++ zs) (sym said.0))
stopped_second n part ReadFault wants entries outer old new xs ys files left script given f s first empty agrees said = (
  front_with_new (spot_of n part entries) left wants given (material_at (taking_at (spot_of n part entries) NewKey) files script wants.new_place) xs ys first said,
  outcomes_both is_fill xs ys ∙ ap (λ bs. bs ++ fills_of ys) empty ∙ ap fills_of said,
)
stopped_second n part NoMemory wants entries outer old new xs ys files left script given f s first empty agrees said =
    let front : IsFront ys (fetch_at (taking_at (spot_of n part entries) NewKey) wants.new_place) = front_agrees n part entries NewKey wants.new_place ys agrees said in
    ⊎_elim (λ none. front_with_new (spot_of n part entries) left wants given (material_at (taking_at (spot_of n part entries) NewKey) files script wants.new_place) xs ys first none)
    (λ file. subst (λ (g : Given Fetched). IsFront (xs ++ ys) (supply_takings (with_new (spot_of n part entries) left wants given g))) (sym file.2)
    (front_of_second (fetch_at (taking_at (spot_of n part entries) OldKey) wants.old_place) (fetch_at (taking_at (spot_of n part entries) NewKey) wants.new_place) (fill_at (seed_at (spot_of n part entries) left) wants.seed) xs ys first front))
    (nothing_or_file (taking_at (spot_of n part entries) NewKey) wants.new_place ys files script front)

pub kit_stopped_first : (n part : ℕ) (wants : Wanted) (a b : Outer) (sa sb : ToldScript) (halt : Halt) → Acts n a b (Fetches (Err halt) (entry_of n part OldKey) wants.old_place a.files sa sb)
    → ActsAs n part a b (λ made. (entries : List FoundEntry) → Agrees entries made → TakesKit (Err halt) n part wants entries a sa sb made)
kit_stopped_first n part wants a b sa sb halt p = record {
  made = p.made;
  takes = p.takes;
  said = (
    all_of_part n part 0 1 p.made (fetched_within n part OldKey (Err halt) wants.old_place a.files sa sb p.made p.said),
    λ entries agrees.
        where_each a.files a.entropy (script_told sa) (λ files left script. GivesKit (Err halt) (kit_of (spot_of n part entries) files left script wants) (script_told sb) p.made)
        (λ files left script f e s. stopped_first n part halt wants entries a.files sa sb p.made files left script f s agrees p.said),
  );
}

pub kit_stopped_second : (n part : ℕ) (wants : Wanted) (a b c : Outer) (sa sb sc : ToldScript) (old_key : Fetched) (halt : Halt)
    → Acts n a b (Fetches (Ok old_key) (entry_of n part OldKey) wants.old_place a.files sa sb) → Acts n b c (Fetches (Err halt) (entry_of n part NewKey) wants.new_place b.files sb sc)
    → ActsAs n part a c (λ made. (entries : List FoundEntry) → Agrees entries made → TakesKit (Err halt) n part wants entries a sa sc made)
kit_stopped_second n part wants a b c sa sb sc old_key halt p q =
    let first : AllByRecursion (IsWithin n part 0 1) p.made = fetched_within n part OldKey (Ok old_key) wants.old_place a.files sa sb p.made p.said in
    let second : AllByRecursion (IsWithin n part 1 2) q.made = fetched_within n part NewKey (Err halt) wants.new_place b.files sb sc q.made q.said in
    record {
      made = p.made ++ q.made;
      takes = takes_both (λ line. line ≡ n) p.made q.made a b c (order_within n part 0 1 2 p.made q.made first second p.takes.order q.takes.order) p.takes q.takes;
      said = (
        all_both (λ taking. taking.entry.part ≡ part) p.made q.made (all_of_part n part 0 1 p.made first) (all_of_part n part 1 2 q.made second),
        λ entries agrees.
            where_each a.files a.entropy (script_told sa) (λ files left script. GivesKit (Err halt) (kit_of (spot_of n part entries) files left script wants) (script_told sc) (p.made ++ q.made))
            (λ files left script f e s.
            let gave = gave_of n part OldKey old_key wants.old_place a.files sa sb p.made entries files script f s (all_first (λ taking. has_entry taking.entry entries ≡ taking.fails) p.made q.made agrees) p.said in
            subst (λ (g : Given Fetched). GivesKit (Err halt) (with_old (spot_of n part entries) files left wants g) (script_told sc) (p.made ++ q.made)) (sym gave.2)
            (stopped_second n part halt wants entries b.files sb sc p.made q.made files left gave.0 old_key (p.takes.files ∙ f) gave.1 gave.3
            (fetched_fills n part OldKey refl (Ok old_key) wants.old_place a.files sa sb p.made p.said) (all_second (λ taking. has_entry taking.entry entries ≡ taking.fails) p.made q.made agrees) q.said)),
      );
    }

-- the takings of all three, whatever the last gave
takes_three : (n part : ℕ) (wants : Wanted) (a b c d : Outer) (sa sb sc : ToldScript) (old_key new_key : Fetched) (seed : Result SeedGot AllocError) (xs ys zs : List Taking)
    → Fetches (Ok old_key) (entry_of n part OldKey) wants.old_place a.files sa sb xs → Fetches (Ok new_key) (entry_of n part NewKey) wants.new_place b.files sb sc ys → Fills seed (entry_of n part Seed) wants.seed c.entropy zs
    → Takes (λ line. line ≡ n) xs a b → Takes (λ line. line ≡ n) ys b c → Takes (λ line. line ≡ n) zs c d → Takes (λ line. line ≡ n) ((xs ++ ys) ++ zs) a d
takes_three n part wants a b c d sa sb sc old_key new_key seed xs ys zs p q r takes_x takes_y takes_z =
    let first : AllByRecursion (IsWithin n part 0 1) xs = fetched_within n part OldKey (Ok old_key) wants.old_place a.files sa sb xs p in
    let second : AllByRecursion (IsWithin n part 1 2) ys = fetched_within n part NewKey (Ok new_key) wants.new_place b.files sb sc ys q in
    let third : AllByRecursion (IsWithin n part 2 3) zs = filled_within n part seed wants.seed c.entropy zs r in
    let both : AllByRecursion (IsWithin n part 0 2) (xs ++ ys) = all_both (IsWithin n part 0 2) xs ys (within_wider n part 0 1 2 xs (omega arith) first) (within_from n part 0 1 2 ys (omega arith) second) in
    let both_order : AreInOrder (entries_made (xs ++ ys)) = order_within n part 0 1 2 xs ys first second takes_x.order takes_y.order in
    takes_both (λ line. line ≡ n) (xs ++ ys) zs a c d (order_within n part 0 2 3 (xs ++ ys) zs both third both_order takes_z.order) (takes_both (λ line. line ≡ n) xs ys a b c both_order takes_x takes_y) takes_z

parts_three : (n part : ℕ) (wants : Wanted) (files : Option (List (List ℕ × List ℕ))) (more_files : Option (List (List ℕ × List ℕ))) (entropy : Option (List ℕ)) (sa sb sc : ToldScript) (old_key new_key : Fetched) (seed : Result SeedGot AllocError) (xs ys zs : List Taking)
    → Fetches (Ok old_key) (entry_of n part OldKey) wants.old_place files sa sb xs → Fetches (Ok new_key) (entry_of n part NewKey) wants.new_place more_files sb sc ys → Fills seed (entry_of n part Seed) wants.seed entropy zs
    → AllByRecursion (λ taking. taking.entry.part ≡ part) ((xs ++ ys) ++ zs)
parts_three n part wants files more_files entropy sa sb sc old_key new_key seed xs ys zs p q r =
    all_both (λ taking. taking.entry.part ≡ part) (xs ++ ys) zs
    (all_both (λ taking. taking.entry.part ≡ part) xs ys (all_of_part n part 0 1 xs (fetched_within n part OldKey (Ok old_key) wants.old_place files sa sb xs p))
    (all_of_part n part 1 2 ys (fetched_within n part NewKey (Ok new_key) wants.new_place more_files sb sc ys q)))
    (all_of_part n part 2 3 zs (filled_within n part seed wants.seed entropy zs r))

pub kit_stopped_third : (n part : ℕ) (wants : Wanted) (a b c d : Outer) (sa sb sc : ToldScript) (old_key new_key : Fetched) (stop : AllocError)
    → Acts n a b (Fetches (Ok old_key) (entry_of n part OldKey) wants.old_place a.files sa sb) → Acts n b c (Fetches (Ok new_key) (entry_of n part NewKey) wants.new_place b.files sb sc)
    → Acts n c d (Fills (Err stop) (entry_of n part Seed) wants.seed c.entropy)
    → ActsAs n part a d (λ made. (entries : List FoundEntry) → Agrees entries made → TakesKit (Err NoMemory) n part wants entries a sa sc made)
kit_stopped_third n part wants a b c d sa sb sc old_key new_key stop p q r = record {
  made = (p.made ++ q.made) ++ r.made;
  takes = takes_three n part wants a b c d sa sb sc old_key new_key (Err stop) p.made q.made r.made p.said q.said r.said p.takes q.takes r.takes;
  said = (
    parts_three n part wants a.files b.files c.entropy sa sb sc old_key new_key (Err stop) p.made q.made r.made p.said q.said r.said,
    λ entries agrees.
        where_each a.files a.entropy (script_told sa) (λ files left script. GivesKit (Err NoMemory) (kit_of (spot_of n part entries) files left script wants) (script_told sc) ((p.made ++ q.made) ++ r.made))
        (λ files left script f e s.
        let agrees_keys = all_first (λ taking. has_entry taking.entry entries ≡ taking.fails) (p.made ++ q.made) r.made agrees in
        let old = gave_of n part OldKey old_key wants.old_place a.files sa sb p.made entries files script f s (all_first (λ taking. has_entry taking.entry entries ≡ taking.fails) p.made q.made agrees_keys) p.said in
        let new = gave_of n part NewKey new_key wants.new_place b.files sb sc q.made entries files old.0 (p.takes.files ∙ f) old.1 (all_second (λ taking. has_entry taking.entry entries ≡ taking.fails) p.made q.made agrees_keys) q.said in
        let last : List Taking = fill_at (seed_at (spot_of n part entries) left) wants.seed in
        subst (λ (g : Given Fetched). IsFront ((p.made ++ q.made) ++ r.made) (supply_takings (with_old (spot_of n part entries) files left wants g))) (sym old.2)
        (subst (λ (g : Given Fetched). IsFront ((p.made ++ q.made) ++ r.made) (supply_takings (with_new (spot_of n part entries) left wants old_key g))) (sym new.2) (
          last,
          ap (λ xs. (xs ++ fetch_at (taking_at (spot_of n part entries) NewKey) wants.new_place) ++ last) (sym old.3) ∙ ap (λ xs. (p.made ++ xs) ++ last) (sym new.3)
              ∙ ap (λ xs. xs ++ last) (sym (append-nil (p.made ++ q.made)) ∙ ap (λ xs. (p.made ++ q.made) ++ xs) (sym r.said)),
        ))),
  );
}

-- all three were made
pub kit_taken : (n part : ℕ) (wants : Wanted) (a b c d : Outer) (sa sb sc : ToldScript) (old_key new_key : Fetched) (seed : SeedGot)
    → Acts n a b (Fetches (Ok old_key) (entry_of n part OldKey) wants.old_place a.files sa sb) → Acts n b c (Fetches (Ok new_key) (entry_of n part NewKey) wants.new_place b.files sb sc)
    → Acts n c d (Fills (Ok seed) (entry_of n part Seed) wants.seed c.entropy)
    → ActsAs n part a d (λ made. (entries : List FoundEntry) → Agrees entries made → TakesKit (Ok record { old_key = old_key; new_key = new_key; seed = seed }) n part wants entries a sa sc made)
kit_taken n part wants a b c d sa sb sc old_key new_key seed p q r =
    let here : ℕ → Type 0 = λ line. line ≡ n in
    record {
      made = (p.made ++ q.made) ++ r.made;
      takes = takes_three n part wants a b c d sa sb sc old_key new_key (Ok seed) p.made q.made r.made p.said q.said r.said p.takes q.takes r.takes;
      said = (
        parts_three n part wants a.files b.files c.entropy sa sb sc old_key new_key (Ok seed) p.made q.made r.made p.said q.said r.said,
        λ entries agrees.
            where_each a.files a.entropy (script_told sa)
            (λ files left script. GivesKit (Ok record { old_key = old_key; new_key = new_key; seed = seed }) (kit_of (spot_of n part entries) files left script wants) (script_told sc) ((p.made ++ q.made) ++ r.made))
            (λ files left script f e s.
            let agrees_keys = all_first (λ taking. has_entry taking.entry entries ≡ taking.fails) (p.made ++ q.made) r.made agrees in
            let old = gave_of n part OldKey old_key wants.old_place a.files sa sb p.made entries files script f s (all_first (λ taking. has_entry taking.entry entries ≡ taking.fails) p.made q.made agrees_keys) p.said in
            let new = gave_of n part NewKey new_key wants.new_place b.files sb sc q.made entries files old.0 (p.takes.files ∙ f) old.1 (all_second (λ taking. has_entry taking.entry entries ≡ taking.fails) p.made q.made agrees_keys) q.said in
            let agrees_seed : Agrees entries (fill_at (taking_with (entry_of n part Seed) (is_seed_fault seed)) wants.seed) =
            subst (Agrees entries) r.said.0 (all_second (λ taking. has_entry taking.entry entries ≡ taking.fails) (p.made ++ q.made) r.made agrees) in
            let left_b : b.entropy ≡ Some left = same_entropy a b here p.made left p.takes (fetched_fills n part OldKey refl (Ok old_key) wants.old_place a.files sa sb p.made p.said) e in
            let left_c : c.entropy ≡ Some left = same_entropy b c here q.made left q.takes (fetched_fills n part NewKey refl (Ok new_key) wants.new_place b.files sb sc q.made q.said) left_b in
            let seed_told = told_at c.entropy left
            (λ l. (seed ≡ seed_from (taking_with (entry_of n part Seed) (is_seed_fault seed)) l wants.seed) × (wants.seed ≡ true → is_seed_fault seed || is_short l ≡ is_seed_fault seed)) left_c r.said.1 in
            let filled = fill_agrees n part entries left (is_seed_fault seed) wants.seed seed_told.1 agrees_seed in
            let seed_is : seed ≡ seed_from (seed_at (spot_of n part entries) left) left wants.seed = seed_told.0 ∙ filled.1 in
            let made_seed : r.made ≡ fill_at (seed_at (spot_of n part entries) left) wants.seed = r.said.0 ∙ filled.0 in
            some_at (script_told sc) new.0 (λ later. kit_of (spot_of n part entries) files left script wants ≡ Has (record { old_key = old_key; new_key = new_key; seed = seed }) later ((p.made ++ q.made) ++ r.made)) new.1
            (ap (with_old (spot_of n part entries) files left wants) old.2 ∙ ap (with_new (spot_of n part entries) left wants old_key) new.2
            ∙ same_supply old_key new_key seed (seed_from (seed_at (spot_of n part entries) left) left wants.seed) new.0 (takings_of (spot_of n part entries) left wants) ((p.made ++ q.made) ++ r.made) seed_is
            (ap (λ xs. (xs ++ q.made) ++ r.made) old.3 ∙ ap (λ xs. (fetch_at (taking_at (spot_of n part entries) OldKey) wants.old_place ++ xs) ++ r.made) new.3
            ∙ ap (λ xs. (fetch_at (taking_at (spot_of n part entries) OldKey) wants.old_place ++ fetch_at (taking_at (spot_of n part entries) NewKey) wants.new_place) ++ xs) made_seed))),
      );
    } where
      same_supply : (old_key new_key : Fetched) (seed z : SeedGot) (later : Script) (whole made : List Taking) → seed ≡ z → made ≡ whole
          → (let supply : Supply = Has (record { old_key = old_key; new_key = new_key; seed = z }) later whole in supply) ≡ Has (record { old_key = old_key; new_key = new_key; seed = seed }) later made
      same_supply old_key new_key seed z later whole made e f =
          let kit : SeedGot → LineKit = λ s. record { old_key = old_key; new_key = new_key; seed = s } in
          ap (λ s. Has (kit s) later whole) (sym e) ∙ ap (λ xs. Has (kit seed) later xs) (sym f)
