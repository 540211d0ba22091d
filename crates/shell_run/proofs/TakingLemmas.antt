-- Takings, one after another.
use Rattle.std.proofs.Common.{◌≡◌, ◌⊎◌, inl, inr, ◌<◌, ℕ, ◌+◌, Bool, true, false, ◌&&◌, ◌||◌, ◌==◌, List, [], ◌∷◌, ◌++◌, drop, map, if◌then◌else◌, Option, Some, None, IfSome, refl, ap, sym, ◌∙◌, subst, append_assoc, ⊎_elim, arith}
use Rattle.std.specs.Option.{option_map}
use Rattle.std.specs.List.{AllByRecursion}
use Rattle.std.proofs.lemmas.List.{append-nil}
use Rattle.std.proofs.lemmas.Bool.Decides.{nat_tests}
use Rattle.edge_io.specs.Counts.{one_more, is_listed, next_listed}
use Rattle.edge_io.specs.Entropy.{is_short, fill_fails}
use Rattle.shell_run.specs.declared.found.FoundEntry.{FoundEntry}
use Rattle.shell_run.specs.declared.found.FoundKind.{FoundKind}
use Rattle.shell_run.specs.declared.found.FoundKind.TheVariants.{OldKey, NewKey, Seed, Streams, Shelf}
use Rattle.shell_run.specs.Answers.{IsCalled, Agrees, taking_with}
use Rattle.shell_run.specs.Outer.{Calls, Outer, number_after, failed_count, Called, FailWhereListed, left_after, FailWhereListedOrShort, Takes}
use Rattle.shell_run.specs.Takings.{rank, IsBefore, AreInOrder, entries_of, has_entry, Taking, failures, is_fetch, is_fill, outcomes, fetches_of, fills_of}

abbrev pub entries_made : List Taking → List FoundEntry
entries_made made = map (λ taking. taking.entry) made

-- ---- two lists of takings

entries_both : (xs ys : List Taking) → entries_made (xs ++ ys) ≡ entries_made xs ++ entries_made ys
entries_both [] ys = refl
entries_both (taking ∷ xs) ys = ap (λ es. taking.entry ∷ es) (entries_both xs ys)

pub failures_both : (xs ys : List Taking) → failures (xs ++ ys) ≡ failures xs ++ failures ys
failures_both [] ys = refl
failures_both (taking ∷ xs) ys = by_case (failures_both xs ys) taking.fails where
  by_case : failures (xs ++ ys) ≡ failures xs ++ failures ys → (b : Bool) → (if b then taking.entry ∷ failures (xs ++ ys) else failures (xs ++ ys)) ≡ (if b then taking.entry ∷ failures xs else failures xs) ++ failures ys
  by_case rest true = ap (λ es. taking.entry ∷ es) rest
  by_case rest false = rest

pub outcomes_both : (is_kind : FoundKind → Bool) (xs ys : List Taking) → outcomes is_kind (xs ++ ys) ≡ outcomes is_kind xs ++ outcomes is_kind ys
outcomes_both is_kind [] ys = refl
outcomes_both is_kind (taking ∷ xs) ys = by_case (outcomes_both is_kind xs ys) (is_kind taking.entry.what) where
  by_case : outcomes is_kind (xs ++ ys) ≡ outcomes is_kind xs ++ outcomes is_kind ys → (b : Bool)
      → (if b then taking.fails ∷ outcomes is_kind (xs ++ ys) else outcomes is_kind (xs ++ ys)) ≡ (if b then taking.fails ∷ outcomes is_kind xs else outcomes is_kind xs) ++ outcomes is_kind ys
  by_case rest true = ap (λ bs. taking.fails ∷ bs) rest
  by_case rest false = rest

pub all_both : {A : Type 0} (P : A → Type 0) (xs ys : List A) → AllByRecursion P xs → AllByRecursion P ys → AllByRecursion P (xs ++ ys)
all_both P [] ys p q = q
all_both P (x ∷ xs) ys p q = (p.0, all_both P xs ys p.1 q)

pub all_first : {A : Type 0} (P : A → Type 0) (xs ys : List A) → AllByRecursion P (xs ++ ys) → AllByRecursion P xs
all_first P [] ys p = tt
all_first P (x ∷ xs) ys p = (p.0, all_first P xs ys p.1)

pub all_second : {A : Type 0} (P : A → Type 0) (xs ys : List A) → AllByRecursion P (xs ++ ys) → AllByRecursion P ys
all_second P [] ys p = p
all_second P (x ∷ xs) ys p = all_second P xs ys p.1

pub all_weaker : {A : Type 0} (P Q : A → Type 0) (xs : List A) → ((x : A) → P x → Q x) → AllByRecursion P xs → AllByRecursion Q xs
all_weaker P Q [] weaker p = tt
all_weaker P Q (x ∷ xs) weaker p = (weaker x p.0, all_weaker P Q xs weaker p.1)

all_entries : (P : FoundEntry → Type 0) (xs : List Taking) → AllByRecursion (λ taking. P taking.entry) xs → AllByRecursion P (entries_made xs)
all_entries P [] p = tt
all_entries P (taking ∷ xs) p = (p.0, all_entries P xs p.1)

-- ---- calls, one after another

number_both : (xs ys : List Bool) (n : ℕ) → number_after (xs ++ ys) n ≡ number_after ys (number_after xs n)
number_both [] ys n = refl
number_both (fails ∷ xs) ys n = number_both xs ys (one_more n)

failed_both : (xs ys : List Bool) → failed_count (xs ++ ys) ≡ failed_count xs + failed_count ys
failed_both [] ys = omega arith
failed_both (fails ∷ xs) ys = by_case (failed_both xs ys) fails where
  by_case : failed_count (xs ++ ys) ≡ failed_count xs + failed_count ys → (b : Bool) → (if b then failed_count (xs ++ ys) + 1 else failed_count (xs ++ ys)) ≡ (if b then failed_count xs + 1 else failed_count xs) + failed_count ys
  by_case rest true = omega (arith, rest)
  by_case rest false = rest

same_number : (told : Option ℕ) → told ≡ option_map (number_after []) told
same_number None = refl
same_number (Some n) = refl

numbers_both : (xs ys : List Bool) (a b c : Option ℕ) → b ≡ option_map (number_after xs) a → c ≡ option_map (number_after ys) b → c ≡ option_map (number_after (xs ++ ys)) a
numbers_both xs ys None b c p q = q ∙ ap (option_map (number_after ys)) p
numbers_both xs ys (Some n) b c p q = q ∙ ap (option_map (number_after ys)) p ∙ ap (λ m. Some m) (sym (number_both xs ys n))

called_none : (calls : Calls) → Called [] calls calls
called_none calls = record { made = same_number calls.made; failing = refl; later = omega arith; rose = omega arith; kept = λ _. refl }

called_more : (xs ys : List Bool) (a b c : Calls) → Called xs a b → Called ys b c → Called (xs ++ ys) a c
called_more xs ys a b c p q = record {
  made = numbers_both xs ys a.made b.made c.made p.made q.made;
  failing = q.failing ∙ p.failing;
  later = omega (arith, p.later, q.later);
  rose = omega (arith, failed_both xs ys, p.later, q.later, p.rose, q.rose);
  kept = λ none.
      let first : failed_count xs ≡ 0 = omega (arith, none, failed_both xs ys) in
      let second : failed_count ys ≡ 0 = omega (arith, none, failed_both xs ys) in
      q.kept second ∙ p.kept first;
}

called_once : (known : Option Bool) (fails : Bool) (old new : Calls) → IsCalled known fails old new → Called (fails ∷ []) old new
called_once known true old new p = record { made = once old.made new.made p.made; failing = p.failing; later = p.faults.0; rose = omega (arith, p.faults.1); kept = λ none. absurd (omega (arith, none)) } where
  once : (a b : Option ℕ) → b ≡ option_map one_more a → b ≡ option_map (number_after (true ∷ [])) a
  once None b e = e
  once (Some n) b e = e
called_once known false old new p = record { made = once old.made new.made p.made; failing = p.failing; later = omega (arith, p.faults); rose = omega (arith, p.faults); kept = λ none. p.faults } where
  once : (a b : Option ℕ) → b ≡ option_map one_more a → b ≡ option_map (number_after (false ∷ [])) a
  once None b e = e
  once (Some n) b e = e

listed_both : (failing : List ℕ) (n : ℕ) (xs ys : List Bool) → FailWhereListed failing n xs → FailWhereListed failing (number_after xs n) ys → FailWhereListed failing n (xs ++ ys)
listed_both failing n [] ys p q = q
listed_both failing n (fails ∷ xs) ys p q = (p.0, listed_both failing (one_more n) xs ys p.1 q)

left_both : (xs ys : List Bool) (left : List ℕ) → left_after (xs ++ ys) left ≡ left_after ys (left_after xs left)
left_both [] ys left = refl
left_both (fails ∷ xs) ys left = left_both xs ys (if fails then left else drop 32 left)

short_both : (failing : List ℕ) (n : ℕ) (left : List ℕ) (xs ys : List Bool) → FailWhereListedOrShort failing n left xs → FailWhereListedOrShort failing (number_after xs n) (left_after xs left) ys
    → FailWhereListedOrShort failing n left (xs ++ ys)
short_both failing n left [] ys p q = q
short_both failing n left (fails ∷ xs) ys p q = (p.0, short_both failing (one_more n) (if fails then left else drop 32 left) xs ys p.1 q)

-- where calls are told, so are the later ones
abbrev ListedAt : Option ℕ → Option (List ℕ) → List Bool → Type 0
ListedAt made failing xs = IfSome made (λ number. IfSome failing (λ listed. FailWhereListed listed number xs))

listed_more : (a b : Option ℕ) (fa fb : Option (List ℕ)) (xs ys : List Bool) → b ≡ option_map (number_after xs) a → fb ≡ fa → ListedAt a fa xs → ListedAt b fb ys → ListedAt a fa (xs ++ ys)
listed_more None b fa fb xs ys e f p q = tt
listed_more (Some n) b None fb xs ys e f p q = tt
listed_more (Some n) b (Some failing) fb xs ys e f p q =
    let there : ListedAt (Some (number_after xs n)) (Some failing) ys =
    subst (λ (m : Option ℕ). ListedAt m (Some failing) ys) e (subst (λ (l : Option (List ℕ)). ListedAt b l ys) f q) in
    listed_both failing n xs ys p there

abbrev ShortAt : Option ℕ → Option (List ℕ) → Option (List ℕ) → List Bool → Type 0
ShortAt made failing entropy xs = IfSome made (λ number. IfSome failing (λ listed. IfSome entropy (λ left. FailWhereListedOrShort listed number left xs)))

short_more : (a b : Option ℕ) (fa fb ea eb : Option (List ℕ)) (xs ys : List Bool) → b ≡ option_map (number_after xs) a → fb ≡ fa → IfSome ea (λ left. eb ≡ Some (left_after xs left))
    → ShortAt a fa ea xs → ShortAt b fb eb ys → ShortAt a fa ea (xs ++ ys)
short_more None b fa fb ea eb xs ys e f g p q = tt
short_more (Some n) b None fb ea eb xs ys e f g p q = tt
short_more (Some n) b (Some failing) fb None eb xs ys e f g p q = tt
short_more (Some n) b (Some failing) fb (Some left) eb xs ys e f g p q =
    let first : ShortAt b (Some failing) eb ys = subst (λ (l : Option (List ℕ)). ShortAt b l eb ys) f q in
    let second : ShortAt (Some (number_after xs n)) (Some failing) eb ys = subst (λ (m : Option ℕ). ShortAt m (Some failing) eb ys) e first in
    let third : ShortAt (Some (number_after xs n)) (Some failing) (Some (left_after xs left)) ys = subst (λ (l : Option (List ℕ)). ShortAt (Some (number_after xs n)) (Some failing) l ys) g second in
    short_both failing n left xs ys p third

left_more : (ea eb ec : Option (List ℕ)) (xs ys : List Bool) → IfSome ea (λ left. eb ≡ Some (left_after xs left)) → IfSome eb (λ left. ec ≡ Some (left_after ys left)) → IfSome ea (λ left. ec ≡ Some (left_after (xs ++ ys) left))
left_more None eb ec xs ys p q = tt
left_more (Some left) eb ec xs ys p q =
    let there : IfSome (Some (left_after xs left)) (λ l. ec ≡ Some (left_after ys l)) = subst (λ (e : Option (List ℕ)). IfSome e (λ l. ec ≡ Some (left_after ys l))) p q in
    there ∙ ap (λ l. Some l) (sym (left_both xs ys left))

same_left : (e : Option (List ℕ)) → IfSome e (λ left. e ≡ Some (left_after [] left))
same_left None = tt
same_left (Some left) = refl

none_listed_at : (made : Option ℕ) (failing : Option (List ℕ)) → ListedAt made failing []
none_listed_at None failing = tt
none_listed_at (Some n) None = tt
none_listed_at (Some n) (Some listed) = tt

none_short_at : (made : Option ℕ) (failing entropy : Option (List ℕ)) → ShortAt made failing entropy []
none_short_at None failing entropy = tt
none_short_at (Some n) None entropy = tt
none_short_at (Some n) (Some listed) None = tt
none_short_at (Some n) (Some listed) (Some left) = tt

-- ---- takings, one after another

pub takes_none : (here : ℕ → Type 0) (outer : Outer) → Takes here [] outer outer
takes_none here outer = record {
  order = tt;
  lines = tt;
  kinds = tt;
  found = sym (append-nil outer.found);
  files = refl;
  entropy = same_left outer.entropy;
  fetches = called_none outer.fetches;
  fills = called_none outer.fills;
  fetch_fails = none_listed_at outer.fetches.made outer.fetches.failing;
  fill_fails = none_short_at outer.fills.made outer.fills.failing outer.entropy;
}

pub takes_weaker : (here there : ℕ → Type 0) (made : List Taking) (a b : Outer) → ((m : ℕ) → here m → there m) → Takes here made a b → Takes there made a b
takes_weaker here there made a b weaker p = record {
  order = p.order;
  lines = all_weaker (λ taking. here taking.entry.line) (λ taking. there taking.entry.line) made (λ taking. weaker taking.entry.line) p.lines;
  kinds = p.kinds;
  found = p.found;
  files = p.files;
  entropy = p.entropy;
  fetches = p.fetches;
  fills = p.fills;
  fetch_fails = p.fetch_fails;
  fill_fails = p.fill_fails;
}

pub takes_both : (here : ℕ → Type 0) (xs ys : List Taking) (a b c : Outer) → AreInOrder (entries_made (xs ++ ys)) → Takes here xs a b → Takes here ys b c → Takes here (xs ++ ys) a c
takes_both here xs ys a b c order p q =
    let fetches : fetches_of (xs ++ ys) ≡ fetches_of xs ++ fetches_of ys = outcomes_both is_fetch xs ys in
    let fills : fills_of (xs ++ ys) ≡ fills_of xs ++ fills_of ys = outcomes_both is_fill xs ys in
    record {
      order = order;
      lines = all_both (λ taking. here taking.entry.line) xs ys p.lines q.lines;
      kinds = all_both (λ taking. is_fetch taking.entry.what || is_fill taking.entry.what ≡ true) xs ys p.kinds q.kinds;
      found = q.found ∙ ap (λ es. es ++ failures ys) p.found ∙ append_assoc a.found (failures xs) (failures ys) ∙ ap (λ es. a.found ++ es) (sym (failures_both xs ys));
      files = q.files ∙ p.files;
      entropy = subst (λ (bs : List Bool). IfSome a.entropy (λ left. c.entropy ≡ Some (left_after bs left))) (sym fills) (left_more a.entropy b.entropy c.entropy (fills_of xs) (fills_of ys) p.entropy q.entropy);
      fetches = subst (λ (bs : List Bool). Called bs a.fetches c.fetches) (sym fetches) (called_more (fetches_of xs) (fetches_of ys) a.fetches b.fetches c.fetches p.fetches q.fetches);
      fills = subst (λ (bs : List Bool). Called bs a.fills c.fills) (sym fills) (called_more (fills_of xs) (fills_of ys) a.fills b.fills c.fills p.fills q.fills);
      fetch_fails = subst (λ (bs : List Bool). ListedAt a.fetches.made a.fetches.failing bs) (sym fetches)
          (listed_more a.fetches.made b.fetches.made a.fetches.failing b.fetches.failing (fetches_of xs) (fetches_of ys) p.fetches.made p.fetches.failing p.fetch_fails q.fetch_fails);
      fill_fails = subst (λ (bs : List Bool). ShortAt a.fills.made a.fills.failing a.entropy bs) (sym fills)
          (short_more a.fills.made b.fills.made a.fills.failing b.fills.failing a.entropy b.entropy (fills_of xs) (fills_of ys) p.fills.made p.fills.failing p.entropy p.fill_fails q.fill_fails);
    }

-- takings of which each of the first stands before each of the second
pub order_both : (P Q : Taking → Type 0) (xs ys : List Taking) → ((x y : Taking) → P x → Q y → IsBefore x.entry y.entry) → AllByRecursion P xs → AllByRecursion Q ys
    → AreInOrder (entries_made xs) → AreInOrder (entries_made ys) → AreInOrder (entries_made (xs ++ ys))
order_both P Q [] ys apart p q xs_order ys_order = ys_order
order_both P Q (taking ∷ xs) ys apart p q xs_order ys_order = (
  subst (AllByRecursion (IsBefore taking.entry)) (sym (entries_both xs ys))
      (all_both (IsBefore taking.entry) (entries_made xs) (entries_made ys) xs_order.0
      (all_entries (IsBefore taking.entry) ys (all_weaker Q (λ later. IsBefore taking.entry later.entry) ys (λ later at_line. apart taking later p.0 at_line) q))),
  order_both P Q xs ys apart p.1 q xs_order.1 ys_order,
)

pub takes_more : (first second here : ℕ → Type 0) (xs ys : List Taking) (a b c : Outer) → ((m : ℕ) → first m → here m) → ((m : ℕ) → second m → here m) → ((m k : ℕ) → first m → second k → m < k)
    → Takes first xs a b → Takes second ys b c → Takes here (xs ++ ys) a c
takes_more first second here xs ys a b c from_first from_second apart p q =
    takes_both here xs ys a b c
    (order_both (λ taking. first taking.entry.line) (λ taking. second taking.entry.line) xs ys (λ x y at_first at_second. inl (apart x.entry.line y.entry.line at_first at_second)) p.lines q.lines p.order q.order)
    (takes_weaker first here xs a b from_first p) (takes_weaker second here ys b c from_second q)

-- ---- one taking

-- what one taking does to the list
abbrev pub ListsOne : FoundEntry → Bool → (old new : List FoundEntry) → Type 0
ListsOne entry fails old new = new ≡ old ++ (if fails then entry ∷ [] else [])

listed_once : (made : Option ℕ) (failing : Option (List ℕ)) (fails : Bool) → IfSome (next_listed made failing) (λ listed. fails ≡ listed) → ListedAt made failing (fails ∷ [])
listed_once None failing fails p = tt
listed_once (Some n) None fails p = tt
listed_once (Some n) (Some listed) fails p = (p, tt)

short_once : (made : Option ℕ) (failing entropy : Option (List ℕ)) (fails : Bool) → IfSome (fill_fails entropy (next_listed made failing)) (λ known. fails ≡ known) → ShortAt made failing entropy (fails ∷ [])
short_once None failing entropy fails p = tt
short_once (Some n) None entropy fails p = tt
short_once (Some n) (Some listed) None fails p = tt
short_once (Some n) (Some listed) (Some left) fails p = (by_case (is_listed listed n) p, tt) where
  by_case : (b : Bool) → IfSome (fill_fails (Some left) (Some b)) (λ known. fails ≡ known) → fails ≡ b || is_short left
  by_case true q = q
  by_case false q = q

-- a fetch
takes_fetch_of : (line part : ℕ) (what : FoundKind) → is_fetch what ≡ true → is_fill what ≡ false → (fails : Bool) (old new : Outer) → IsCalled (next_listed old.fetches.made old.fetches.failing) fails old.fetches new.fetches
    → new.files ≡ old.files → new.entropy ≡ old.entropy → new.fills ≡ old.fills → ListsOne record { line = line; part = part; what = what } fails old.found new.found
    → Takes (λ m. m ≡ line) (taking_with record { line = line; part = part; what = what } fails ∷ []) old new
takes_fetch_of line part what fetch no_fill fails old new called files entropy fills found =
    let one : (fetches_of (taking_with record { line = line; part = part; what = what } fails ∷ [])) ≡ fails ∷ [] = rw fetch refl in
    let none : (fills_of (taking_with record { line = line; part = part; what = what } fails ∷ [])) ≡ [] = rw no_fill refl in
    record {
      order = (tt, tt);
      lines = (refl, tt);
      kinds = (rw fetch refl, tt);
      found = found ∙ ap (λ es. old.found ++ es) (by_case fails);
      files = files;
      entropy = subst (λ (bs : List Bool). IfSome old.entropy (λ left. new.entropy ≡ Some (left_after bs left))) (sym none) (subst (λ (e : Option (List ℕ)). IfSome old.entropy (λ left. e ≡ Some (left_after [] left))) (sym entropy) (same_left old.entropy));
      fetches = subst (λ (bs : List Bool). Called bs old.fetches new.fetches) (sym one) (called_once (next_listed old.fetches.made old.fetches.failing) fails old.fetches new.fetches called);
      fills = subst (λ (bs : List Bool). Called bs old.fills new.fills) (sym none) (subst (λ (calls : Calls). Called [] old.fills calls) (sym fills) (called_none old.fills));
      fetch_fails = subst (λ (bs : List Bool). ListedAt old.fetches.made old.fetches.failing bs) (sym one) (listed_once old.fetches.made old.fetches.failing fails called.as_known);
      fill_fails = subst (λ (bs : List Bool). ShortAt old.fills.made old.fills.failing old.entropy bs) (sym none) (none_short_at old.fills.made old.fills.failing old.entropy);
    } where
      by_case : (b : Bool) → (let entry : FoundEntry = record { line = line; part = part; what = what } in (if b then entry ∷ [] else [])) ≡ failures (taking_with record { line = line; part = part; what = what } b ∷ [])
      by_case true = refl
      by_case false = refl

no_fill_of : (what : FoundKind) → is_fetch what ≡ true → is_fill what ≡ false
no_fill_of OldKey fetch = refl
no_fill_of NewKey fetch = refl
no_fill_of Seed fetch = absurd (cc)
no_fill_of (Streams puts) fetch = refl
no_fill_of (Shelf family draws puts) fetch = refl

pub takes_fetch : (entry : FoundEntry) → is_fetch entry.what ≡ true → (fails : Bool) (old new : Outer) → IsCalled (next_listed old.fetches.made old.fetches.failing) fails old.fetches new.fetches
    → new.files ≡ old.files → new.entropy ≡ old.entropy → new.fills ≡ old.fills → ListsOne entry fails old.found new.found → Takes (λ m. m ≡ entry.line) (taking_with entry fails ∷ []) old new
takes_fetch entry fetch fails old new called files entropy fills found =
    takes_fetch_of entry.line entry.part entry.what fetch (no_fill_of entry.what fetch) fails old new called files entropy fills found

-- a fill
takes_fill_of : (line part : ℕ) (what : FoundKind) → is_fetch what ≡ false → is_fill what ≡ true → (fails : Bool) (old new : Outer) → IsCalled (fill_fails old.entropy (next_listed old.fills.made old.fills.failing)) fails old.fills new.fills
    → new.files ≡ old.files → IfSome old.entropy (λ left. new.entropy ≡ Some (if fails then left else drop 32 left)) → new.fetches ≡ old.fetches → ListsOne record { line = line; part = part; what = what } fails old.found new.found
    → Takes (λ m. m ≡ line) (taking_with record { line = line; part = part; what = what } fails ∷ []) old new
takes_fill_of line part what no_fetch fill fails old new called files entropy fetches found =
    let none : (fetches_of (taking_with record { line = line; part = part; what = what } fails ∷ [])) ≡ [] = rw no_fetch refl in
    let one : (fills_of (taking_with record { line = line; part = part; what = what } fails ∷ [])) ≡ fails ∷ [] = rw fill refl in
    record {
      order = (tt, tt);
      lines = (refl, tt);
      kinds = (rw (no_fetch, fill) refl, tt);
      found = found ∙ ap (λ es. old.found ++ es) (by_case fails);
      files = files;
      entropy = subst (λ (bs : List Bool). IfSome old.entropy (λ left. new.entropy ≡ Some (left_after bs left))) (sym one) entropy;
      fetches = subst (λ (bs : List Bool). Called bs old.fetches new.fetches) (sym none) (subst (λ (calls : Calls). Called [] old.fetches calls) (sym fetches) (called_none old.fetches));
      fills = subst (λ (bs : List Bool). Called bs old.fills new.fills) (sym one) (called_once (fill_fails old.entropy (next_listed old.fills.made old.fills.failing)) fails old.fills new.fills called);
      fetch_fails = subst (λ (bs : List Bool). ListedAt old.fetches.made old.fetches.failing bs) (sym none) (none_listed_at old.fetches.made old.fetches.failing);
      fill_fails = subst (λ (bs : List Bool). ShortAt old.fills.made old.fills.failing old.entropy bs) (sym one) (short_once old.fills.made old.fills.failing old.entropy fails called.as_known);
    } where
      by_case : (b : Bool) → (let entry : FoundEntry = record { line = line; part = part; what = what } in (if b then entry ∷ [] else [])) ≡ failures (taking_with record { line = line; part = part; what = what } b ∷ [])
      by_case true = refl
      by_case false = refl

no_fetch_of : (what : FoundKind) → is_fill what ≡ true → is_fetch what ≡ false
no_fetch_of OldKey fill = absurd (cc)
no_fetch_of NewKey fill = absurd (cc)
no_fetch_of Seed fill = refl
no_fetch_of (Streams puts) fill = refl
no_fetch_of (Shelf family draws puts) fill = refl

pub takes_fill : (entry : FoundEntry) → is_fill entry.what ≡ true → (fails : Bool) (old new : Outer) → IsCalled (fill_fails old.entropy (next_listed old.fills.made old.fills.failing)) fails old.fills new.fills
    → new.files ≡ old.files → IfSome old.entropy (λ left. new.entropy ≡ Some (if fails then left else drop 32 left)) → new.fetches ≡ old.fetches → ListsOne entry fails old.found new.found
    → Takes (λ m. m ≡ entry.line) (taking_with entry fails ∷ []) old new
takes_fill entry fill fails old new called files entropy fetches found =
    takes_fill_of entry.line entry.part entry.what (no_fetch_of entry.what fill) fill fails old new called files entropy fetches found

-- ---- a list that agrees with what was taken

same_number_of : (m n : ℕ) → m ≡ n → (m == n) ≡ true
same_number_of m n same = grind (arith, nat_tests)

other_number : (m n : ℕ) → (m ≡ n → ⊥) → (m == n) ≡ false
other_number m n apart = grind (arith, nat_tests)

-- whether two entries are of one taking
abbrev is_same : FoundEntry → FoundEntry → Bool
is_same entry other = other.line == entry.line && other.part == entry.part && rank other.what == rank entry.what

is_same-self : (entry : FoundEntry) → is_same entry entry ≡ true
is_same-self entry = rw (same_number_of entry.line entry.line refl, same_number_of entry.part entry.part refl, same_number_of (rank entry.what) (rank entry.what) refl) refl

and_false : (a b c : Bool) → (a ≡ false) ⊎ ((b ≡ false) ⊎ (c ≡ false)) → (a && b && c) ≡ false
and_false false b c p = refl
and_false true false c p = refl
and_false true true false p = refl
and_false true true true p = absurd (⊎_elim (λ e. cc) (λ q. ⊎_elim (λ e. cc) (λ e. cc) q) p)

is_same-before : (entry other : FoundEntry) → IsBefore entry other → (is_same entry other ≡ false) × (is_same other entry ≡ false)
is_same-before entry other before = (
  and_false _ _ _ (⊎_elim (λ line. inl (other_number other.line entry.line (λ e. omega (arith, line, e))))
      (λ later. ⊎_elim (λ part. inr (inl (other_number other.part entry.part (λ e. omega (arith, part, e)))))
      (λ kind. inr (inr (other_number (rank other.what) (rank entry.what) (λ e. omega (arith, kind.1, e))))) later.1) before),
  and_false _ _ _ (⊎_elim (λ line. inl (other_number entry.line other.line (λ e. omega (arith, line, e))))
      (λ later. ⊎_elim (λ part. inr (inl (other_number entry.part other.part (λ e. omega (arith, part, e)))))
      (λ kind. inr (inr (other_number (rank entry.what) (rank other.what) (λ e. omega (arith, kind.1, e))))) later.1) before),
)

-- what stands before all takings has no entry among their failures
none_before : (entry : FoundEntry) (made : List Taking) → AllByRecursion (IsBefore entry) (entries_made made) → has_entry entry (failures made) ≡ false
none_before entry [] before = refl
none_before entry (taking ∷ made) before = by_case (none_before entry made before.1) taking.fails where
  by_case : has_entry entry (failures made) ≡ false → (b : Bool) → has_entry entry (if b then taking.entry ∷ failures made else failures made) ≡ false
  by_case rest true = rw ((is_same-before entry taking.entry before.0).0, rest) refl
  by_case rest false = rest

agrees_behind : (first : FoundEntry) (fails : Bool) (entries : List FoundEntry) (made : List Taking) → AllByRecursion (IsBefore first) (entries_made made) → Agrees entries made → Agrees (if fails then first ∷ entries else entries) made
agrees_behind first fails entries [] before agrees = tt
agrees_behind first true entries (taking ∷ made) before agrees = (rw (is_same-before first taking.entry before.0).1 agrees.0, agrees_behind first true entries made before.1 agrees.1)
agrees_behind first false entries (taking ∷ made) before agrees = agrees

-- the failures of takings agree with them
pub agrees_failures : (made : List Taking) → AreInOrder (entries_made made) → Agrees (failures made) made
agrees_failures [] order = tt
agrees_failures (taking ∷ made) order = (
  by_case taking.fails,
  agrees_behind taking.entry taking.fails (failures made) made order.0 (agrees_failures made order.1),
) where
  by_case : (b : Bool) → has_entry taking.entry (if b then taking.entry ∷ failures made else failures made) ≡ b
  by_case true = rw (is_same-self taking.entry) refl
  by_case false = none_before taking.entry made order.0

-- a line's own entries say of its takings what the whole list says
own_entry : (n : ℕ) (found : List FoundEntry) (entry : FoundEntry) → entry.line ≡ n → has_entry entry (entries_of n found) ≡ has_entry entry found
own_entry n [] entry here = refl
own_entry n (other ∷ found) entry here = by_case (own_entry n found entry here) (other.line == n) refl where
  by_case : has_entry entry (entries_of n found) ≡ has_entry entry found → (b : Bool) → (other.line == n) ≡ b → has_entry entry (if b then other ∷ entries_of n found else entries_of n found) ≡ has_entry entry (other ∷ found)
  by_case rest true same = ap (λ found_later. is_same entry other || found_later) rest
  by_case rest false apart =
      let line : (other.line == entry.line) ≡ false = rw here apart in
      rw line rest

pub agrees_own : (n : ℕ) (found : List FoundEntry) (made : List Taking) → AllByRecursion (λ taking. taking.entry.line ≡ n) made → Agrees found made → Agrees (entries_of n found) made
agrees_own n found [] lines agrees = tt
agrees_own n found (taking ∷ made) lines agrees = (own_entry n found taking.entry lines.0 ∙ agrees.0, agrees_own n found made lines.1 agrees.1)

-- ---- the order

pub no_part_before : (first second : FoundEntry) (later : List FoundEntry) → first.line ≡ second.line → second.part < first.part → AreInOrder (first ∷ second ∷ later) → ⊥
no_part_before first second later line part order =
    ⊎_elim (λ before. omega (arith, before, line)) (λ same. ⊎_elim (λ before. omega (arith, before, part)) (λ kind. omega (arith, kind.0, part)) same.1) order.0.0

pub not_twice : (entry : FoundEntry) (later : List FoundEntry) → AreInOrder (entry ∷ entry ∷ later) → ⊥
not_twice entry later order =
    ⊎_elim (λ before. omega (arith, before)) (λ same. ⊎_elim (λ before. omega (arith, before)) (λ kind. omega (arith, kind.1)) same.1) order.0.0
