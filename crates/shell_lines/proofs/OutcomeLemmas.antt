-- What words give in a table: a line, a first wrong word, or a missing one; and how two tables are read as one.
use Rattle.std.proofs.Common.{◌≡◌, ◌≢◌, ◌⊎◌, ◌+◌, ◌<◌, ◌≤◌, ℕ, suc, max, Option, Some, None, inl, inr, List, [], ◌∷◌, ◌++◌, map, Result, Ok, Err, refl, sym, ◌∙◌, ap, subst, arith}
use Rattle.std.proofs.lemmas.List.{append_assoc, append-nil}
use Rattle.shell_lines.specs.declared.line.Line.{Line}
use Rattle.shell_lines.specs.Words.{WordAt}
use Rattle.shell_lines.specs.Forms.{Form, made_at, form_from, better}
use Rattle.shell_lines.specs.Language.{Matches, IsMatch, Begins, texts_of}
use Rattle.shell_lines.proofs.ReadLemmas.{Stops}
use Rattle.shell_lines.proofs.FormLemmas.{form_read, form_given}

-- words that are whole in a table, and the lines that they make
pub record IsMade (Whole : List (List ℕ) → Type 0) (Makes : List (List ℕ) → Line → Type 0) (words : List WordAt) (given : Result Line ℕ) : Type 0 where
  pub line : Line
  pub makes : Makes (texts_of words) line
  pub whole : Whole (texts_of words)
  pub only : (other : Line) → Makes (texts_of words) other → other ≡ line
  pub is : given ≡ Ok line

pub record IsWrong (Whole : List (List ℕ) → Type 0) (Makes : List (List ℕ) → Line → Type 0) (words : List WordAt) (given : Result Line ℕ) : Type 0 where
  pub before : List WordAt
  pub word : WordAt
  pub behind : List WordAt
  pub stand : words ≡ before ++ (word ∷ behind)
  pub begin : Begins Whole (texts_of before)
  pub wrong : (more : List (List ℕ)) → ¬ Whole (texts_of before ++ (word.text ∷ more))
  pub no_line : (line : Line) → ¬ Makes (texts_of words) line
  pub is : given ≡ Err word.at

pub record IsShort (Whole : List (List ℕ) → Type 0) (Makes : List (List ℕ) → Line → Type 0) (words : List WordAt) (end : ℕ) (given : Result Line ℕ) : Type 0 where
  pub begin : Begins Whole (texts_of words)
  pub no_line : (line : Line) → ¬ Makes (texts_of words) line
  pub is : given ≡ Err end

abbrev pub Outcome : (List (List ℕ) → Type 0) → (List (List ℕ) → Line → Type 0) → List WordAt → ℕ → Result Line ℕ → Type 0
Outcome Whole Makes words end given = IsMade Whole Makes words given ⊎ (IsWrong Whole Makes words given ⊎ IsShort Whole Makes words end given)

-- ---- one form

unplaced : List (List ℕ) → List WordAt
unplaced words = map (λ (text : List ℕ). let word : WordAt = record { at = 0; text = text } in word) words

texts_unplaced : (words : List (List ℕ)) → texts_of (unplaced words) ≡ words
unfolding unplaced
texts_unplaced [] = refl
texts_unplaced (text ∷ words) = ap (λ (more : List (List ℕ)). text ∷ more) (texts_unplaced words)

pub texts_split : (before : List WordAt) (word : WordAt) (behind : List WordAt) → texts_of (before ++ (word ∷ behind)) ≡ texts_of before ++ (word.text ∷ texts_of behind)
texts_split [] word behind = refl
texts_split (first ∷ before) word behind = ap (λ (more : List (List ℕ)). first.text ∷ more) (texts_split before word behind)

abbrev pub FormMakes : List (List ℕ) → Form → List (List ℕ) → Line → Type 0
FormMakes options form words line = Matches options form (Some line) words

apart : (at : ℕ) (made : Option Line) → made_at (suc at) made ≢ Err at
apart at None e = let same : suc at ≡ at = cc in absurd (omega arith)
apart at (Some line) e = cc

stays_wrong : (options : List (List ℕ)) (form : Form) (before : List WordAt) (word : WordAt) → ((end : ℕ) (more : List WordAt) → form_from end options form (before ++ (word ∷ more)) ≡ Err word.at)
    → (more : List (List ℕ)) → ¬ IsMatch options form (texts_of before ++ (word.text ∷ more))
stays_wrong options form before word stops more (made, h) =
    let all : List WordAt = before ++ (word ∷ unplaced more) in
    let texts : texts_of all ≡ texts_of before ++ (word.text ∷ more) = texts_split before word (unplaced more) ∙ ap (λ (rest : List (List ℕ)). texts_of before ++ (word.text ∷ rest)) (texts_unplaced more) in
    let given : form_from (suc word.at) options form all ≡ made_at (suc word.at) made = form_given options form (suc word.at) all made (subst (Matches options form made) (sym texts) h) in
    apart word.at made (sym given ∙ stops (suc word.at) (unplaced more))

wrong_form : (options : List (List ℕ)) (form : Form) (end : ℕ) (words : List WordAt) → Stops (Matches options form) (λ end more. form_from end options form more) words
    → IsWrong (IsMatch options form) (FormMakes options form) words (form_from end options form words)
wrong_form options form end words stop =
    let wrong : (more : List (List ℕ)) → ¬ IsMatch options form (texts_of stop.before ++ (stop.word.text ∷ more)) = stays_wrong options form stop.before stop.word stop.stops in
    let texts : texts_of words ≡ texts_of stop.before ++ (stop.word.text ∷ texts_of stop.behind) = ap (λ (all : List WordAt). texts_of all) stop.stand ∙ texts_split stop.before stop.word stop.behind in
    record {
      before = stop.before;
      word = stop.word;
      behind = stop.behind;
      stand = stop.stand;
      begin = stop.begin;
      wrong = wrong;
      no_line = λ line h. wrong (texts_of stop.behind) (Some line, subst (Matches options form (Some line)) texts h);
      is = ap (λ (all : List WordAt). form_from end options form all) stop.stand ∙ stop.stops end stop.behind;
    }

through_form : (options : List (List ℕ)) (form : Form) (end : ℕ) (words : List WordAt) (made : Option Line) → Matches options form made (texts_of words) → form_from end options form words ≡ made_at end made
    → Outcome (IsMatch options form) (FormMakes options form) words end (form_from end options form words)
through_form options form end words (Some line) h e = inl (record {
  line = line;
  makes = h;
  whole = (Some line, h);
  only = λ other o. (let given : form_from end options form words ≡ Ok other = form_given options form end words (Some other) o in cc);
  is = e;
})
through_form options form end words None h e = inr (inr (record {
  begin = ([], (None, subst (Matches options form None) (sym (append-nil (texts_of words))) h));
  no_line = λ line l. (let given : form_from end options form words ≡ Ok line = form_given options form end words (Some line) l in cc);
  is = e;
}))

pub form_outcome : (options : List (List ℕ)) (form : Form) (end : ℕ) (words : List WordAt) → Outcome (IsMatch options form) (FormMakes options form) words end (form_from end options form words)
form_outcome options form end words =
    elim (form_read options form words) [
      | inl through ↦ through_form options form end words through.0 through.1 (through.2 end)
      | inr ended ↦ elim ended [
        | inl stop ↦ inr (inl (wrong_form options form end words stop))
        | inr lack ↦ inr (inr (record {
          begin = lack.begin;
          no_line = λ line l. (let given : form_from end options form words ≡ Ok line = form_given options form end words (Some line) l in let missing : form_from end options form words ≡ Err end = lack.missing end in cc);
          is = lack.missing end;
        }))
      ]
    ]

-- ---- two tables

-- words that rise from an offset on, and stand before the end
abbrev pub RiseFrom : ℕ → ℕ → List WordAt → Type 0
RiseFrom at end [] = at ≤ end
RiseFrom at end (word ∷ words) = (at ≤ word.at) × RiseFrom (word.at + 1) end words

pub before_end : (at end : ℕ) (before : List WordAt) (word : WordAt) (behind : List WordAt) → RiseFrom at end (before ++ (word ∷ behind)) → (at ≤ word.at) × (word.at < end)
before_end at end [] word [] h = (h.0, omega (arith, h.1))
before_end at end [] word (next ∷ behind) h = let later : (word.at + 1 ≤ next.at) × (next.at < end) = before_end (word.at + 1) end [] next behind h.1 in (h.0, omega (arith, later.0, later.1))
before_end at end (first ∷ before) word behind h =
    let later : (first.at + 1 ≤ word.at) × (word.at < end) = before_end (first.at + 1) end before word behind h.1 in
    (omega (arith, later.0, h.0), later.1)

in_order : (at end : ℕ) (before : List WordAt) (word : WordAt) (between : List WordAt) (later : WordAt) (behind : List WordAt)
    → RiseFrom at end ((before ++ (word ∷ between)) ++ (later ∷ behind)) → word.at < later.at
in_order at end [] word between later behind h =
    let after : (word.at + 1 ≤ later.at) × (later.at < end) = before_end (word.at + 1) end between later behind h.1 in omega (arith, after.0)
in_order at end (first ∷ before) word between later behind h = in_order (first.at + 1) end before word between later behind h.1

-- two words of one list are one, or either stands in front of the other
pub places : (a : List WordAt) (x : WordAt) (xs b : List WordAt) (y : WordAt) (ys : List WordAt) → a ++ (x ∷ xs) ≡ b ++ (y ∷ ys)
    → ((a ≡ b) × (x ≡ y)) ⊎ (((rest : List WordAt) × (b ≡ a ++ (x ∷ rest))) ⊎ ((rest : List WordAt) × (a ≡ b ++ (y ∷ rest))))
places [] x xs [] y ys e = inl (refl, cc)
places [] x xs (v ∷ b) y ys e = inr (inl (b, let same : v ≡ x = cc in ap (λ word. word ∷ b) same))
places (u ∷ a) x xs [] y ys e = inr (inr (a, let same : u ≡ y = cc in ap (λ word. word ∷ a) same))
places (u ∷ a) x xs (v ∷ b) y ys e =
    let same : u ≡ v = cc in
    let rest : a ++ (x ∷ xs) ≡ b ++ (y ∷ ys) = cc in
    elim (places a x xs b y ys rest) [
      | inl one ↦ inl ((let more : a ≡ b = one.0 in cc), one.1)
      | inr apart ↦ elim apart [
        | inl after ↦ inr (inl (after.0, let more : b ≡ a ++ (x ∷ after.0) = after.1 in cc))
        | inr before ↦ inr (inr (before.0, let more : a ≡ b ++ (y ∷ before.0) = before.1 in cc))
      ]
    ]

abbrev pub Either : (List (List ℕ) → Type 0) → (List (List ℕ) → Type 0) → List (List ℕ) → Type 0
Either Whole Other words = Whole words ⊎ Other words

abbrev pub First : (List (List ℕ) → Line → Type 0) → (List (List ℕ) → Line → Type 0) → List (List ℕ) → Line → Type 0
First Makes Others words line = Makes words line ⊎ (((other : Line) → ¬ Makes words other) × Others words line)

no_first : (Makes Others : List (List ℕ) → Line → Type 0) (words : List (List ℕ)) → ((line : Line) → ¬ Makes words line) → ((line : Line) → ¬ Others words line) → (line : Line) → ¬ First Makes Others words line
no_first Makes Others words none others line (inl h) = none line h
no_first Makes Others words none others line (inr h) = others line h.1

-- a table that makes a line, and one behind it
first_made : (W V : List (List ℕ) → Type 0) (M N : List (List ℕ) → Line → Type 0) (words : List WordAt) (r s : Result Line ℕ) → IsMade W M words r → IsMade (Either W V) (First M N) words (better r s)
first_made W V M N words r s h = record {
  line = h.line;
  makes = inl h.makes;
  whole = inl h.whole;
  only = λ other o. elim o [ inl m ↦ h.only other m | inr n ↦ absurd (n.0 h.line h.makes) ];
  is = rw h.is refl;
}

second_made : (W V : List (List ℕ) → Type 0) (M N : List (List ℕ) → Line → Type 0) (words : List WordAt) (r s : Result Line ℕ) (at : ℕ) → ((line : Line) → ¬ M (texts_of words) line) → r ≡ Err at
    → IsMade V N words s → IsMade (Either W V) (First M N) words (better r s)
second_made W V M N words r s at none e h = record {
  line = h.line;
  makes = inr (none, h.makes);
  whole = inr h.whole;
  only = λ other o. elim o [ inl m ↦ absurd (none other m) | inr n ↦ h.only other n.1 ];
  is = rw (e, h.is) refl;
}

-- of two stops the later one counts
later_stop : (r s : Result Line ℕ) (a b : ℕ) → r ≡ Err a → s ≡ Err b → a ≤ b → better r s ≡ Err b
later_stop r s a b e f less = let greater : max a b ≡ b = omega arith in rw (e, f, greater) refl

earlier_stop : (r s : Result Line ℕ) (a b : ℕ) → r ≡ Err a → s ≡ Err b → b ≤ a → better r s ≡ Err a
earlier_stop r s a b e f less = let greater : max a b ≡ a = omega arith in rw (e, f, greater) refl

-- a table in which the words leave off before others do
past : (W : List (List ℕ) → Type 0) (before : List WordAt) (word : WordAt) (between : List WordAt) (further : List (List ℕ)) → ((more : List (List ℕ)) → ¬ W (texts_of before ++ (word.text ∷ more)))
    → ¬ W (texts_of (before ++ (word ∷ between)) ++ further)
past W before word between further wrong h =
    let texts : texts_of (before ++ (word ∷ between)) ++ further ≡ texts_of before ++ (word.text ∷ (texts_of between ++ further)) =
    ap (λ (front : List (List ℕ)). front ++ further) (texts_split before word between) ∙ append_assoc (texts_of before) (word.text ∷ texts_of between) further in
    wrong (texts_of between ++ further) (subst W texts h)

same_texts : (a b : List WordAt) (x y : WordAt) (more : List (List ℕ)) → a ≡ b → x ≡ y → texts_of b ++ (y.text ∷ more) ≡ texts_of a ++ (x.text ∷ more)
same_texts a b x y more e f = cc

same_offset : (x y : WordAt) → x ≡ y → x.at ≤ y.at
same_offset x y e = let offsets : x.at ≡ y.at = ap (λ (word : WordAt). word.at) e in omega arith

both_wrong : (W V : List (List ℕ) → Type 0) (M N : List (List ℕ) → Line → Type 0) (words : List WordAt) (at end : ℕ) (r s : Result Line ℕ) → RiseFrom at end words
    → IsWrong W M words r → IsWrong V N words s → IsWrong (Either W V) (First M N) words (better r s)
both_wrong W V M N words at end r s rise h k =
    elim (places h.before h.word h.behind k.before k.word k.behind (sym h.stand ∙ k.stand)) [
      | inl one ↦ record {
        before = k.before;
        word = k.word;
        behind = k.behind;
        stand = k.stand;
        begin = (k.begin.0, inr k.begin.1);
        wrong = λ more w. elim w [ inl p ↦ h.wrong more (subst W (same_texts h.before k.before h.word k.word more one.0 one.1) p) | inr q ↦ k.wrong more q ];
        no_line = no_first M N (texts_of words) h.no_line k.no_line;
        is = later_stop r s h.word.at k.word.at h.is k.is (same_offset h.word k.word one.1);
      }
      | inr apart ↦ elim apart [
        | inl after ↦ (let order : h.word.at < k.word.at =
            in_order at end h.before h.word after.0 k.word k.behind (subst (RiseFrom at end) (k.stand ∙ ap (λ (front : List WordAt). front ++ (k.word ∷ k.behind)) after.1) rise) in
            record {
              before = k.before;
              word = k.word;
              behind = k.behind;
              stand = k.stand;
              begin = (k.begin.0, inr k.begin.1);
              wrong = λ more w. elim w [
                | inl p ↦ past W h.before h.word after.0 (k.word.text ∷ more) h.wrong (subst (λ (front : List WordAt). W (texts_of front ++ (k.word.text ∷ more))) after.1 p)
                | inr q ↦ k.wrong more q
              ];
              no_line = no_first M N (texts_of words) h.no_line k.no_line;
              is = later_stop r s h.word.at k.word.at h.is k.is (omega arith);
            })
        | inr before ↦ (let order : k.word.at < h.word.at =
            in_order at end k.before k.word before.0 h.word h.behind (subst (RiseFrom at end) (h.stand ∙ ap (λ (front : List WordAt). front ++ (h.word ∷ h.behind)) before.1) rise) in
            record {
              before = h.before;
              word = h.word;
              behind = h.behind;
              stand = h.stand;
              begin = (h.begin.0, inl h.begin.1);
              wrong = λ more w. elim w [
                | inl p ↦ h.wrong more p
                | inr q ↦ past V k.before k.word before.0 (h.word.text ∷ more) k.wrong (subst (λ (front : List WordAt). V (texts_of front ++ (h.word.text ∷ more))) before.1 q)
              ];
              no_line = no_first M N (texts_of words) h.no_line k.no_line;
              is = earlier_stop r s h.word.at k.word.at h.is k.is (omega arith);
            })
      ]
    ]

before_its_end : (at end : ℕ) (words before : List WordAt) (word : WordAt) (behind : List WordAt) → RiseFrom at end words → words ≡ before ++ (word ∷ behind) → word.at ≤ end
before_its_end at end words before word behind rise stand =
    let within : (at ≤ word.at) × (word.at < end) = before_end at end before word behind (subst (RiseFrom at end) stand rise) in omega (arith, within.1)

pub better_outcome : (W V : List (List ℕ) → Type 0) (M N : List (List ℕ) → Line → Type 0) (words : List WordAt) (at end : ℕ) (r s : Result Line ℕ) → RiseFrom at end words
    → Outcome W M words end r → Outcome V N words end s → Outcome (Either W V) (First M N) words end (better r s)
better_outcome W V M N words at end r s rise (inl h) k = inl (first_made W V M N words r s h)
better_outcome W V M N words at end r s rise (inr (inl h)) (inl k) = inl (second_made W V M N words r s h.word.at h.no_line h.is k)
better_outcome W V M N words at end r s rise (inr (inr h)) (inl k) = inl (second_made W V M N words r s end h.no_line h.is k)
better_outcome W V M N words at end r s rise (inr (inl h)) (inr (inl k)) = inr (inl (both_wrong W V M N words at end r s rise h k))
better_outcome W V M N words at end r s rise (inr (inl h)) (inr (inr k)) = inr (inr (record {
  begin = (k.begin.0, inr k.begin.1);
  no_line = no_first M N (texts_of words) h.no_line k.no_line;
  is = later_stop r s h.word.at end h.is k.is (before_its_end at end words h.before h.word h.behind rise h.stand);
}))
better_outcome W V M N words at end r s rise (inr (inr h)) (inr (inl k)) = inr (inr (record {
  begin = (h.begin.0, inl h.begin.1);
  no_line = no_first M N (texts_of words) h.no_line k.no_line;
  is = earlier_stop r s end k.word.at h.is k.is (before_its_end at end words k.before k.word k.behind rise k.stand);
}))
better_outcome W V M N words at end r s rise (inr (inr h)) (inr (inr k)) = inr (inr (record {
  begin = (h.begin.0, inl h.begin.1);
  no_line = no_first M N (texts_of words) h.no_line k.no_line;
  is = later_stop r s end end h.is k.is (omega arith);
}))

-- the same outcome for tables that have the same words
pub outcome_as : (W V : List (List ℕ) → Type 0) (M N : List (List ℕ) → Line → Type 0) (words : List WordAt) (end : ℕ) (r : Result Line ℕ)
    → ((texts : List (List ℕ)) → W texts → V texts) → ((texts : List (List ℕ)) → V texts → W texts)
    → ((texts : List (List ℕ)) (line : Line) → M texts line → N texts line) → ((texts : List (List ℕ)) (line : Line) → N texts line → M texts line)
    → Outcome W M words end r → Outcome V N words end r
outcome_as W V M N words end r up down makes made (inl h) = inl (record {
  line = h.line;
  makes = makes (texts_of words) h.line h.makes;
  whole = up (texts_of words) h.whole;
  only = λ other o. h.only other (made (texts_of words) other o);
  is = h.is;
})
outcome_as W V M N words end r up down makes made (inr (inl h)) = inr (inl (record {
  before = h.before;
  word = h.word;
  behind = h.behind;
  stand = h.stand;
  begin = (h.begin.0, up (texts_of h.before ++ h.begin.0) h.begin.1);
  wrong = λ more v. h.wrong more (down (texts_of h.before ++ (h.word.text ∷ more)) v);
  no_line = λ line o. h.no_line line (made (texts_of words) line o);
  is = h.is;
}))
outcome_as W V M N words end r up down makes made (inr (inr h)) = inr (inr (record {
  begin = (h.begin.0, up (texts_of words ++ h.begin.0) h.begin.1);
  no_line = λ line o. h.no_line line (made (texts_of words) line o);
  is = h.is;
}))
