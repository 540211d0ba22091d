-- Laws of lines.
use Rattle.std.proofs.Common.{None, Some, ◌≡◌, ℕ, zero, suc, ◌+◌, ◌<◌, ◌≤◌, Bool, true, false, ◌||◌, ◌&&◌, List, [], ◌∷◌, ◌++◌, length, take, cond, eqb, refl, sym, ap, ◌∙◌, arith, ne_eqb}
use Rattle.std.proofs.lemmas.Bool.{false≢true}
use Rattle.std.specs.Option.{option_to_list}
use Rattle.edge_io.specs.Lines.{begins_with, first_line, rest_of, next_line, onto_line, lines}
use Rattle.edge_io.specs.LineEnds.{HasNoFeed, strip_return}

-- a line that ends at once is empty
none_before_feed : (return feed other : Bool) (line : List ℕ) → return && feed ≡ true → cond (feed || other) [] line ≡ []
none_before_feed true true other line e = refl
none_before_feed true false other line e = absurd (false≢true e)
none_before_feed false feed other line e = absurd (false≢true e)

lines_last : (feed return : Bool) (byte : ℕ)
    → cond feed ([] ∷ []) (cond (feed || return && false) [] ((byte ∷ []) ∷ [])) ≡ cond (feed || return && false) [] (byte ∷ []) ∷ lines (cond feed [] [])
lines_last true return byte = refl
lines_last false true byte = refl
lines_last false false byte = refl

lines_step : (feed ends : Bool) (byte : ℕ) (bytes : List ℕ) → lines bytes ≡ first_line bytes ∷ lines (rest_of bytes)
    → (ends ≡ true → first_line bytes ≡ [])
    → cond feed ([] ∷ lines bytes) (cond (feed || ends) (lines bytes) (onto_line byte (lines bytes)))
    ≡ cond (feed || ends) [] (byte ∷ first_line bytes) ∷ lines (cond feed bytes (rest_of bytes))
lines_step true ends byte bytes more none = refl
lines_step false true byte bytes more none = more ∙ ap (λ line. line ∷ lines (rest_of bytes)) (none refl)
lines_step false false byte bytes more none = ap (onto_line byte) more

lines_more : (byte : ℕ) (bytes : List ℕ) → lines (byte ∷ bytes) ≡ first_line (byte ∷ bytes) ∷ lines (rest_of (byte ∷ bytes))
lines_more byte [] = lines_last (eqb byte 10) (eqb byte 13) byte
lines_more byte (next ∷ bytes) =
    lines_step (eqb byte 10) (eqb byte 13 && eqb next 10) byte (next ∷ bytes) (lines_more next bytes)
    (none_before_feed (eqb byte 13) (eqb next 10) (eqb next 13 && begins_with 10 bytes) (next ∷ first_line bytes))

-- the lines of a text are its next line, if it has one, and the lines of the rest
pub lines_next : (bytes : List ℕ) → lines bytes ≡ option_to_list (next_line bytes) ++ lines (rest_of bytes)
lines_next [] = refl
lines_next (byte ∷ bytes) = lines_more byte bytes

-- there is a next line exactly where there are bytes
pub next_line-some : (bytes : List ℕ) → 0 < length bytes → next_line bytes ≡ Some (first_line bytes)
next_line-some [] some = absurd (omega arith)
next_line-some (byte ∷ bytes) some = refl

pub next_line-none : (bytes : List ℕ) → next_line bytes ≡ None → bytes ≡ []
next_line-none [] none = refl
next_line-none (byte ∷ bytes) none = cc

length-either : (b : Bool) (xs ys : List ℕ) (n : ℕ) → length xs ≤ n → length ys ≤ n → length (cond b xs ys) ≤ n
length-either true xs ys n x y = x
length-either false xs ys n x y = y

length-rest_of_le : (bytes : List ℕ) → length (rest_of bytes) ≤ length bytes
length-rest_of_le [] = omega arith
length-rest_of_le (byte ∷ bytes) = length-either (eqb byte 10) bytes (rest_of bytes) (suc (length bytes)) (omega arith) (omega (arith, length-rest_of_le bytes))

-- the rest is shorter than the text
pub length-rest_of : (bytes : List ℕ) → 0 < length bytes → length (rest_of bytes) < length bytes
length-rest_of [] some = some
length-rest_of (byte ∷ bytes) some =
    omega (arith, length-either (eqb byte 10) bytes (rest_of bytes) (length bytes) (omega arith) (length-rest_of_le bytes))

-- a byte that ends no line
goes_on : {A : Type 0} (feed return next : Bool) (x y : A) → feed ≡ false → next ≡ false → cond (feed || return && next) x y ≡ y
goes_on true return next x y f n = absurd (false≢true (sym f))
goes_on false true true x y f n = absurd (false≢true (sym n))
goes_on false true false x y f n = refl
goes_on false false next x y f n = refl

begins_with-no_feed : (bytes : List ℕ) → HasNoFeed bytes → begins_with 10 bytes ≡ false
begins_with-no_feed [] none = refl
begins_with-no_feed (byte ∷ bytes) none = ne_eqb byte 10 none.0

-- the line before a line feed
pub first_line-feed : (line rest : List ℕ) → HasNoFeed line → first_line (line ++ 10 ∷ rest) ≡ strip_return line
first_line-feed [] rest none = refl
first_line-feed (byte ∷ []) rest none = at (eqb byte 10) (eqb byte 13) (ne_eqb byte 10 none.0)
  where
    at : (feed return : Bool) → feed ≡ false → cond (feed || return && true) [] (byte ∷ []) ≡ cond return [] (byte ∷ [])
    at true return f = absurd (false≢true (sym f))
    at false true f = refl
    at false false f = refl
first_line-feed (byte ∷ next ∷ line) rest none =
    goes_on (eqb byte 10) (eqb byte 13) (eqb next 10) [] _ (ne_eqb byte 10 none.0) (ne_eqb next 10 none.1.0)
    ∙ ap (λ l. byte ∷ l) (first_line-feed (next ∷ line) rest none.1)

-- the rest after a line feed
pub rest_of-feed : (line rest : List ℕ) → HasNoFeed line → rest_of (line ++ 10 ∷ rest) ≡ rest
rest_of-feed [] rest none = refl
rest_of-feed (byte ∷ line) rest none = ap (λ b. cond b (line ++ 10 ∷ rest) (rest_of (line ++ 10 ∷ rest))) (ne_eqb byte 10 none.0) ∙ rest_of-feed line rest none.1

-- a text with no line feed is one line
pub first_line-whole : (line : List ℕ) → HasNoFeed line → first_line line ≡ line
first_line-whole [] none = refl
first_line-whole (byte ∷ line) none =
    goes_on (eqb byte 10) (eqb byte 13) (begins_with 10 line) [] _ (ne_eqb byte 10 none.0) (begins_with-no_feed line none.1)
    ∙ ap (λ l. byte ∷ l) (first_line-whole line none.1)

pub rest_of-whole : (line : List ℕ) → HasNoFeed line → rest_of line ≡ []
rest_of-whole [] none = refl
rest_of-whole (byte ∷ line) none = ap (λ b. cond b line (rest_of line)) (ne_eqb byte 10 none.0) ∙ rest_of-whole line none.1

-- however a text with no line feed goes on, its first line lacks at most a carriage return of it
pub length-first_line : (front more : List ℕ) → HasNoFeed front → length front ≤ length (first_line (front ++ more)) + 1
length-first_line [] more none = omega arith
length-first_line (byte ∷ []) more none = omega arith
length-first_line (byte ∷ next ∷ front) more none =
    let goes = goes_on (eqb byte 10) (eqb byte 13) (eqb next 10) [] (byte ∷ first_line (next ∷ front ++ more)) (ne_eqb byte 10 none.0) (ne_eqb next 10 none.1.0) in
    omega (arith, ap length goes, length-first_line (next ∷ front) more none.1)

pub HasNoFeed-take : (n : ℕ) (xs : List ℕ) → HasNoFeed xs → HasNoFeed (take n xs)
HasNoFeed-take zero xs none = tt
HasNoFeed-take (suc n) [] none = tt
HasNoFeed-take (suc n) (byte ∷ xs) none = (none.0, HasNoFeed-take n xs none.1)
