-- What the arming of a failure means, call by call.
use Rattle.std.proofs.Common.{◌≡◌, ℕ, zero, suc, ◌-◌, ◌<◌, ◌≤◌, true, false, refl, sym, ap, ◌∙◌, arith, Option, Some, None}
use Rattle.std.specs.Prelude.{◌==◌}
use Rattle.std.proofs.Math.Dec.{eqb-suc-zero, eqb-zero-suc, eqb-suc-suc}
use Rattle.shelf_store.specs.ShelfState.{ShelfState, is_due, armed_after, one_more, faults_after, counted, after_calls}

-- a call that isn't due leaves the count, and with nothing armed nothing is ever due
pub faults_after-idle : (armed : Option ℕ) (faults : ℕ) → is_due armed ≡ false → faults_after armed faults ≡ faults
unfolding faults_after
faults_after-idle armed faults idle = rw idle refl

pub armed_after-None : armed_after None ≡ None
unfolding armed_after
armed_after-None = refl

-- a call that is due raises the count, and disarms
pub faults_after-due : (armed : Option ℕ) (faults : ℕ) → is_due armed ≡ true → faults_after armed faults ≡ one_more faults
unfolding faults_after
faults_after-due armed faults due = rw due refl

pub armed_after-due : (armed : Option ℕ) → is_due armed ≡ true → armed_after armed ≡ None
unfolding armed_after
armed_after-due None due = refl
armed_after-due (Some calls) due = rw due refl

-- with nothing armed no call changes the failures
after_calls-idle : (calls : ℕ) (s : ShelfState) → s.armed ≡ None → ((after_calls calls s).armed ≡ None) × ((after_calls calls s).faults ≡ s.faults)
after_calls-idle zero s none = (none, refl)
after_calls-idle (suc calls) s none =
    let idle : is_due s.armed ≡ false = ap is_due none in
    let rest = after_calls-idle calls (counted s) (ap armed_after none ∙ armed_after-None) in
    (rest.0, rest.1 ∙ faults_after-idle s.armed s.faults idle)

-- before the armed call
armed_after-later : (calls : ℕ) → armed_after (Some (suc calls)) ≡ Some calls
unfolding armed_after
armed_after-later calls =
    let later : (suc calls == 0) ≡ false = eqb-suc-zero calls in
    let one_less : suc calls - 1 ≡ calls = omega arith in
    rw (later, one_less) refl

-- of the calls behind an arming exactly the one with the armed number is due, and it raises the count
pub due_once : (s : ShelfState) (number calls : ℕ) → s.armed ≡ Some number → is_due (after_calls calls s).armed ≡ (calls == number)
due_once s zero zero armed = ap is_due armed
due_once s (suc number) zero armed = ap is_due armed ∙ eqb-suc-zero number ∙ sym (eqb-zero-suc number)
due_once s zero (suc calls) armed =
    let none = ap armed_after armed ∙ armed_after-due (Some 0) refl in
    ap is_due (after_calls-idle calls (counted s) none).0 ∙ sym (eqb-suc-zero calls)
due_once s (suc number) (suc calls) armed =
    due_once (counted s) number calls (ap armed_after armed ∙ armed_after-later number) ∙ sym (eqb-suc-suc calls number)

-- the count stays up to that call, and is one more behind it
pub kept_before : (s : ShelfState) (number calls : ℕ) → s.armed ≡ Some number → calls ≤ number → (after_calls calls s).faults ≡ s.faults
kept_before s number zero armed early = refl
kept_before s zero (suc calls) armed early = absurd (omega (arith, early))
kept_before s (suc number) (suc calls) armed early =
    let idle : is_due s.armed ≡ false = ap is_due armed ∙ eqb-suc-zero number in
    kept_before (counted s) number calls (ap armed_after armed ∙ armed_after-later number) (omega (arith, early))
    ∙ faults_after-idle s.armed s.faults idle

pub raised_behind : (s : ShelfState) (number calls : ℕ) → s.armed ≡ Some number → number < calls → (after_calls calls s).faults ≡ one_more s.faults
raised_behind s number zero armed late = absurd (omega (arith, late))
raised_behind s zero (suc calls) armed late =
    let due : is_due s.armed ≡ true = ap is_due armed in
    let none = ap armed_after armed ∙ armed_after-due (Some 0) refl in
    (after_calls-idle calls (counted s) none).1 ∙ faults_after-due s.armed s.faults due
raised_behind s (suc number) (suc calls) armed late =
    let idle : is_due s.armed ≡ false = ap is_due armed ∙ eqb-suc-zero number in
    raised_behind (counted s) number calls (ap armed_after armed ∙ armed_after-later number) (omega (arith, late))
    ∙ ap one_more (faults_after-idle s.armed s.faults idle)
