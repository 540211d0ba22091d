use Rattle.std.proofs.Common.{◌≡◌, ◌+◌, ◌-◌, ◌*◌, ◌/◌, ◌<◌, ◌∙◌, ℕ, List, Ok, Err, refl, inl, inr, arith}
use Rattle.std.proofs.lemmas.Bool.{cases_lt}
use Rattle.file_blocks.specs.Objects.{IsInRange}
use Rattle.file_blocks.specs.WriteFields.{write_of}
use Rattle.file_blocks.specs.Writes.{first_of, last_of, texts_over, count_of}
use Rattle.file_blocks.specs.declared.write.Write.{Write as Fields}
use Rattle.file_blocks.proofs.NewTexts.{IsWrite, in_order}
use Rattle.file_blocks.proofs.Readings.{held_same}
use Rattle.file_blocks.proofs.WriteReading.{Ends, begun_stop, begun_stopped, only_text, between_stop, between_stopped, ended_ok, ended_err, ended_told, last_told, last_stopped}
use Rattle.file_blocks.proofs.taken.read_write.Goals as goal

is_write : (w : Fields) → IsWrite (write_of w)
is_write w = record { levels = w.above; wide = omega (arith, w.wide); some = w.some }

several : (w : Fields) (first last : ℕ) → first ≡ first_of (write_of w) → last ≡ last_of (write_of w) → (last ≡ first → ⊥) → first_of (write_of w) < last_of (write_of w)
several w first last first_is last_is differ =
    let order = in_order (write_of w) (is_write w) in
    elim (cases_lt (first_of (write_of w)) (last_of (write_of w))) [
      | inl less ↦ less
      | inr same ↦ absurd (differ (omega (arith, first_is, last_is, order, same)))
    ]

pub returns-in-Err-clause-reading : goal.returns-in-Err-clause-reading
returns-in-Err-clause-reading g c =
    begun_stop (write_of c.args.w.now) c.first_of-first.result c.in-Err.stop _ _ (is_write c.args.w.now) c.first_of-first.ensures.value c.in-Err.ensures.reading

pub returns-in-Err-clause-told : goal.returns-in-Err-clause-told
returns-in-Err-clause-told g c =
    begun_stopped {X = List ℕ} {Y = List (List ℕ)} _ (write_of c.args.w.now) c.first_of-first.result (λ text. text) (λ texts. texts) c.in-Err.stop (g.B.Shelf.told c.args.shelf.now).held
    (is_write c.args.w.now) c.first_of-first.ensures.value c.in-Err.ensures.told

pub returns-then-last-first-clause-told : goal.returns-then-last-first-clause-told
returns-then-last-first-clause-told g c =
    only_text _ (write_of c.args.w.now) c.first_of-first.result c.last_of-last.result c.in-Ok.front.items _ (g.B.Shelf.told c.args.shelf.now).held (is_write c.args.w.now)
    c.first_of-first.ensures.value c.last_of-last.ensures.value c.if-last-first.true c.in-Ok.ensures.told

ends : (w : Fields) (first last count : ℕ) → first ≡ first_of (write_of w) → last ≡ last_of (write_of w) → count ≡ last / 32 - (first / 32 + 1)
    → Ends (write_of w) first last (first / 32 + 1) count
ends w first last count first_is last_is counts = record { is = is_write w; first_is = first_is; last_is = last_is; begins = refl; counts = counts }

pub returns-in-Err-test_groups-clause-reading : goal.returns-in-Err-test_groups-clause-reading
returns-in-Err-test_groups-clause-reading g c =
    between_stop (write_of c.args.w.now) c.first_of-first.result c.last_of-last.result (c.first_of-first.result / 32 + 1) c.saturating_sub.result _ c.in-Err-test_groups.stop _ _ _
    (ends c.args.w.now c.first_of-first.result c.last_of-last.result c.saturating_sub.result c.first_of-first.ensures.value c.last_of-last.ensures.value c.saturating_sub.ensures)
    (several c.args.w.now c.first_of-first.result c.last_of-last.result c.first_of-first.ensures.value c.last_of-last.ensures.value c.if-last-first.false)
    c.in-Ok.ensures.reading c.in-Err-test_groups.ensures.reading

pub returns-in-Err-test_groups-clause-told : goal.returns-in-Err-test_groups-clause-told
returns-in-Err-test_groups-clause-told g c =
    between_stopped {X = Unit {0}} {Y = List (List ℕ)} _ (write_of c.args.w.now) c.first_of-first.result c.last_of-last.result (c.first_of-first.result / 32 + 1) c.saturating_sub.result
    c.in-Ok.front.items (λ x. x) (λ texts. texts) c.in-Err-test_groups.stop (g.B.Shelf.told c.args.shelf.now).held (g.B.Shelf.told c.take.new.shelf).held
    (ends c.args.w.now c.first_of-first.result c.last_of-last.result c.saturating_sub.result c.first_of-first.ensures.value c.last_of-last.ensures.value c.saturating_sub.ensures)
    (held_same (c.args.w.now.tree.levels + 1) (IsInRange c.args.w.now.tree.levels c.first_of-first.result 1) _ _ _ c.in-Ok.ensures.reading)
    c.in-Ok.ensures.told c.in-Err-test_groups.ensures.told

pub returns-in-Ok-take-clause-reading : goal.returns-in-Ok-take-clause-reading
returns-in-Ok-take-clause-reading g c =
    ended_ok (write_of c.args.w.now) c.first_of-first.result c.last_of-last.result (c.first_of-first.result / 32 + 1) c.saturating_sub.result _ _ _ _ _ _ _ _
    (ends c.args.w.now c.first_of-first.result c.last_of-last.result c.saturating_sub.result c.first_of-first.ensures.value c.last_of-last.ensures.value c.saturating_sub.ensures)
    (several c.args.w.now c.first_of-first.result c.last_of-last.result c.first_of-first.ensures.value c.last_of-last.ensures.value c.if-last-first.false)
    c.in-Ok.ensures.reading c.in_default.ensures.reading c.in-Ok-take.ensures.reading

pub returns-in-Ok-take-clause-told : goal.returns-in-Ok-take-clause-told
returns-in-Ok-take-clause-told g c =
    let is = ends c.args.w.now c.first_of-first.result c.last_of-last.result c.saturating_sub.result c.first_of-first.ensures.value c.last_of-last.ensures.value c.saturating_sub.ensures in
    let more = several c.args.w.now c.first_of-first.result c.last_of-last.result c.first_of-first.ensures.value c.last_of-last.ensures.value c.if-last-first.false in
    let second = held_same (c.args.w.now.tree.levels + 1) (IsInRange c.args.w.now.tree.levels c.first_of-first.result 1) _ _ _ c.in-Ok.ensures.reading in
    let third = held_same (c.args.w.now.tree.levels * c.saturating_sub.result)
    (IsInRange c.args.w.now.tree.levels (32 * (c.first_of-first.result / 32 + 1)) (32 * c.saturating_sub.result)) _ _ _ c.in_default.ensures.reading in
    ended_told {X = List ℕ} {Y = List (List ℕ)} _ (write_of c.args.w.now) c.first_of-first.result c.last_of-last.result (c.first_of-first.result / 32 + 1) c.saturating_sub.result
    c.in-Ok.front.items (λ text. text) (λ texts. texts) (Ok c.in-Ok-take.back.items)
    (Ok (texts_over (write_of c.args.w.now) c.in-Ok.front.items c.in-Ok-take.back.items (count_of (write_of c.args.w.now))))
    (g.B.Shelf.told c.args.shelf.now).held (g.B.Shelf.told c.take.new.shelf).held (g.B.Shelf.told c.test_groups.new.shelf).held is more second (third ∙ second)
    (last_told _ (write_of c.args.w.now) c.first_of-first.result c.last_of-last.result (c.first_of-first.result / 32 + 1) c.saturating_sub.result
    c.in-Ok.front.items c.in-Ok-take.back.items is more)
    c.in-Ok.ensures.told c.in_default.ensures.told c.in-Ok-take.ensures.told

pub returns-in-Err-take-clause-reading : goal.returns-in-Err-take-clause-reading
returns-in-Err-take-clause-reading g c =
    ended_err (write_of c.args.w.now) c.first_of-first.result c.last_of-last.result (c.first_of-first.result / 32 + 1) c.saturating_sub.result _ _ c.in-Err-take.stop _ _ _ _
    (ends c.args.w.now c.first_of-first.result c.last_of-last.result c.saturating_sub.result c.first_of-first.ensures.value c.last_of-last.ensures.value c.saturating_sub.ensures)
    (several c.args.w.now c.first_of-first.result c.last_of-last.result c.first_of-first.ensures.value c.last_of-last.ensures.value c.if-last-first.false)
    c.in-Ok.ensures.reading c.in_default.ensures.reading c.in-Err-take.ensures.reading

pub returns-in-Err-take-clause-told : goal.returns-in-Err-take-clause-told
returns-in-Err-take-clause-told g c =
    let is = ends c.args.w.now c.first_of-first.result c.last_of-last.result c.saturating_sub.result c.first_of-first.ensures.value c.last_of-last.ensures.value c.saturating_sub.ensures in
    let more = several c.args.w.now c.first_of-first.result c.last_of-last.result c.first_of-first.ensures.value c.last_of-last.ensures.value c.if-last-first.false in
    let second = held_same (c.args.w.now.tree.levels + 1) (IsInRange c.args.w.now.tree.levels c.first_of-first.result 1) _ _ _ c.in-Ok.ensures.reading in
    let third = held_same (c.args.w.now.tree.levels * c.saturating_sub.result)
    (IsInRange c.args.w.now.tree.levels (32 * (c.first_of-first.result / 32 + 1)) (32 * c.saturating_sub.result)) _ _ _ c.in_default.ensures.reading in
    ended_told {X = List ℕ} {Y = List (List ℕ)} _ (write_of c.args.w.now) c.first_of-first.result c.last_of-last.result (c.first_of-first.result / 32 + 1) c.saturating_sub.result
    c.in-Ok.front.items (λ text. text) (λ texts. texts) (Err c.in-Err-take.stop) (Err c.in-Err-take.stop)
    (g.B.Shelf.told c.args.shelf.now).held (g.B.Shelf.told c.take.new.shelf).held (g.B.Shelf.told c.test_groups.new.shelf).held is more second (third ∙ second)
    (last_stopped {X = List ℕ} {Y = List (List ℕ)} _ (write_of c.args.w.now) c.first_of-first.result c.last_of-last.result (c.first_of-first.result / 32 + 1) c.saturating_sub.result
    c.in-Ok.front.items (λ text. text) (λ texts. texts) c.in-Err-take.stop is)
    c.in-Ok.ensures.told c.in_default.ensures.told c.in-Err-take.ensures.told
