use Rattle.std.proofs.Common.{◌≡◌, ◌<◌, ◌==◌, true, false, nat_lt, length, get_or, ℕ, List, refl, sym, ap, ◌∙◌, arith, Option, None, ◌-◌}
use Rattle.std.proofs.lemmas.Bool.{eq-eqb, ne_eqb}
use Rattle.std.proofs.lemmas.List.{get_or_read}
use Rattle.indirect_macs.specs.declared.refs.NodeRef.{NodeRef}
use Rattle.indirect_macs.specs.RunFields.{run_of}
use Rattle.indirect_macs.specs.Runs.{new_ref}
use Rattle.indirect_macs.proofs.RunSpans.{count_is}
use Rattle.indirect_macs.proofs.replace.new_ref.Goals as goal

pub index-requires : goal.index-requires
index-requires c =
    omega (
      arith,
      c.is_touched.ensures.low c.if-is_touched.true,
      c.is_touched.ensures.high c.if-is_touched.true,
      c.requires.count,
      count_is (run_of c.args.run.now) c.args.level,
      c.first_at.ensures,
      c.args.made.now.refs.ok.0,
    )

pub returns-then-is_behind : goal.returns-then-is_behind
unfolding new_ref
returns-then-is_behind c = λ before below old refs raised.
    rw (sym c.is_touched.ensures.value ∙ c.if-is_touched.false, sym c.is_behind.ensures ∙ c.if-is_behind.true) refl

pub returns-then-level-run : goal.returns-then-level-run
unfolding new_ref
returns-then-level-run c = λ before below old refs raised.
    let low : nat_lt c.args.run.now.tree.levels c.args.level ≡ false = grind (arith, c.if-level-run.true) in
    rw (sym c.is_touched.ensures.value ∙ c.if-is_touched.false, sym c.is_behind.ensures ∙ c.if-is_behind.false, low) (sym old)

pub returns-then-is_touched : goal.returns-then-is_touched
unfolding new_ref
returns-then-is_touched c = λ before below old refs raised.
    let within : c.args.index - c.first_at.result < length c.args.made.now.refs.items =
    omega (arith, c.is_touched.ensures.low c.if-is_touched.true, c.is_touched.ensures.high c.if-is_touched.true, c.requires.count, count_is (run_of c.args.run.now) c.args.level, c.first_at.ensures) in
    rw (sym c.is_touched.ensures.value ∙ c.if-is_touched.true)
    (get_or_read c.args.made.now.refs.items _ _ within c.index.ensures None
    ∙ ap (λ (xs : List (Option NodeRef)). get_or xs (c.args.index - c.first_at.result) None) refs
    ∙ ap (λ (first : ℕ). get_or below.refs (c.args.index - first) None) c.first_at.ensures)

pub returns-then-index-eq0 : goal.returns-then-index-eq0
unfolding new_ref
returns-then-index-eq0 c = λ before below old refs raised.
    let high : nat_lt c.args.run.now.tree.levels c.args.level ≡ true = grind (arith, c.if-level-run.false) in
    let first : (c.args.index == 0) ≡ true = eq-eqb c.args.index 0 (omega arith) in
    rw (sym c.is_touched.ensures.value ∙ c.if-is_touched.false, sym c.is_behind.ensures ∙ c.if-is_behind.false, high, first) raised

pub returns-else-index-eq0 : goal.returns-else-index-eq0
unfolding new_ref
returns-else-index-eq0 c = λ before below old refs raised.
    let high : nat_lt c.args.run.now.tree.levels c.args.level ≡ true = grind (arith, c.if-level-run.false) in
    let other : (c.args.index == 0) ≡ false = ne_eqb c.args.index 0 (λ e. omega (arith, e, c.if-index-eq0.false)) in
    rw (sym c.is_touched.ensures.value ∙ c.if-is_touched.false, sym c.is_behind.ensures ∙ c.if-is_behind.false, high, other) refl
