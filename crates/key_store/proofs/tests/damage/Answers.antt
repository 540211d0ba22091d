use Rattle.std.proofs.Common.{◌≡◌, ◌==◌, ◌∷◌, ℕ, true, List, [], length, is_some, refl, ap, sym, ◌∙◌, arith}
use Rattle.std.proofs.lemmas.Bool.{eqb-true}
use Rattle.wrapped_keys.specs.Stored.{parsed_record}
use Rattle.key_store.proofs.RecordLemmas.{rising_records}
use Rattle.key_store.proofs.DamageLemmas.{replaced_kept}
use Rattle.key_store.proofs.tests.damage.Goals as goal

empty : (xs : List (ℕ × List ℕ)) (n : ℕ) → n ≡ length xs → (n == 0) ≡ true → xs ≡ []
empty [] n long none = refl
empty (x ∷ xs) n long none = absurd (let zero_long : n ≡ 0 = eqb-true n 0 none in omega (arith, long, zero_long))

pub put_at_id-requires : goal.put_at_id-requires
put_at_id-requires c = rising_records c.state.inside.records.items c.state.invariant.sound.tree.records

pub invariant_of-state-2 : goal.invariant_of-state-2
invariant_of-state-2 c =
    let form : is_some (parsed_record c.in_ok-wrapped.wrapped) ≡ true = sym c.is_in_form.ensures ∙ c.if-not-is_in_form.false in
    let none : c.state.inside.loaded.items ≡ [] =
    empty c.state.inside.loaded.items c.state.inside.loaded.len c.state.inside.loaded.ok.0 (sym c.is_empty.ensures ∙ c.if-not-is_empty.false) in
    replaced_kept c.state.inside c.args.state.now c.state.view_is c.state.invariant none c.args.family c.in-Some.stored.now c.in-Some.ensures c.in_ok-wrapped.wrapped form
    (record c.state.inside { records = c.put_at_id.new.entries }) refl c.in_ok-put_at_id.ensures.ok c.in_ok-put_at_id.ensures.room
