use Rattle.std.proofs.Common.{◌≡◌, ◌<◌, ◌+◌, ◌-◌, ℕ, List, Some, true, false, cond, ap, sym, ◌∙◌, arith}
use Rattle.std.specs.List.{find, range_with_len}
use Rattle.key_machine.specs.Mount.{is_free}
use Rattle.key_machine.specs.Plain.{Plain, no_keys}
use Rattle.key_store.proofs.MappingLemmas.{find_next}
use Rattle.key_store.proofs.slots.free_slot.Goals as goal

abbrev shown : List ℕ → List (ℕ × ℕ) → Plain
shown gens mapped = record no_keys { gens = gens; mapped = mapped }

pub returns-then-is_free : goal.returns-then-is_free
returns-then-is_free c =
    let q : Plain = shown c.args.gens.now c.args.mapped.now in
    let slot : ℕ = c.loop-slot.slot in
    let passes : is_free q slot ≡ true = sym c.is_free.ensures ∙ c.if-is_free.true in
    let within : slot < 256 = omega arith in
    sym (ap (λ b. cond b (Some slot) (find (is_free q) (range_with_len (slot + 1) (256 - (slot + 1))))) passes) ∙ sym (find_next (is_free q) slot 256 within) ∙ c.loop-slot.invariant

pub loop-slot-preserved : goal.loop-slot-preserved
loop-slot-preserved c =
    let q : Plain = shown c.args.gens.now c.args.mapped.now in
    let slot : ℕ = c.loop-slot.slot in
    let fails : is_free q slot ≡ false = sym c.is_free.ensures ∙ c.if-is_free.false in
    let within : slot < 256 = omega arith in
    sym (ap (λ b. cond b (Some slot) (find (is_free q) (range_with_len (slot + 1) (256 - (slot + 1))))) fails) ∙ sym (find_next (is_free q) slot 256 within) ∙ c.loop-slot.invariant

pub returns : goal.returns
returns c =
    let q : Plain = shown c.args.gens.now c.args.mapped.now in
    let slot : ℕ = c.loop-slot.slot in
    let over : 256 - slot ≡ 0 = omega arith in
    sym (ap (λ n. find (is_free q) (range_with_len slot n)) over) ∙ c.loop-slot.invariant
