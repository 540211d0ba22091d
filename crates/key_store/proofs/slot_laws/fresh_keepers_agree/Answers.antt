use Rattle.std.proofs.Common.{ℕ, false, refl, ap, sym, ◌∙◌}
use Rattle.mapping_words.specs.Told.{fresh_slot}
use Rattle.mapping_words.specs.declared.slot.Slot.{Slot}
use Rattle.key_store.proofs.SlotLawLemmas.{all_same}
use Rattle.key_store.proofs.slot_laws.fresh_keepers_agree.Goals as goal

pub returns : goal.returns
returns c = record {
  slots = refl;
  each = λ slot within.
      all_same fresh_slot 256 slot ∙ ap (λ (n : ℕ). let shown : Slot = record { generation = n; is_open = false; is_mounted = false } in shown) (sym (all_same 0 256 slot));
}
