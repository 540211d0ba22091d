use Rattle.std.proofs.Common.{◌≡◌, ℕ, List, Option, Some, None, sym, ap, ◌∙◌}
use Rattle.std.specs.List.{find, filter}
use Rattle.std.specs.Option.{option_map}
use Rattle.key_machine.specs.Plain.{Plain, owned, owner_of, is_same}
use Rattle.key_machine.specs.Load.{first_wrong}
use Rattle.key_store.specs.declared.state.FamilyRecord.{FamilyRecord}
use Rattle.key_ciphers.specs.Ciphers.{ciphers}
use Rattle.key_store.specs.Calls.{is_wrong}
use Rattle.key_store.specs.State.{stored_records}
use Rattle.key_store.proofs.LoadLemmas.{first_wrong-find}
use Rattle.key_store.proofs.state.KeyState.first_wrong.Goals as goal

-- the search among the records is the definition's
searched : (inside : Plain) (root : ℕ) (key : List ℕ) (records : List (ℕ × FamilyRecord)) (found : Option (ℕ × FamilyRecord)) → stored_records records ≡ inside.wrapped
    → found ≡ find (λ entry. is_wrong inside root key entry) records → first_wrong ciphers key (owned inside root) ≡ option_map (λ entry. entry.0) found
searched inside root key records found stored by_search =
    ap (λ wrapped. first_wrong ciphers key (filter (λ entry. is_same root (owner_of inside entry.0)) wrapped)) (sym stored)
    ∙ first_wrong-find inside root key records ∙ ap (λ f. option_map (λ entry. entry.0) f) (sym by_search)

pub returns-in_err-wrong : goal.returns-in_err-wrong
returns-in_err-wrong c =
    let found : None ≡ find (λ entry. is_wrong c.args.self.now c.args.root c.args.key.now entry) c.as_slice.result.now = c.in_err-wrong.ensures in
    c.from_residual.ensures ∙ sym (searched c.args.self.now c.args.root c.args.key.now c.as_slice.result.now None (ap stored_records c.as_slice.ensures.value ∙ ap (λ (p : Plain). p.wrapped) c.self.view_is) found)

pub returns : goal.returns
returns c =
    let found : Some c.in_ok-wrong.wrong.now ≡ find (λ entry. is_wrong c.args.self.now c.args.root c.args.key.now entry) c.as_slice.result.now = c.in_ok-wrong.ensures in
    sym (searched c.args.self.now c.args.root c.args.key.now c.as_slice.result.now (Some c.in_ok-wrong.wrong.now) (ap stored_records c.as_slice.ensures.value ∙ ap (λ (p : Plain). p.wrapped) c.self.view_is) found)
