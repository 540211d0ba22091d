use Rattle.std.proofs.Common.{◌≡◌, ◌==◌, not, ◌&&◌, Bool, ◌≤◌, ℕ, List, arith, ap, ◌∙◌}
use Rattle.std.specs.List.{count_by}
use Rattle.key_machine.specs.Plain.{Plain, owner_of, is_same}
use Rattle.key_machine.specs.Users.{mkey_users}
use Rattle.key_store.specs.declared.state.FamilyRecord.{FamilyRecord}
use Rattle.key_store.proofs.CountLemmas.{few_records, stored_counted}
use Rattle.key_store.proofs.state.KeyState.wkey_users.Goals as goal

pub overflow_cast-result : goal.overflow_cast-result
overflow_cast-result c =
    let test : ℕ → Bool = λ id. is_same c.args.root (owner_of c.args.self.now id) && not (mkey_users c.args.self.now id == 0) in
    let few : count_by (λ (entry : ℕ × FamilyRecord). test entry.0) c.self.inside.records.items ≤ 256 = few_records c.self.inside c.self.invariant test in
    let counted : c.used_of.result ≡ count_by (λ (entry : ℕ × FamilyRecord). test entry.0) c.self.inside.records.items =
    c.used_of.ensures ∙ ap (λ (m : List (ℕ × FamilyRecord)). count_by (λ entry. test entry.0) m) c.as_slice.ensures.value in
    omega (arith, few, counted)

pub returns : goal.returns
returns c =
    let test : ℕ → Bool = λ id. is_same c.args.root (owner_of c.args.self.now id) && not (mkey_users c.args.self.now id == 0) in
    c.used_of.ensures ∙ ap (λ (m : List (ℕ × FamilyRecord)). count_by (λ entry. test entry.0) m) c.as_slice.ensures.value
    ∙ stored_counted test c.self.inside.records.items ∙ ap (λ (p : Plain). count_by (λ entry. test entry.0) p.wrapped) c.self.view_is
