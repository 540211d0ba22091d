use Rattle.std.proofs.Common.{◌≡◌, ℕ, List, true, is_some, ap, sym, ◌∙◌, subst}
use Rattle.encryption_roots.specs.RecordSize.{IsRecordSize}
use Rattle.key_machine.specs.Create.{new_suite, seeded_record}
use Rattle.key_ciphers.specs.Ciphers.{ciphers}
use Rattle.key_store.proofs.CreateLemmas.{heir_fault, is_told_heir, size_in_form}
use Rattle.key_store.proofs.state.KeyState.new_heir.Goals as goal

pub returns-in-Err : goal.returns-in-Err
returns-in-Err c = heir_fault c.args.self.now c.args.name.now c.args.opts.now c.requires.heir c.args.kit.now c.in-Err.why (sym c.seed_got.ensures ∙ c.in-Err.is)

pub returns : goal.returns
returns c =
    let suite = new_suite c.args.self.now c.args.name.now c.args.opts.now in
    let sealed = c.seeded_record-wrapped.ensures.sealed ∙ ap (λ s. seeded_record ciphers s c.new-seed.result c.parent_key-key.result) c.new_suite.ensures
    ∙ ap (λ (words : List ℕ). seeded_record ciphers suite words c.parent_key-key.result) c.new-seed.ensures ∙ ap (λ (key : List ℕ). seeded_record ciphers suite c.in-Ok.seed key) c.parent_key-key.ensures in
    let opens = subst (λ (key : List ℕ). is_some (ciphers.opens c.seeded_record-wrapped.result key) ≡ true) c.parent_key-key.ensures (ap (λ found. is_some found) c.seeded_record-wrapped.ensures.opens) in
    is_told_heir c.args.self.now c.args.name.now c.args.opts.now c.requires.heir c.args.kit.now c.in-Ok.seed (record { wrapped = c.seeded_record-wrapped.result; block = c.unwrap_or-block.result })
    (sym c.seed_got.ensures ∙ c.in-Ok.is) sealed c.unwrap_or-block.ensures opens c.seeded_record-wrapped.ensures.in_form
    (subst IsRecordSize (sym c.unwrap_or-block.ensures) (size_in_form c.args.opts.now.block c.requires.record_size))
