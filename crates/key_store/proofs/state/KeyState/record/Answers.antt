use Rattle.std.proofs.Common.{◌≡◌, sym, ap, ◌∙◌}
use Rattle.std.specs.Option.{option_map, option_copied}
use Rattle.key_store.specs.State.{stored_of}
use Rattle.encryption_roots.specs.ById.{at_id}
use Rattle.key_store.proofs.RecordLemmas.{rising_records, at_id-stored}
use Rattle.key_store.proofs.state.KeyState.record.Goals as goal

pub at_id-requires : goal.at_id-requires
at_id-requires c = rw c.as_slice.ensures.value (rising_records c.self.inside.records.items c.self.invariant.sound.tree.records)

pub returns : goal.returns
returns c =
    let found : option_copied c.at_id.result ≡ at_id c.args.family c.self.inside.records.items = c.at_id.ensures ∙ ap (λ records. at_id c.args.family records) c.as_slice.ensures.value in
    ap (λ found. option_map stored_of found) found ∙ sym (at_id-stored c.args.family c.self.inside.records.items) ∙ ap (λ p. at_id c.args.family p.wrapped) c.self.view_is
