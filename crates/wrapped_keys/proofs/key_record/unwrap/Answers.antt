use Rattle.std.proofs.Common.{ℕ, take, Some, refl, sym, ap, ◌∙◌}
use Rattle.wrapped_keys.specs.PaddedRecord.{record_value}
use Rattle.wrapped_keys.proofs.WrappingLaws.{opens_good, opens_bad}
use Rattle.wrapped_keys.proofs.key_record.unwrap.Goals as goal

pub returns-in_err-aead_open-clause-bad_tag : goal.returns-in_err-aead_open-clause-bad_tag
returns-in_err-aead_open-clause-bad_tag c =
    let sealed = ap (λ (n : ℕ). take n c.rec.inside.sealed) c.sealed_len.ensures in (
      λ _. rw (← c.rec.view_is)
          (opens_bad (record_value c.rec.inside) c.args.w.now _ _ c.additional_data-aad.ensures sealed (c.in_err-aead_open.ensures.bad_tag.0 refl)),
      λ _. c.from_residual.ensures.0,
    )

pub returns-clause-opened : goal.returns-clause-opened
returns-clause-opened c =
    let sealed = ap (λ (n : ℕ). take n c.rec.inside.sealed) c.sealed_len.ensures in
    rw (← c.rec.view_is)
    (opens_good (record_value c.rec.inside) c.args.w.now _ _ _ c.additional_data-aad.ensures sealed c.in_ok-aead_open.ensures.opened ∙ ap Some (sym c.master_of.ensures))

pub returns-clause-bad_tag : goal.returns-clause-bad_tag
returns-clause-bad_tag c =
    let opened = returns-clause-opened c in
    (λ e. cc, λ e. cc)
