use Rattle.wrapped_keys.proofs.WrappingLaws.{record_of-sealed, opens-record_of}
use Rattle.wrapped_keys.proofs.key_record.wrap.Goals as goal

pub returns-clause-sealed : goal.returns-clause-sealed
returns-clause-sealed c =
    record_of-sealed c.args.key.now c.guid-guid.result c.suite-suite.result c.args.w.now c.args.iv _ _ _ _ _ _
    c.guid-guid.ensures c.suite-suite.ensures c.sealed_len.ensures c.additional_data-aad.ensures c.message-sealed.ensures.message
    c.message-sealed.ensures.master c.message-sealed.ensures.hmac c.aead_seal-mac.ensures.sealed

pub returns-clause-opens : goal.returns-clause-opens
returns-clause-opens c =
    rw (returns-clause-sealed c) (opens-record_of c.args.key.now c.args.w.now c.args.iv c.message-sealed.ensures.master)
