use Rattle.std.proofs.Common.{◌≡◌, length, ap, ◌∙◌, arith, length-drop}
use Rattle.std.proofs.lemmas.List.{take_rest}
use Rattle.wrapped_keys.specs.Values.{sealed_len}
use Rattle.wrapped_keys.proofs.Parts.{zeros_behind}
use Rattle.wrapped_keys.proofs.StoredLaws.{read_record, record_bytes-at}
use Rattle.wrapped_keys.proofs.key_record.read_fields.Goals as goal

pub invariant_of-result : goal.invariant_of-result
invariant_of-result c =
    let whole : length c.copy_from_slice-3.new.self ≡ sealed_len c.args.suite =
    ap length (c.copy_from_slice-3.ensures.after ∙ take_rest c.args.bytes.now 38) ∙ omega (arith, length-drop 38 c.args.bytes.now) in
    record {
      version = c.requires.version;
      zeros = zeros_behind c.sealed_len.result (sealed_len c.args.suite) c.copy_from_slice-3.new.self c.sealed_len.ensures whole;
    }

pub returns-clause-fields : goal.returns-clause-fields
returns-clause-fields c =
    rw c.sealed_len.ensures
    (read_record c.args.suite c.args.bytes.now c.get_u64.result c.copy_from_slice.new.self c.copy_from_slice-2.new.self c.copy_from_slice-3.new.self _
    c.requires.length c.get_u64.ensures c.copy_from_slice.ensures.after c.copy_from_slice-2.ensures.after
    (c.copy_from_slice-3.ensures.after ∙ take_rest c.args.bytes.now 38))

pub returns-clause-bytes : goal.returns-clause-bytes
returns-clause-bytes c =
    rw (returns-clause-fields c) (record_bytes-at c.args.suite c.args.bytes.now (λ i. (c.type_inv.bytes i).fits) c.requires.suite c.requires.length)
