use Rattle.std.proofs.Common.{◌+◌, refl, sym, arith}
use Rattle.std.proofs.lemmas.List.{length-take-le}
use Rattle.wrapped_keys.specs.Stored.{record_bytes}
use Rattle.wrapped_keys.proofs.Parts.{key_len-le, length-put_header, take-put_header}
use Rattle.wrapped_keys.proofs.StoredLaws.{is_record-value, parsed_record-record_bytes}
use Rattle.wrapped_keys.proofs.key_record.KeyRecord.to_bytes.Goals as goal

pub slice_bounds-bytes-end-3 : goal.slice_bounds-bytes-end-3
slice_bounds-bytes-end-3 c =
    length-put_header c.sealed_len.result c.copy_from_slice.new.self c.copy_from_slice-2.new.self (omega arith) (omega arith)
    (omega (arith, key_len-le c.self.inside.suite))

pub slice_bounds-from_slice-end : goal.slice_bounds-from_slice-end
slice_bounds-from_slice-end c =
    sym (length-take-le (38 + c.sealed_len.result) _
    (length-put_header c.sealed_len.result c.copy_from_slice.new.self c.copy_from_slice-2.new.self (omega arith) (omega arith)
    (omega (arith, key_len-le c.self.inside.suite))))

pub returns-clause-bytes : goal.returns-clause-bytes
unfolding record_bytes
returns-clause-bytes c =
    rw (
      c.from_slice.ensures,
      take-put_header c.sealed_len.result c.copy_from_slice.new.self c.copy_from_slice-2.new.self (omega arith),
      c.copy_from_slice.ensures.after,
      c.header.ensures.fields,
      c.copy_from_slice-2.ensures.after,
      c.sealed_len.ensures,
    )
    (rw (← c.self.view_is) refl)

pub returns-clause-parsed : goal.returns-clause-parsed
returns-clause-parsed c =
    let is = is_record-value c.self.inside c.self.invariant (rw (← c.self.view_is) at c.header.ensures.guid) (omega arith) (omega arith) (omega arith) in
    rw (returns-clause-bytes c, ← c.self.view_is) (parsed_record-record_bytes _ is)
