use Rattle.std.proofs.Common.{◌≡◌, ◌<◌, ◌≤◌, None, Result, Ok, Err, OnErr, length, get_or, ◌∙◌, arith}
use Rattle.std.proofs.lemmas.Grind.{common_steps}
use Rattle.std.specs.List.{AllWithin}
use Rattle.encryption_roots.specs.ById.{at_id}
use Rattle.encryption_roots.proofs.ByIdLemmas.{at_id-missed_at, with_id-replaced, with_id-added, IsRisingById-with_id}
use Rattle.encryption_roots.proofs.by_id.put_at_id.Goals as goal
use Rattle.encryption_roots.proofs.by_id.put_at_id.Goals.{else-at-len-via-then-at-len+else-index-id, else-at-len-via-else-at-len}

pub returns-then-index-id-clause-ok : goal.returns-then-index-id-clause-ok
returns-then-index-id-clause-ok g c =
    let within : c.place_in-at.result < length c.args.entries.now.items = omega arith in
    let below : AllWithin (λ entry. entry.0 < c.args.id) c.args.entries.now.items 0 c.place_in-at.result = rw c.deref.ensures.value at c.place_in-at.ensures.below in
    let here : (get_or c.args.entries.now.items c.place_in-at.result c.index.result.now).0 ≡ c.args.id = grind (arith, common_steps) in
    with_id-replaced c.args.id c.args.value c.args.entries.now.items c.place_in-at.result c.index.result.now within below here

pub returns-clause-ok : goal.returns-clause-ok
returns-clause-ok g c =
    let below : AllWithin (λ entry. entry.0 < c.args.id) c.args.entries.now.items 0 c.place_in-at.result = rw c.deref.ensures.value at c.place_in-at.ensures.below in
    let above : AllWithin (λ entry. c.args.id ≤ entry.0) c.args.entries.now.items c.place_in-at.result (length c.args.entries.now.items) = rw c.deref.ensures.value at c.place_in-at.ensures.above in
    let within : c.place_in-at.result ≤ length c.args.entries.now.items = rw c.deref.ensures.value at c.place_in-at.ensures.within in
    c.in_ok-insert.ensures.items ∙ with_id-added c.args.id c.args.value c.args.entries.now.items c.place_in-at.result within below above
    (elim c.else-at-len.branch [
      | else-at-len-via-then-at-len+else-index-id w ↦ λ d inside. grind (arith, common_steps)
      | else-at-len-via-else-at-len w ↦ λ d inside. absurd (omega arith)
    ])

pub returns-clause-rising : goal.returns-clause-rising
returns-clause-rising g c = rw (returns-clause-ok g c) (IsRisingById-with_id c.args.id c.args.value c.args.entries.now.items c.requires)

told_on_err : {T E : Type 0} (result : Result T E) (P : Type 0) → P → OnErr result P
told_on_err (Ok x) P holds = tt
told_on_err (Err e) P holds = holds

pub returns-in_err-insert-clause-new : goal.returns-in_err-insert-clause-new
returns-in_err-insert-clause-new g c =
    let below : AllWithin (λ entry. entry.0 < c.args.id) c.args.entries.now.items 0 c.place_in-at.result = rw c.deref.ensures.value at c.place_in-at.ensures.below in
    let above : AllWithin (λ entry. c.args.id ≤ entry.0) c.args.entries.now.items c.place_in-at.result (length c.args.entries.now.items) = rw c.deref.ensures.value at c.place_in-at.ensures.above in
    let within : c.place_in-at.result ≤ length c.args.entries.now.items = rw c.deref.ensures.value at c.place_in-at.ensures.within in
    told_on_err c.from_residual.result (at_id c.args.id c.args.entries.now.items ≡ None)
    (at_id-missed_at c.args.id c.args.entries.now.items c.place_in-at.result c.requires below above
    (elim c.else-at-len.branch [
      | else-at-len-via-then-at-len+else-index-id w ↦ λ d inside. grind (arith, common_steps)
      | else-at-len-via-else-at-len w ↦ λ d inside. absurd (omega arith)
    ]))
