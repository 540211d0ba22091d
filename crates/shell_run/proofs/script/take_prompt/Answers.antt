use Rattle.std.proofs.Common.{Option, List, ℕ, refl, arith}
use Rattle.edge_io.specs.Told.{unread}
use Rattle.shell_run.proofs.ScriptLemmas.{prompt_long, prompt_none, prompt_past, prompt_some}
use Rattle.shell_run.proofs.script.take_prompt.Goals as goal

pub returns-then-number-gt-MAX_LINES-clause-stops : goal.returns-then-number-gt-MAX_LINES-clause-stops
returns-then-number-gt-MAX_LINES-clause-stops g c =
    let told : Option (List ℕ) = unread c.args.reader.now (g.S.Source.left c.args.source.now) in
    prompt_past c.args.next.now told c.in-Ok-Some.material.items (omega arith) (rw c.in-Ok-Some.field-0-is at c.in-Ok-Some.ensures.line)

pub returns-in-Ok-None-clause-given : goal.returns-in-Ok-None-clause-given
returns-in-Ok-None-clause-given g c =
    let told : Option (List ℕ) = unread c.args.reader.now (g.S.Source.left c.args.source.now) in
    let left : Option (List ℕ) = unread c.next_prompt.new.self (g.S.Source.left c.next_prompt.new.src) in
    rw c.new.ensures.items (prompt_none c.args.next.now told left (rw c.in-Ok-None.field-0-is at c.in-Ok-None.ensures.line) c.in-Ok-None.ensures.rest)

pub returns-else-number-gt-MAX_LINES-clause-given : goal.returns-else-number-gt-MAX_LINES-clause-given
returns-else-number-gt-MAX_LINES-clause-given g c =
    let told : Option (List ℕ) = unread c.args.reader.now (g.S.Source.left c.args.source.now) in
    let left : Option (List ℕ) = unread c.next_prompt.new.self (g.S.Source.left c.next_prompt.new.src) in
    prompt_some c.args.next.now told left c.in-Ok-Some.material.items (omega arith) (rw c.in-Ok-Some.field-0-is at c.in-Ok-Some.ensures.short)
    (rw c.in-Ok-Some.field-0-is at c.in-Ok-Some.ensures.line) c.in-Ok-Some.ensures.rest

pub returns-in-Err-Long-clause-stops : goal.returns-in-Err-Long-clause-stops
returns-in-Err-Long-clause-stops g c =
    let told : Option (List ℕ) = unread c.args.reader.now (g.S.Source.left c.args.source.now) in
    prompt_long c.args.next.now c.place_of_long.result told c.place_of_long.ensures (c.in-Err-Long.ensures.long (rw c.in-Err-Long.field-0-is refl))
