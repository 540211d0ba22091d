use Rattle.std.proofs.Common.{Option, List, ℕ, refl, arith}
use Rattle.edge_io.specs.Told.{unread}
use Rattle.shell_run.proofs.ScriptLemmas.{line_long, line_past, next_taken}
use Rattle.shell_run.proofs.script.take_line.Goals as goal

pub returns-then-number-gt-MAX_LINES-clause-none : goal.returns-then-number-gt-MAX_LINES-clause-none
returns-then-number-gt-MAX_LINES-clause-none g c =
    let told : Option (List ℕ) = unread c.args.reader.now (g.S.Source.left c.args.source.now) in
    line_past told c.in-Ok-Some.line.items c.args.next.now (omega arith) (rw c.in-Ok-Some.field-0-is at c.in-Ok-Some.ensures.line)

pub returns-else-number-gt-MAX_LINES-clause-line : goal.returns-else-number-gt-MAX_LINES-clause-line
returns-else-number-gt-MAX_LINES-clause-line g c =
    let told : Option (List ℕ) = unread c.args.reader.now (g.S.Source.left c.args.source.now) in
    let left : Option (List ℕ) = unread c.next.new.self (g.S.Source.left c.next.new.src) in
    record {
      few = omega arith;
      next = refl;
      short = rw c.in-Ok-Some.field-0-is at c.in-Ok-Some.ensures.short;
      taken = next_taken told left c.in-Ok-Some.line.items (rw c.in-Ok-Some.field-0-is at c.in-Ok-Some.ensures.line) c.in-Ok-Some.ensures.rest;
    }

pub returns-in-Err-Long-clause-none : goal.returns-in-Err-Long-clause-none
returns-in-Err-Long-clause-none g c =
    let told : Option (List ℕ) = unread c.args.reader.now (g.S.Source.left c.args.source.now) in
    line_long told c.args.next.now c.place_of_long.result c.place_of_long.ensures (c.in-Err-Long.ensures.long (rw c.in-Err-Long.field-0-is refl))
