use Rattle.std.proofs.Common.{sym, ◌∙◌, Some, None}
use Rattle.indirect_macs.specs.Runs.{leaf_of}
use Rattle.indirect_macs.proofs.Putting.{ref_holes, ref_kept, ref_new, puts_holes, puts_kept, puts_done, puts_stopped}
use Rattle.indirect_macs.proofs.stored.put_leaf.Goals as goal

pub returns-then-are_holes-clause-value : goal.returns-then-are_holes-clause-value
unfolding leaf_of
returns-then-are_holes-clause-value g c = ref_holes _ (leaf_of c.args.entries.now) c.args.kept.now (sym c.are_holes.ensures ∙ c.if-are_holes.true)

pub returns-then-are_holes-clause-puts : goal.returns-then-are_holes-clause-puts
unfolding leaf_of
returns-then-are_holes-clause-puts g c = λ reads before start had.
    puts_holes reads before (leaf_of c.args.entries.now) c.args.kept.now None start _ (sym c.are_holes.ensures ∙ c.if-are_holes.true) had

pub returns-in-Some-clause-value : goal.returns-in-Some-clause-value
unfolding leaf_of
returns-in-Some-clause-value g c = ref_kept _ (leaf_of c.args.entries.now) c.args.kept.now c.in-Some.old (sym c.are_holes.ensures ∙ c.if-are_holes.false) c.in-Some.is

pub returns-in-Some-clause-puts : goal.returns-in-Some-clause-puts
unfolding leaf_of
returns-in-Some-clause-puts g c = λ reads before start had.
    puts_kept reads before (leaf_of c.args.entries.now) c.args.kept.now (Some c.in-Some.old) c.in-Some.old start _ (sym c.are_holes.ensures ∙ c.if-are_holes.false) c.in-Some.is had

pub returns-in-Ok-clause-value : goal.returns-in-Ok-clause-value
unfolding leaf_of
returns-in-Ok-clause-value g c =
    ref_new _ c.in-Ok.addr _ (leaf_of c.args.entries.now) c.args.kept.now (sym c.are_holes.ensures ∙ c.if-are_holes.false) c.in_default.is c.in-Ok.ensures.address c.blocks_mac.ensures

pub returns-in-Ok-clause-puts : goal.returns-in-Ok-clause-puts
unfolding leaf_of
returns-in-Ok-clause-puts g c = λ reads before start had.
    puts_done reads before (leaf_of c.args.entries.now) c.args.kept.now _ c.leaf_bytes.result c.in-Ok.addr start _ (sym c.are_holes.ensures ∙ c.if-are_holes.false) c.in_default.is
    c.leaf_bytes.ensures (c.in-Ok.ensures.puts reads before start had)

pub returns-in-Err-clause-puts : goal.returns-in-Err-clause-puts
unfolding leaf_of
returns-in-Err-clause-puts g c = λ reads before start had.
    puts_stopped reads before (leaf_of c.args.entries.now) c.args.kept.now c.leaf_bytes.result c.in-Err.stop start _ (sym c.are_holes.ensures ∙ c.if-are_holes.false) c.in_default.is
    c.leaf_bytes.ensures (c.in-Err.ensures.puts reads before start had)
