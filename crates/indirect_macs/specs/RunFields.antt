-- What the fields of a `Run` stand for.
use Rattle.indirect_macs.specs.declared.run.Run.{Run as Fields}
use Rattle.std.specs.Prelude.{ℕ, List, Option}
use Rattle.indirect_macs.specs.declared.refs.BlockRef.{BlockRef}
use Rattle.indirect_macs.specs.declared.refs.ObjTree.{ObjTree}
use Rattle.indirect_macs.specs.Runs.{Run}

abbrev pub run_of : Fields → Run
run_of run = record {
  levels = run.tree.levels;
  top = run.tree.top;
  blocks = run.blocks;
  from = run.from;
  refs = run.refs.now;
}

-- and of a call's parameters
abbrev pub run_for : ObjTree → (blocks from : ℕ) → List (Option BlockRef) → Run
run_for tree blocks from refs = record {
  levels = tree.levels;
  top = tree.top;
  blocks = blocks;
  from = from;
  refs = refs;
}
