use Rattle.std.proofs.Common.{◌≡◌, ◌+◌, ◌++◌, drop}
use Rattle.file_dataset.specs.Changes.{refs_from}
use Rattle.file_dataset.proofs.new_rows.refs_of.Given as goal

-- what was pushed, and the references that are left
abbrev pub invariant-refs : goal.invariant-refs
invariant-refs l = record {
  at : l.index ≡ l.first + l.to-index;
  told : l.list.items ++ refs_from l.object l.index (drop l.to-index l.refs) ≡ refs_from l.object l.first l.refs;
}
