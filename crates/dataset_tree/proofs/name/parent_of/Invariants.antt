use Rattle.std.proofs.Common.{◌≡◌, ◌<◌, length, take, IfSome}
use Rattle.std.specs.Option.{option_map}
use Rattle.dataset_tree.specs.SetName.{parent_name}
use Rattle.dataset_tree.proofs.name.parent_of.Given as goal

-- what stands before the last slash so far
abbrev pub invariant-loop-at : goal.invariant-loop-at
invariant-loop-at l = record {
  within : IfSome l.last_slash (λ i. i < length l.name);
  parent : option_map (λ i. take i l.name) l.last_slash ≡ parent_name (take l.at l.name);
}
