use Rattle.std.proofs.Common.{◌≡◌, ◌<◌, ◌≤◌, take, drop}
use Rattle.std.specs.List.{count_by}
use Rattle.dataset_tree.specs.SetName.{is_slash, ends_in_component, name_fault, name_fault_after}
use Rattle.dataset_tree.proofs.name.first_fault.Given as goal

-- no fault so far: the text's is that of the rest behind what was read
abbrev pub invariant-loop-at : goal.invariant-loop-at
invariant-loop-at l = record {
  so_far : name_fault_after (take l.at l.text) (drop l.at l.text) ≡ name_fault l.text;
  short : l.at ≤ 255;
  component : l.in_component ≡ ends_in_component (take l.at l.text);
  slashes : l.slashes ≡ count_by is_slash (take l.at l.text);
  shallow : l.slashes < 32;
}
