-- What the fields of a `Plan` and its texts stand for.
use Rattle.std.specs.Prelude.{ℕ, List}
use Rattle.file_blocks.specs.declared.change.Plan.{Plan}
use Rattle.file_blocks.specs.Changes.{Change}

abbrev pub change_of : Plan → (texts : List (List ℕ)) → Change
change_of plan texts = record {
  tree = plan.tree;
  record_size = plan.block;
  new_length = plan.length;
  stays = plan.stays;
  first = plan.first;
  texts = texts;
}
