-- What the fields of a `Write` stand for.
use Rattle.file_blocks.specs.declared.write.Write.{Write as Fields}
use Rattle.std.specs.Prelude.{ℕ, List}
use Rattle.file_blocks.specs.declared.object.Object.{Object}
use Rattle.file_blocks.specs.Writes.{Write}

abbrev pub write_of : Fields → Write
write_of w = record {
  tree = w.tree;
  old_length = w.old_length;
  record_size = w.block;
  from = w.from;
  bytes = w.bytes.now;
}

-- and of a call's parameters
abbrev pub write_to : Object → (record_size from : ℕ) → (bytes : List ℕ) → Write
write_to object record_size from bytes = record {
  tree = object.tree;
  old_length = object.length;
  record_size = record_size;
  from = from;
  bytes = bytes;
}
