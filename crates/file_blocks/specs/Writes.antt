-- Writes and cuts of an object's bytes: the new text of each touched block, and what of the old ones is read
-- for it.
use Rattle.std.specs.Prelude.{ℕ, ◌+◌, ◌-◌, ◌*◌, ◌/◌, ◌==◌, ◌||◌, Bool, false, max, nat_le, nat_lt, if◌then◌else◌, List, [], ◌∷◌, length, take, drop, map, Option, Some, None, is_some, Result, Ok, Err}
use Rattle.std.specs.List.{range_with_len}
use Rattle.std.specs.Option.{option_map_or}
use Rattle.std.specs.Result.{result_map_both}
use Rattle.block_crypt.specs.Blocks.{KeyValue}
use Rattle.indirect_macs.specs.declared.refs.BlockRef.{BlockRef}
use Rattle.indirect_macs.specs.declared.refs.ObjTree.{ObjTree}
use Rattle.indirect_macs.specs.declared.refs.MacError.{MacError}
use Rattle.indirect_macs.specs.declared.refs.MacError.TheVariants.{MacFailed}
use Rattle.indirect_macs.specs.Runs.{levels_for}
use Rattle.indirect_macs.specs.Walk.{goes_on}
use Rattle.file_blocks.specs.Changes.{Change, ref_in}
use Rattle.file_blocks.specs.declared.object.Object.{Object}
use Rattle.file_blocks.specs.Objects.{blocks_for, collected, count_touched, first_touched, opened_ref, spliced}

-- ---- what of a write goes into which block

-- a write of bytes at an offset into an object of a record size
pub record Write : Type 0 where
  pub tree : ObjTree
  pub old_length : ℕ
  pub record_size : ℕ
  pub from : ℕ
  pub bytes : List ℕ

-- where it ends, and the object's length behind it
abbrev pub end_of : Write → ℕ
end_of w = w.from + length w.bytes

abbrev pub length_after : Write → ℕ
length_after w = max w.old_length (end_of w)

-- the first block that it touches, and how many
abbrev pub first_of : Write → ℕ
first_of w = first_touched w.record_size w.from

abbrev pub count_of : Write → ℕ
count_of w = count_touched w.record_size w.from (end_of w)

-- where in a touched block it begins: behind a front that stays in the first one, and else at once
abbrev pub start_in : Write → (index : ℕ) → ℕ
start_in w index = w.from - index * w.record_size

-- which of its bytes go into a touched block
abbrev pub piece_in : Write → (index : ℕ) → List ℕ
piece_in w index = take (w.record_size - start_in w index) (drop (index * w.record_size - w.from) w.bytes)

-- ---- the old texts

-- a piece from a start up to an end leaves some of the stored bytes of a block, which are so many
abbrev pub is_partial : (start end size : ℕ) → Bool
is_partial start end size = nat_lt 0 start || nat_lt end size

-- the stored text that a reference names, or that the block fails
unfoldable pub opened_as : KeyValue → (held : List (List ℕ)) → (index : ℕ) → BlockRef → Result (List ℕ) MacError
opened_as key held index r = option_map_or (λ text. Ok text) (opened_ref key held r) (Err (MacFailed 0 index))

-- the stored text of a block where it is taken over in part; where all of it is written over, or nothing is
-- stored, the block isn't read
unfoldable pub taken_from : KeyValue → (held : List (List ℕ)) → (index start end : ℕ) → Option BlockRef
    → Result (List ℕ) MacError
taken_from key held index start end None = Ok []
taken_from key held index start end (Some r) =
    if is_partial start end r.size then opened_as key held index r else Ok []

-- and the first place over the block that fails, from the top
unfoldable pub taken_at : KeyValue → (held : List (List ℕ)) → (record_size : ℕ) → ObjTree → (index start end : ℕ)
    → Result (List ℕ) MacError
taken_at key held record_size tree index start end =
    goes_on (λ found. taken_from key held index start end found) (λ failed. Err failed)
    (ref_in held record_size tree index)

-- ---- the new texts

-- the new text of a touched block, over the bytes that are taken over
abbrev pub text_over : Write → (index : ℕ) → (taken : List ℕ) → List ℕ
text_over w index taken = spliced taken (start_in w index) (piece_in w index)

-- what a touched block takes over of its old text
abbrev pub taken_by : KeyValue → (held : List (List ℕ)) → Write → (index : ℕ) → Result (List ℕ) MacError
taken_by key held w index =
    taken_at key held w.record_size w.tree index (start_in w index) (start_in w index + length (piece_in w index))

unfoldable pub new_text : KeyValue → (held : List (List ℕ)) → Write → (index : ℕ) → Result (List ℕ) MacError
new_text key held w index =
    result_map_both (text_over w index) (λ failed. failed) (taken_by key held w index)

-- of all touched blocks in ascending order, or the first place over one of them that fails, from the top
unfoldable pub new_texts : KeyValue → (held : List (List ℕ)) → Write → Result (List (List ℕ)) MacError
new_texts key held w = collected (map (new_text key held w) (range_with_len (first_of w) (count_of w)))

-- the blocks behind the first one and before the last one are written over whole, so that of the old texts only
-- those of these two are taken over
abbrev pub last_of : Write → ℕ
last_of w = (end_of w - 1) / w.record_size

abbrev pub taken_in : Write → (front back : List ℕ) → (index : ℕ) → List ℕ
taken_in w front back index = if index == first_of w then front else (if index == last_of w then back else [])

-- how many groups of 32 blocks, each under one node, have bytes from one place up to another
abbrev pub groups_touched : (record_size from end : ℕ) → ℕ
groups_touched record_size from end = (end - 1) / record_size / 32 + 1 - from / record_size / 32

abbrev pub count_groups : Write → ℕ
count_groups w = groups_touched w.record_size w.from (end_of w)

-- how many calls of a shelf read what a write takes over at most: those over a block and those over the first block
-- of each further group, of each the block and the nodes over it
abbrev pub reads_of : Write → ℕ
reads_of w = (w.tree.levels + 1) * (count_groups w + 1)

-- the walks to the first block of so many groups from this one on pass, or the first that fails
unfoldable pub groups_at : (held : List (List ℕ)) → (record_size : ℕ) → ObjTree → (from count : ℕ)
    → Result (Unit {0}) MacError
groups_at held record_size tree from count =
    result_map_both (λ _. tt) (λ failed. failed)
    (collected (map (λ group. ref_in held record_size tree (32 * group)) (range_with_len from count)))

abbrev pub texts_over : Write → (front back : List ℕ) → (count : ℕ) → List (List ℕ)
texts_over w front back count =
    map (λ index. text_over w index (taken_in w front back index)) (range_with_len (first_of w) count)

-- ---- the changes

-- of a length alone: the tree stays where it has as many levels as before
abbrev pub change_of_length : ObjTree → (record_size new_length : ℕ) → Change
change_of_length tree record_size new_length = record {
  tree = tree;
  record_size = record_size;
  new_length = new_length;
  stays = levels_for (blocks_for record_size new_length) == tree.levels;
  first = 0;
  texts = [];
}

-- of a write
abbrev pub change_to : Write → List (List ℕ) → Change
change_to w texts = record {
  tree = w.tree;
  record_size = w.record_size;
  new_length = length_after w;
  stays = false;
  first = first_of w;
  texts = texts;
}

unfoldable pub change_of_write : KeyValue → (held : List (List ℕ)) → Write → Result Change MacError
change_of_write key held w =
    if length w.bytes == 0 then Ok (change_of_length w.tree w.record_size (length_after w))
    else result_map_both (change_to w) (λ failed. failed) (new_texts key held w)

-- of a cut to a length that isn't 0 and less than the object's: of the last block that stays so many bytes
-- stay, and where it stores more, its front is its new text
abbrev pub last_kept : (record_size to : ℕ) → ℕ
last_kept record_size to = (to - 1) / record_size

abbrev pub left_of : (record_size to : ℕ) → ℕ
left_of record_size to = to - last_kept record_size to * record_size

unfoldable pub front_from : KeyValue → (held : List (List ℕ)) → (index left : ℕ) → Option BlockRef
    → Result (Option (List ℕ)) MacError
front_from key held index left None = Ok None
front_from key held index left (Some r) =
    if nat_lt left r.size
    then result_map_both (λ text. Some (take left text)) (λ failed. failed) (opened_as key held index r)
    else Ok None

unfoldable pub front_at : KeyValue → (held : List (List ℕ)) → (record_size : ℕ) → ObjTree → (index left : ℕ)
    → Result (Option (List ℕ)) MacError
front_at key held record_size tree index left =
    goes_on (λ found. front_from key held index left found) (λ failed. Err failed) (ref_in held record_size tree index)

abbrev pub cut_by : ObjTree → (record_size to : ℕ) → (front : Option (List ℕ)) → Change
cut_by tree record_size to front = record {
  tree = tree;
  record_size = record_size;
  new_length = to;
  stays = false;
  first = if is_some front then last_kept record_size to else 0;
  texts = option_map_or (λ text. text ∷ []) front [];
}

unfoldable pub change_of_cut : KeyValue → (held : List (List ℕ)) → (record_size : ℕ) → Object → (to : ℕ)
    → Result Change MacError
change_of_cut key held record_size object to =
    if nat_le object.length to then Ok (change_of_length object.tree record_size to)
    else (if to == 0 then Ok (cut_by object.tree record_size 0 None)
    else result_map_both (cut_by object.tree record_size to) (λ failed. failed)
    (front_at key held record_size object.tree (last_kept record_size to) (left_of record_size to)))
