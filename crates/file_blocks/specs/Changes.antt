-- New texts of an object's blocks: under which draws they are sealed, what is put, in which order, and the new
-- object. Each text is sealed under a draw of its own, and put behind those before it; then the nodes over
-- them are put.
use Rattle.std.specs.Prelude.{ℕ, ◌+◌, ◌-◌, ◌*◌, ◌/◌, ◌^◌, ◌<◌, ◌≤◌, ◌≡◌, ◌==◌, ◌⊎◌, Bool, false, min, nat_lt, if◌then◌else◌, List, [], ◌∷◌, ◌++◌, length, Option, Some, None, Result, Ok, Err, IsOk, ⊤}
use Rattle.block_crypt.specs.Blocks.{KeyValue, sealed_block}
use Rattle.salt_rotation.specs.SaltState.{SaltState}
use Rattle.salt_rotation.specs.Salts.{drawn}
use Rattle.salt_rotation.specs.declared.salts.Drawn.{Drawn}
use Rattle.salt_rotation.specs.declared.salts.TheConstants.{MAX_DRAWS}
use Rattle.shelf_store.specs.ShelfState.{ShelfState, after_calls}
use Rattle.indirect_macs.specs.declared.refs.BlockRef.{BlockRef}
use Rattle.indirect_macs.specs.declared.refs.ObjTree.{ObjTree}
use Rattle.indirect_macs.specs.declared.refs.MacError.{MacError}
use Rattle.indirect_macs.specs.declared.refs.MacError.TheVariants.{MacFailed, ShelfFault, Full, NoMemory}
use Rattle.indirect_macs.specs.Calls.{fails_within, is_fault}
use Rattle.indirect_macs.specs.Replaced.{with_blocks, IsTooMuch}
use Rattle.indirect_macs.specs.Steps.{HasPut, Puts}
use Rattle.indirect_macs.specs.RunFields.{run_for}
use Rattle.indirect_macs.specs.Runs.{Passes, Run, old_of, puts_of, tree_of}
use Rattle.file_blocks.specs.declared.object.Object.{Object}
use Rattle.file_blocks.specs.declared.write_error.WriteError.{WriteError}
use Rattle.file_blocks.specs.declared.write_error.WriteError.TheVariants.{Stopped, DrawsFull}
use Rattle.file_blocks.specs.Objects.{blocks_for, walk_in}

-- ---- draws

-- so many draws were made
abbrev pub after_draws : ℕ → SaltState → SaltState
after_draws count salts = record salts { made = salts.made + count }

-- the next draw
abbrev pub next_draw : SaltState → Drawn
next_draw salts = drawn salts.seed salts.limit salts.made

-- so many draws are left
abbrev pub HasDraws : SaltState → (count : ℕ) → Type 0
HasDraws salts count = salts.made + count ≤ MAX_DRAWS

-- the number of the salt of the last of so many draws, none where there was none
abbrev pub last_number : SaltState → (count : ℕ) → Option ℕ
last_number salts count = if count == 0 then None else Some (next_draw (after_draws (count - 1) salts)).number

-- ---- sealed texts

-- a text sealed under a draw, and its reference
abbrev pub sealed_under : KeyValue → Drawn → (text : List ℕ) → List ℕ
sealed_under key d text = (sealed_block key d.salt d.iv text).0

abbrev pub ref_under : KeyValue → Drawn → (addr : ℕ) → (text : List ℕ) → BlockRef
ref_under key d addr text = record {
  size = length text;
  addr = addr;
  salt = d.salt;
  iv = d.iv;
  mac = (sealed_block key d.salt d.iv text).1;
}

-- the sealed texts, the first under the next draw, each further one under the draw behind it
unfoldable pub sealed_texts : KeyValue → SaltState → (texts : List (List ℕ)) → List (List ℕ)
sealed_texts key salts [] = []
sealed_texts key salts (text ∷ texts) =
    sealed_under key (next_draw salts) text ∷ sealed_texts key (after_draws 1 salts) texts

-- and their references, where they stand from an address on
unfoldable pub refs_to : KeyValue → SaltState → (addr : ℕ) → (texts : List (List ℕ)) → List (Option BlockRef)
refs_to key salts addr [] = []
refs_to key salts addr (text ∷ texts) =
    Some (ref_under key (next_draw salts) addr text) ∷ refs_to key (after_draws 1 salts) (addr + 1) texts

-- ---- what is put

-- new texts of an object's blocks, from one on: an object of a record size gets another length, and these
-- blocks of it these texts; or its tree stays as it is
pub record Change : Type 0 where
  pub tree : ObjTree
  pub record_size : ℕ
  pub new_length : ℕ
  pub stays : Bool
  pub first : ℕ
  pub texts : List (List ℕ)

-- the references to them in the tree, behind so many blocks of a shelf
abbrev pub run_in : KeyValue → SaltState → (base : ℕ) → Change → Run
run_in key salts base c =
    run_for c.tree (blocks_for c.record_size c.new_length) c.first (refs_to key salts base c.texts)

-- what the shelf holds once the sealed texts are put
abbrev pub held_with : KeyValue → SaltState → (held : List (List ℕ)) → Change → List (List ℕ)
held_with key salts held c = held ++ sealed_texts key salts c.texts

-- the nodes over them that are put
unfoldable pub nodes_in : KeyValue → SaltState → (held : List (List ℕ)) → (base : ℕ) → Change → List (List ℕ)
nodes_in key salts held base c =
    if c.stays then []
    else puts_of (run_in key salts base c) (old_of (held_with key salts held c) c.record_size (run_in key salts base c))
    (base + length c.texts)

-- what is put: the sealed texts, and then the nodes
abbrev pub puts_in : KeyValue → SaltState → (held : List (List ℕ)) → (base : ℕ) → Change → List (List ℕ)
puts_in key salts held base c = sealed_texts key salts c.texts ++ nodes_in key salts held base c

-- the new object
unfoldable pub object_in : KeyValue → SaltState → (held : List (List ℕ)) → (base : ℕ) → Change → Object
object_in key salts held base c = record {
  length = c.new_length;
  tree = if c.stays then c.tree
      else tree_of (run_in key salts base c)
      (old_of (held_with key salts held c) c.record_size (run_in key salts base c)) (base + length c.texts);
}

-- ---- walks

-- the nodes over which a change's texts stand, and of one without texts over the last block that stays, pass
abbrev pub PassesIn : KeyValue → SaltState → (held : List (List ℕ)) → (base : ℕ) → Change → Type 0
PassesIn key salts held base c = c.stays ≡ false → Passes held c.record_size (run_in key salts base c)

-- the reference to a block in a tree; none beyond the tree
abbrev pub ref_in : (held : List (List ℕ)) → (record_size : ℕ) → ObjTree → (index : ℕ)
    → Result (Option BlockRef) MacError
ref_in held record_size tree index =
    if nat_lt index (32 ^ tree.levels) then walk_in held record_size tree index else Ok None

-- ---- what a call leaves

-- the answer is a failure of the shelf
abbrev pub is_shelf_fault : {X : Type 0} → Result X WriteError → Bool
is_shelf_fault (Ok x) = false
is_shelf_fault (Err DrawsFull) = false
is_shelf_fault {X = X} (Err (Stopped stop)) = is_fault {X = X} (Err stop)

-- so many draws were made for blocks, of which so many are put: one for each, and one more at most, for a block
-- that wasn't put
pub record AreDraws (count put draws : ℕ) : Type 0 where
  pub low : min count put ≤ draws
  pub high : draws ≤ min count (put + 1)

-- the shelf was full: a draw was made for the block that didn't fit
abbrev pub DrawnFor : {X : Type 0} → (count put draws : ℕ) → Result X MacError → Type 0
DrawnFor count put draws (Ok x) = ⊤
DrawnFor count put draws (Err (MacFailed level place)) = ⊤
DrawnFor count put draws (Err ShelfFault) = ⊤
DrawnFor count put draws (Err Full) = draws ≡ min count (put + 1)
DrawnFor count put draws (Err NoMemory) = ⊤

-- these sealed texts were put behind calls that read, or a front of them, each under a draw of its own
pub record Seals {X : Type 0} (reads : ℕ) (whole : List (List ℕ)) (result : Result X MacError)
    (old new : ShelfState) (salts left : SaltState) : Type 0 where
  pub puts : Puts reads whole result old new
  pub draws : ℕ
  pub drawn : left ≡ after_draws draws salts
  pub counted : AreDraws (length whole) (length puts.put) draws
  pub full : DrawnFor (length whole) (length puts.put) draws result

-- nothing failed so far: these texts were sealed and put
pub record HasSealed (key : KeyValue) (texts : List (List ℕ)) (start now : ShelfState)
    (first salts : SaltState) : Type 0 where
  pub puts : HasPut 0 (sealed_texts key first texts) start now
  pub drawn : salts ≡ after_draws (length texts) first

-- what an answer says of a change of at most so many blocks
abbrev pub Leaves : {X : Type 0} → Result X WriteError → SaltState → (count put draws : ℕ) → Type 0
Leaves (Ok x) salts count put draws = (count ≤ put) × HasDraws salts count
Leaves (Err DrawsFull) salts count put draws = (put ≡ 0) × (draws ≡ 0) × (MAX_DRAWS < salts.made + count)
Leaves {X = X} (Err (Stopped stop)) salts count put draws =
    DrawnFor {X = X} count put draws (Err stop) × (draws ≡ 0 ⊎ HasDraws salts count)

-- how many calls of a shelf put so many texts at most: one for each text, and those for the nodes over them, of the
-- old tree that is read and of the new one that is put
abbrev pub calls_of : (count : ℕ) → ℕ
calls_of count = count + (2 * (count / 31) + 21)

-- on every shelf, of a change of at most so many blocks behind so many calls that read: some calls were made, some
-- blocks and nodes put, few beside the change's blocks, and some draws made; and the answer is a failure of the
-- shelf exactly where one of the calls was the armed one
pub record Leaving {X : Type 0} (most reads : ℕ) (result : Result X WriteError) (old new : ShelfState)
    (salts left : SaltState) : Type 0 where
  pub count : ℕ
  pub few : count ≤ most
  pub calls : ℕ
  pub put : List (List ℕ)
  pub draws : ℕ
  pub bound : length put ≤ count + (count / 31 + 12)
  pub within : calls ≤ reads + calls_of count
  pub after : new ≡ after_calls calls (with_blocks put old)
  pub fault : is_shelf_fault result ≡ fails_within calls old.armed
  pub drawn : left ≡ after_draws draws salts
  pub counted : AreDraws count (length put) draws
  pub leaves : Leaves result salts count (length put) draws

-- a change, or the first place that fails while the old texts are read: how many texts it has, and what it puts
abbrev pub count_in : Result Change MacError → ℕ
count_in (Ok c) = length c.texts
count_in (Err failed) = 0

abbrev pub all_puts : KeyValue → SaltState → (held : List (List ℕ)) → (base : ℕ) → Result Change MacError
    → List (List ℕ)
all_puts key salts held base (Ok c) = puts_in key salts held base c
all_puts key salts held base (Err failed) = []

-- the object is that of the change
abbrev pub IsChanged : KeyValue → SaltState → (held : List (List ℕ)) → (base : ℕ) → Result Change MacError
    → Object → Type 0
IsChanged key salts held base (Ok c) object = object ≡ object_in key salts held base c
IsChanged key salts held base (Err failed) object = ⊥

-- what an answer says of what was put, and of what was not
abbrev pub ChangeEnded : {X : Type 0} → (X → Object) → KeyValue → SaltState → (held : List (List ℕ)) → (base : ℕ)
    → (change : Result Change MacError) → (rest : List (List ℕ)) → Result X WriteError → ShelfState → Type 0
ChangeEnded object key salts held base change rest (Ok x) new =
    (rest ≡ []) × IsChanged key salts held base change (object x)
ChangeEnded object key salts held base change rest (Err DrawsFull) new = IsOk change
ChangeEnded object key salts held base change rest (Err (Stopped (MacFailed level place))) new =
    change ≡ Err (MacFailed level place)
ChangeEnded object key salts held base change rest (Err (Stopped ShelfFault)) new = ⊤
ChangeEnded object key salts held base change rest (Err (Stopped Full)) new = IsOk change × IsTooMuch rest new
ChangeEnded object key salts held base change rest (Err (Stopped NoMemory)) new = ⊤

-- and where the shelf tells what it holds: what was put is a front of what the change puts, and nothing is put
-- and no draw made where a test fails, or where too few draws are left for all
pub record Changed {X : Type 0} (object : X → Object) (key : KeyValue) (held : List (List ℕ))
    (change : Result Change MacError) (result : Result X WriteError) (old new : ShelfState)
    (salts left : SaltState) : Type 0 where
  pub calls : ℕ
  pub put : List (List ℕ)
  pub rest : List (List ℕ)
  pub draws : ℕ
  pub parts : put ++ rest ≡ all_puts key salts held (length old.sizes) change
  pub after : new ≡ after_calls calls (with_blocks put old)
  pub fault : is_shelf_fault result ≡ fails_within calls old.armed
  pub drawn : left ≡ after_draws draws salts
  pub counted : AreDraws (count_in change) (length put) draws
  pub leaves : Leaves result salts (count_in change) (length put) draws
  pub ended : ChangeEnded object key salts held (length old.sizes) change rest result new
