-- A spot that is continued has the same files.
use Rattle.std.proofs.Common.{◌≡◌, ℕ, List, [], ◌∷◌, Option, Some, None, ◌∙◌, refl}
use Rattle.block_crypt.specs.Blocks.{KeyValue}
use Rattle.family_log.specs.Log.{KeepsLast}
use Rattle.family_log.specs.Model.{FamilyState}
use Rattle.family_log.specs.declared.entry.Spot.{Spot}
use Rattle.file_dataset.specs.Files.{HasFilesOf}
use Rattle.file_dataset.proofs.FilesLemmas.{files_go_on}
use Rattle.snap_clone.specs.Acts.{Act, Change, DropHead, DropSnapshot, Follows, Lend, MakeClone, MakeSnapshot, Note, done}
use Rattle.snap_clone.specs.Answers.{spot_removed}
use Rattle.host_state.specs.Grown.{HasPlaced}

removed_block : (head : ℕ) (snap : Option (List ℕ)) (family : FamilyState)
    → (spot_removed (record { head = head; snap = snap }) family).block ≡ family.block
removed_block head None family = refl
removed_block head (Some part) family = refl

-- nothing that is done changes the record size
done_block : (act : Act) (family : FamilyState) → (done act family).block ≡ family.block
done_block (Change head change) family = refl
done_block (Note spot what) family = refl
done_block (Lend salts shelf) family = refl
done_block (MakeSnapshot head part guid) family = refl
done_block (MakeClone from head) family = refl
done_block (DropHead head) family = refl
done_block (DropSnapshot spot) family = removed_block spot.head spot.snap family

pub same_block : (acts : List Act) (earlier later : FamilyState) → Follows acts earlier later → later.block ≡ earlier.block
same_block [] earlier later is = rw is refl
same_block (act ∷ acts) earlier later follows =
    same_block acts (done act earlier) later follows.1 ∙ done_block act earlier

pub same_files : (key : KeyValue) (earlier later : FamilyState) (from spot : Spot) → later.block ≡ earlier.block
    → HasPlaced earlier later → KeepsLast earlier.log from later.log spot → HasFilesOf key earlier from later spot
same_files key earlier later from spot block placed last = files_go_on key from spot placed.0 earlier later block last placed.1
