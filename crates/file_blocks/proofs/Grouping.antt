-- The group of blocks to which a read walked last, over plain variables.
use Rattle.std.proofs.Common.{◌≡◌, ℕ, ◌-◌, ◌/◌, ◌≤◌, ◌==◌, List, true, refl, ap, ◌∙◌, Option, Some, None, Result, Ok, Err}
use Rattle.std.specs.Prelude.{IfSome}
use Rattle.std.specs.Option.{option_eq}
use Rattle.std.proofs.lemmas.Bool.{eqb-true}
use Rattle.std.proofs.lemmas.Option.{IfSome_then}
use Rattle.block_crypt.specs.Blocks.{KeyValue}
use Rattle.shelf_store.specs.ShelfState.{ShelfState}
use Rattle.indirect_macs.specs.declared.refs.BlockRef.{BlockRef}
use Rattle.indirect_macs.specs.declared.refs.ObjTree.{ObjTree}
use Rattle.indirect_macs.specs.declared.refs.MacError.{MacError}
use Rattle.indirect_macs.specs.declared.refs.MacError.TheVariants.{MacFailed, ShelfFault, Full, NoMemory}
use Rattle.indirect_macs.specs.Walk.{group_walk, in_group}
use Rattle.indirect_macs.specs.Calls.{Gave, IsOver}
use Rattle.indirect_macs.proofs.GroupWalks.{walk_in_group}
use Rattle.file_blocks.specs.declared.group.Group.{Group}
use Rattle.file_blocks.specs.Groups.{IsKnown, LeadsToGroup, ref_of}
use Rattle.file_blocks.specs.Objects.{Gives, text_of, text_at, walk_in}
use Rattle.file_blocks.proofs.Readings.{gave_ok, gave_failed}
use Rattle.file_blocks.proofs.Sizes.{walk_size}

-- ---- the group that is known

-- on a shelf that holds the same
pub known_later : (record_size : ℕ) (tree : ObjTree) (group : Group) (s t : Option (List (List ℕ))) → t ≡ s → IsKnown s record_size tree group
    → IsKnown t record_size tree group
known_later record_size tree group s t same known = rw same known

is_number : (number : Option ℕ) (n : ℕ) → option_eq ◌==◌ number (Some n) ≡ true → number ≡ Some n
is_number None n same = absurd (cc)
is_number (Some m) n same = ap Some (eqb-true m n same)

-- the walk to a block of it
pub known_ref : (record_size index : ℕ) (tree : ObjTree) (group : Group) (s : Option (List (List ℕ)))
    → option_eq ◌==◌ group.number (Some (index / 32)) ≡ true → IsKnown s record_size tree group
    → IfSome s (λ held. walk_in held record_size tree index ≡ Ok (ref_of group.refs index))
known_ref record_size index tree group s same known =
    let number = is_number group.number (index / 32) same in
    IfSome_then s (rw number at known) (λ held leads. leads index refl)

-- ---- the walk to a group

pub group_known : (record_size index : ℕ) (tree : ObjTree) (refs : List (Option BlockRef)) (calls : List (List ℕ) → ℕ) (s u : ShelfState)
    → IfSome s.held (λ held. Gave (calls held) (group_walk held record_size index (tree.levels - 1) tree.top) (Ok refs) s u)
    → IfSome s.held (λ held. LeadsToGroup held record_size tree (index / 32) refs)
group_known record_size index tree refs calls s u gave =
    IfSome_then s.held gave (λ held one other same.
    walk_in_group held record_size index (tree.levels - 1) other tree.top same
    ∙ ap (in_group other) (gave_ok (calls held) (group_walk held record_size index (tree.levels - 1) tree.top) refs s u one))

pub group_failed : {X : Type 0} (record_size index : ℕ) (tree : ObjTree) (f : X → Option BlockRef) (stop : MacError) (calls : List (List ℕ) → ℕ)
    (s u : ShelfState) → IsOver tree.levels index stop
    → IfSome s.held (λ held. Gave (calls held) (group_walk held record_size index (tree.levels - 1) tree.top) (Err stop) s u)
    → IfSome s.held (λ held. Gives f (walk_in held record_size tree index) (Err stop))
group_failed record_size index tree f (MacFailed level place) calls s u over gave =
    IfSome_then s.held gave (λ held one.
    walk_in_group held record_size index (tree.levels - 1) index tree.top refl
    ∙ ap (in_group index) (gave_failed (calls held) (group_walk held record_size index (tree.levels - 1) tree.top) level place s u one))
group_failed record_size index tree f ShelfFault calls s u over gave = IfSome_then s.held gave (λ held one. tt)
group_failed record_size index tree f Full calls s u over gave = absurd over
group_failed record_size index tree f NoMemory calls s u over gave = absurd over

-- ---- what a block stores, behind the walk to it

pub text_failed : {X Y : Type 0} (key : KeyValue) (record_size index : ℕ) (tree : ObjTree) (f : X → Option (List ℕ)) (g : Y → Option BlockRef) (stop : MacError)
    (s : Option (List (List ℕ))) → IfSome s (λ held. Gives g (walk_in held record_size tree index) (Err stop))
    → IfSome s (λ held. Gives f (text_at key held record_size tree index) (Err stop))
unfolding text_at
text_failed key record_size index tree f g (MacFailed level place) s fails = IfSome_then s fails (λ held is. rw is refl)
text_failed key record_size index tree f g ShelfFault s fails = fails
text_failed key record_size index tree f g Full s fails = fails
text_failed key record_size index tree f g NoMemory s fails = fails

pub text_hole : (key : KeyValue) (record_size index : ℕ) (tree : ObjTree) (found : Option BlockRef) (s : Option (List (List ℕ))) → found ≡ None
    → IfSome s (λ held. walk_in held record_size tree index ≡ Ok found)
    → IfSome s (λ held. text_at key held record_size tree index ≡ Ok None)
unfolding text_at text_of
text_hole key record_size index tree found s hole told = IfSome_then s told (λ held is. rw (is, hole) refl)

pub text_found : {X : Type 0} (key : KeyValue) (record_size index : ℕ) (tree : ObjTree) (found : Option BlockRef) (r : BlockRef) (f : X → Option (List ℕ))
    (result : Result X MacError) (s t : Option (List (List ℕ))) → t ≡ s → found ≡ Some r
    → IfSome s (λ held. walk_in held record_size tree index ≡ Ok found)
    → (r.size ≤ record_size → IfSome t (λ held. Gives f (text_of key held index (Some r)) result))
    → IfSome s (λ held. Gives f (text_at key held record_size tree index) result)
unfolding text_at
text_found key record_size index tree found r f result s t same there told opened = by_held s told (rw same at opened)
  where
    by_held : (h : Option (List (List ℕ))) → IfSome h (λ held. walk_in held record_size tree index ≡ Ok found)
        → (r.size ≤ record_size → IfSome h (λ held. Gives f (text_of key held index (Some r)) result))
        → IfSome h (λ held. Gives f (text_at key held record_size tree index) result)
    by_held None told opened = tt
    by_held (Some held) told opened =
        let is : walk_in held record_size tree index ≡ Ok (Some r) = told ∙ ap Ok there in
        rw is (opened (walk_size held record_size index (tree.levels - 1) tree.top r is))
