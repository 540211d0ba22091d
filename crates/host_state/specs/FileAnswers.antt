-- What the calls that carry out a command about files say of their answers.
use Rattle.std.specs.Prelude.{◌≡◌, ◌<◌, ℕ, true, if◌then◌else◌, List, length, get_or, Option, Some, None, Result, Ok, Err, IfErr, IfOk, is_err, ⊤}
use Rattle.std.specs.List.{AllWithin}
use Rattle.std.specs.declared.alloc.AllocError.{AllocError}
use Rattle.dataset_tree.specs.declared.refusal.Refusal.{Refusal}
use Rattle.dataset_tree.specs.declared.refusal.Refusal.TheVariants.{KeyUnavailable, NoSuch}
use Rattle.dataset_tree.specs.declared.refusal.Stop.{Stop}
use Rattle.dataset_tree.specs.declared.refusal.Stop.TheVariants as stops
use Rattle.dataset_tree.specs.Tree.{id_named}
use Rattle.encryption_roots.specs.ById.{at_id, with_id}
use Rattle.encryption_roots.specs.Owners.{family}
use Rattle.wrapped_keys.specs.Values.{MasterValue}
use Rattle.family_log.specs.declared.entry.HeadChange.{HeadChange}
use Rattle.family_log.specs.declared.entry.LogEntry.TheVariants as entries
use Rattle.family_log.specs.Calls.{IsChangeOf, new_place, with_change, with_entry}
use Rattle.family_log.specs.Model.{FamilyState}
use Rattle.file_dataset.specs.ChangeCalls.{used}
use Rattle.file_dataset.specs.declared.command.FileCmd.{FileCmd}
use Rattle.file_dataset.specs.declared.reply.FileReply.{FileReply}
use Rattle.file_dataset.specs.declared.reply.FileReply.TheVariants as replies
use Rattle.file_dataset.specs.Steady.{IsSteady}
use Rattle.key_ciphers.specs.Ciphers.{value_of}
use Rattle.key_machine.specs.Plain.{Master}
use Rattle.key_store.specs.State.{opened_key}
use Rattle.snap_clone.specs.Ids.{IsUpTo}
use Rattle.host_state.specs.FileLines.{Served, file_refusal, refused_first, served_by, set_of, spot_at}
use Rattle.host_state.specs.Hosts.{HostState, by_id, facts_of_family}

-- the reply to a call's answer; want of memory gives none
abbrev pub Replies : {X : Type 0} → (X → FileReply) → Result X Stop → Result FileReply AllocError → Type 0
Replies reply (Ok x) result = result ≡ Ok (reply x)
Replies reply (Err (stops.Refused why)) result = result ≡ Ok (replies.Refused why)
Replies reply (Err stops.NoMemory) result = is_err result ≡ true

abbrev pub Does : Result FileReply AllocError → FamilyState → Served → Type 0
Does (Ok reply) new done = (done.reply ≡ reply) × (new ≡ done.family)
Does (Err stop) new done = ⊤

-- a command was carried out so on a family, which stays steady, also where memory ran out
pub record IsServed (result : Result FileReply AllocError) (new : FamilyState) (done : Served) : Type 0 where
  pub steady : IsSteady new
  pub does : Does result new done

-- ---- what every answer leaves

-- this head alone has another table, and the log tells it
abbrev pub HasChanged : (head : ℕ) → (earlier later : FamilyState) → Type 0
HasChanged head earlier later =
    (change : HeadChange) × IsChangeOf earlier head change × (later ≡ with_change head change earlier)

-- the head or a snapshot of it was read, which the log tells
abbrev pub HasRead : (head : ℕ) → (earlier later : FamilyState) → Type 0
HasRead head earlier later =
    (snap : Option (List ℕ)) × (later ≡ with_entry (entries.Read (spot_at head snap)) earlier)

-- a command was refused, which the log tells where the head is there and the log has room
abbrev pub HasRefused : (head : ℕ) → Refusal → (earlier later : FamilyState) → Type 0
HasRefused head why earlier later =
    (snap : Option (List ℕ)) × (draws : ℕ) × (puts : ℕ)
    × (later ≡ (if is_err (new_place earlier head) then earlier
    else with_entry (entries.Refused (spot_at head snap) why draws puts) earlier))

-- what the answer says was done to a family: a change of this head, or no more than an entry of the log; where memory
-- was wanting, nothing
abbrev pub HasDone : Result FileReply AllocError → (head : ℕ) → (earlier later : FamilyState) → Type 0
HasDone (Ok replies.Done) head earlier later = HasChanged head earlier later
HasDone (Ok (replies.Wrote blocks number)) head earlier later = HasChanged head earlier later
HasDone (Ok (replies.Bytes bytes)) head earlier later = HasRead head earlier later
HasDone (Ok (replies.Names rows)) head earlier later = HasRead head earlier later
HasDone (Ok (replies.Blocks count)) head earlier later = HasRead head earlier later
HasDone (Ok (replies.Refused why)) head earlier later = HasRefused head why earlier later
HasDone (Err stop) head earlier later = later ≡ earlier

-- What a command leaves of a family: behind calls of its shelf, draws and blocks that it used, what its answer says. It
-- used none where it is refused before a block is read. Guid and record size stay, no head and no entry is above what
-- none was above before, and a steady family is served so.
pub record Serves (result : Result FileReply AllocError) (old new : FamilyState) (head : ℕ)
    (before : Result (Unit {0}) Refusal) (done : Served) : Type 0 where
  pub calls : ℕ
  pub put : List (List ℕ)
  pub draws : ℕ
  pub left : HasDone result head (used calls put draws old) new
  pub refused : IfErr before (λ why. IfOk result (λ reply. reply ≡ replies.Refused why)
      × HasDone result head old new)
  pub facts : facts_of_family new ≡ facts_of_family old
  pub up_to : (last : ℕ) → IsUpTo last old → IsUpTo last new
  pub served : IsSteady old → IsServed result new done

-- the place of the entry with this id, if there is one
abbrev pub IsPlaceOf : {X : Type 0} → (id : ℕ) → List (ℕ × X) → Option ℕ → Type 0
IsPlaceOf {X = X} id entries None = at_id id entries ≡ None
IsPlaceOf {X = X} id entries (Some at) =
    (at < length entries) × AllWithin (λ entry. entry.0 < id) entries 0 at × ((d : ℕ × X) → (get_or entries at d).0 ≡ id)

-- of the families the one at this id is served so, and the guids and the record sizes of all stay
pub record ServesOne (result : Result FileReply AllocError) (old new : List (ℕ × FamilyState)) (of head : ℕ)
    (key : MasterValue) (command : FileCmd) (state : FamilyState) : Type 0 where
  pub left : FamilyState
  pub put : new ≡ with_id of left old
  pub kept : by_id facts_of_family new ≡ by_id facts_of_family old
  pub serves : Serves result state left head (refused_first key head command state) (served_by key head command state)

-- without a family of this id nothing changes
abbrev pub ServesAt : Result FileReply AllocError → (old new : List (ℕ × FamilyState)) → (of head : ℕ) → MasterValue
    → FileCmd → Option FamilyState → Type 0
ServesAt result old new of head key command None = (result ≡ Ok (replies.Refused KeyUnavailable)) × (new ≡ old)
ServesAt result old new of head key command (Some state) = ServesOne result old new of head key command state

-- under the master key of the family, which is opened where the dataset is mounted
abbrev pub ServesUnder : Result FileReply AllocError → (old new : List (ℕ × FamilyState)) → (of head : ℕ) → FileCmd
    → Option Master → Type 0
ServesUnder result old new of head command None = (result ≡ Ok (replies.Refused KeyUnavailable)) × (new ≡ old)
ServesUnder result old new of head command (Some key) =
    ServesAt result old new of head (value_of key) command (at_id of old)

-- on the family of this dataset, unless the command is refused before that, and then nothing changes
abbrev pub ServesUnless : Result FileReply AllocError → (old new : HostState) → FileCmd → Option Refusal → Option ℕ
    → Type 0
ServesUnless result old new command (Some why) at = (result ≡ Ok (replies.Refused why)) × (new ≡ old)
ServesUnless result old new command None None = (result ≡ Ok (replies.Refused NoSuch)) × (new ≡ old)
ServesUnless result old new command None (Some id) =
    let of = family old.keys.tree.rows id in
    ServesUnder result old.families new.families of id command (opened_key old.keys of)

-- what every answer to a command about files leaves of the families, whatever their shelves tell
abbrev pub ServesFiles : Result FileReply AllocError → (old new : HostState) → FileCmd → Type 0
ServesFiles result old new command =
    ServesUnless result old new command (file_refusal old.keys (set_of command))
    (id_named (set_of command) old.keys.tree.rows)
