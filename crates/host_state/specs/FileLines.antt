-- What a command about the files of a dataset does to a host: to the family of the dataset, under its master key.
use Rattle.std.specs.Prelude.{ℕ, ◌+◌, List, length, Option, Some, None, Result, Ok, Err}
use Rattle.dataset_tree.specs.declared.refusal.Refusal.{Refusal}
use Rattle.dataset_tree.specs.declared.refusal.Refusal.TheVariants.{KeyUnavailable, NoSuch}
use Rattle.dataset_tree.specs.Tree.{id_named}
use Rattle.encryption_roots.specs.ById.{at_id, with_id}
use Rattle.encryption_roots.specs.Owners.{family}
use Rattle.wrapped_keys.specs.Values.{MasterValue}
use Rattle.family_log.specs.declared.entry.Spot.{Spot}
use Rattle.family_log.specs.Model.{FamilyState}
use Rattle.file_dataset.specs.declared.command.FileCmd.{FileCmd}
use Rattle.file_dataset.specs.declared.command.FileCmd.TheVariants as commands
use Rattle.file_dataset.specs.declared.reply.FileReply.{FileReply}
use Rattle.file_dataset.specs.declared.reply.FileReply.TheVariants as replies
use Rattle.file_dataset.specs.Calls.{block_key_of, refused_before}
use Rattle.file_dataset.specs.ChangeCalls.{refused_edit}
use Rattle.file_dataset.specs.Reads.{plain_count, plain_names, plain_read}
use Rattle.file_dataset.specs.Steady.{Called, called_cut, called_make, called_read, called_remove, called_write}
use Rattle.key_ciphers.specs.Ciphers.{value_of}
use Rattle.key_machine.specs.Plain.{Master, Plain}
use Rattle.key_machine.specs.Refusals.{first_of}
use Rattle.key_machine.specs.Unmount.{unmount_cases}
use Rattle.key_store.specs.State.{opened_key}
use Rattle.host_state.specs.Hosts.{HostState}

-- ---- the call of a family

-- the dataset that a command is about
abbrev pub set_of : FileCmd → List ℕ
set_of (commands.Touch set file) = set
set_of (commands.Remove set file) = set
set_of (commands.Write set file from bytes) = set
set_of (commands.Read set snap file from len) = set
set_of (commands.Cut set file to) = set
set_of (commands.Names set snap) = set
set_of (commands.Verify set snap) = set

-- what a call of a family leaves of it, and the reply
pub record Served : Type 0 where
  pub family : FamilyState
  pub reply : FileReply

abbrev pub replied : {X : Type 0} → (X → FileReply) → Result X Refusal → FileReply
replied reply (Ok x) = reply x
replied reply (Err why) = replies.Refused why

abbrev pub served : {X : Type 0} → (X → FileReply) → Called X → Served
served reply called = record { family = called.family; reply = replied reply called.answer }

abbrev pub spot_at : (head : ℕ) → Option (List ℕ) → Spot
spot_at head snap = record { head = head; snap = snap }

-- the call that a command makes on the family of its dataset, which is this head
abbrev pub served_by : MasterValue → (head : ℕ) → FileCmd → FamilyState → Served
served_by key head (commands.Touch set file) family =
    served (λ _. replies.Done) (called_make (block_key_of key) key.hmac head file family)
served_by key head (commands.Remove set file) family =
    served (λ _. replies.Done) (called_remove (block_key_of key) key.hmac head file family)
served_by key head (commands.Write set file from bytes) family =
    served (λ wrote. replies.Wrote wrote.blocks wrote.number)
    (called_write (block_key_of key) key.hmac head file from bytes family)
served_by key head (commands.Read set snap file from len) family =
    served (λ bytes. replies.Bytes bytes)
    (called_read (λ held. plain_read (block_key_of key) key.hmac held file from len) (spot_at head snap) family)
served_by key head (commands.Cut set file to) family =
    served (λ _. replies.Done) (called_cut (block_key_of key) key.hmac head file to family)
served_by key head (commands.Names set snap) family =
    served (λ rows. replies.Names rows)
    (called_read (λ held. plain_names (block_key_of key) key.hmac held) (spot_at head snap) family)
served_by key head (commands.Verify set snap) family =
    served (λ count. replies.Blocks count)
    (called_read (λ held. plain_count (block_key_of key) key.hmac held) (spot_at head snap) family)

-- why a command is refused before a block is read: by what the family has, by the command's numbers, or by the portable
-- MAC
abbrev pub refused_first : MasterValue → (head : ℕ) → FileCmd → FamilyState → Result (Unit {0}) Refusal
refused_first key head (commands.Touch set file) family = refused_edit key.hmac 0 head family
refused_first key head (commands.Remove set file) family = refused_edit key.hmac 0 head family
refused_first key head (commands.Write set file from bytes) family =
    refused_edit key.hmac (from + length bytes) head family
refused_first key head (commands.Read set snap file from len) family =
    refused_before key.hmac family (spot_at head snap)
refused_first key head (commands.Cut set file to) family = refused_edit key.hmac to head family
refused_first key head (commands.Names set snap) family = refused_before key.hmac family (spot_at head snap)
refused_first key head (commands.Verify set snap) family = refused_before key.hmac family (spot_at head snap)

-- ---- a host

-- a host after a command about files, and the reply
pub record FileStepped : Type 0 where
  pub state : HostState
  pub reply : FileReply

abbrev pub refused_file : HostState → Refusal → FileStepped
refused_file h why = record { state = h; reply = replies.Refused why }

-- the family at this id is left so
abbrev pub with_served : HostState → (family : ℕ) → Served → FileStepped
with_served h family done =
    record { state = record h { families = with_id family done.family h.families }; reply = done.reply }

-- on the family of this id, under its opened master key: a mounted dataset has both
abbrev pub on_family : HostState → (id family : ℕ) → FileCmd → Option FamilyState → Option Master → FileStepped
on_family h id family command (Some state) (Some key) =
    with_served h family (served_by (value_of key) id command state)
on_family h id family command (Some state) None = refused_file h KeyUnavailable
on_family h id family command None key = refused_file h KeyUnavailable

abbrev pub on_dataset : HostState → FileCmd → (id : ℕ) → FileStepped
on_dataset h command id =
    let of = family h.keys.tree.rows id in
    on_family h id of command (at_id of h.families) (opened_key h.keys of)

-- a command about files is refused before its dataset's family is looked at as an unmount would be: where no dataset
-- has the name, where it is plain, and where it isn't mounted
abbrev pub file_refusal : Plain → (set : List ℕ) → Option Refusal
file_refusal p set = first_of (unmount_cases p set)

abbrev pub unless_unmounted : HostState → FileCmd → Option Refusal → Option ℕ → FileStepped
unless_unmounted h command (Some why) at = refused_file h why
unless_unmounted h command None None = refused_file h NoSuch
unless_unmounted h command None (Some id) = on_dataset h command id

abbrev pub file_step : HostState → FileCmd → FileStepped
file_step h command =
    unless_unmounted h command (file_refusal h.keys (set_of command)) (id_named (set_of command) h.keys.tree.rows)
