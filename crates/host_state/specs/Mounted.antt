-- What a host has of a dataset that is mounted.
use Rattle.std.specs.Prelude.{◌≡◌, ℕ, Some}
use Rattle.dataset_tree.specs.Tree.{id_named}
use Rattle.family_log.specs.declared.head.Head.{Head}
use Rattle.family_log.specs.Model.{FamilyState, head_of}
use Rattle.file_dataset.specs.declared.command.FileCmd.{FileCmd}
use Rattle.key_ciphers.specs.Ciphers.{value_of}
use Rattle.key_machine.specs.Plain.{Master}
use Rattle.key_store.specs.State.{opened_key}
use Rattle.host_state.specs.FileLines.{file_step, served_by, set_of, with_served}
use Rattle.host_state.specs.Hosts.{HostState}
use Rattle.host_state.specs.SpotLines.{family_id, family_of}

-- a dataset's family is there, and has its head
pub record HasHead (h : HostState) (id : ℕ) : Type 0 where
  pub state : FamilyState
  pub head : Head
  pub of_family : family_of h id ≡ Some state
  pub of_head : head_of id state.heads ≡ Some head

-- the dataset of a command has its head, its family's master key is opened, and the command is what the call on that
-- head is
pub record IsCalled (h : HostState) (command : FileCmd) : Type 0 where
  pub id : ℕ
  pub key : Master
  pub named : id_named (set_of command) h.keys.tree.rows ≡ Some id
  pub has : HasHead h id
  pub opened : opened_key h.keys (family_id h id) ≡ Some key
  pub step : file_step h command
      ≡ with_served h (family_id h id) (served_by (value_of key) id command has.state)
