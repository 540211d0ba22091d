-- What a line prints of its commands, and behind them.
use Rattle.std.specs.Prelude.{ℕ, Bool, true, false, List, [], ◌∷◌, ◌++◌}
use Rattle.std.specs.Fmt.{decimal}
use Rattle.std.specs.List.{flat_map}
use Rattle.hex.specs.Hex.{encode_lower}
use lib.Chars.{codes}
use Rattle.dataset_tree.specs.declared.tree.Row.{Row}
use Rattle.encryption_roots.specs.declared.command.KeyCmd.{KeyCmd}
use Rattle.encryption_roots.specs.declared.command.KeyCmd.TheVariants as commands
use Rattle.file_dataset.specs.declared.file.FileRow.{FileRow}
use Rattle.file_dataset.specs.declared.reply.FileReply.{FileReply}
use Rattle.file_dataset.specs.declared.reply.FileReply.TheVariants as file_replies
use Rattle.host_state.specs.Hosts.{HostState}
use Rattle.host_state.specs.SpotLines.{snaps_of}
use Rattle.key_machine.specs.Plain.{Plain}
use Rattle.key_machine.specs.Reply.{Reply, Done, Made, Text, Refused, Reaped, Skipped}
use Rattle.shell_run.specs.declared.task.Report.{Report}
use Rattle.shell_run.specs.declared.task.Report.TheVariants as reports
use Rattle.shell_run.specs.Texts.{reply_line, ok_line, text_line, error_text, error_line, set_line, snap_line, counts_lines, key_line, total_line}

-- the dataset that a command is about
abbrev pub name_in : KeyCmd → List ℕ
name_in (commands.Create name opts) = name
name_in (commands.Load name check_only place) = name
name_in (commands.Unload name) = name
name_in (commands.Change name opts load_first) = name
name_in (commands.Inherit name load_first) = name
name_in (commands.Mount name) = name
name_in (commands.Unmount name) = name
name_in (commands.Get name prop) = name
name_in (commands.Clone from name) = name
name_in (commands.Receive name props wrapped block) = name
name_in (commands.Destroy name snaps) = name

abbrev pub is_refusal : Reply → Bool
is_refusal Done = false
is_refusal (Made id) = false
is_refusal (Text text) = false
is_refusal (Refused why) = true
is_refusal (Reaped dataset dropped) = false
is_refusal Skipped = false

-- what a reply to line n prints; datasets are named by the tree
abbrev pub reply_output : ℕ → Plain → Reply → List ℕ
reply_output n p Done = ok_line n
reply_output n p (Made id) = ok_line n
reply_output n p (Text text) = text_line n text
reply_output n p (Refused why) = error_line n p.tree.rows why
reply_output n p (Reaped dataset dropped) = []
reply_output n p Skipped = []

-- what came of a root that a line tries among several
abbrev pub root_outcome : List Row → Reply → List ℕ
root_outcome rows Done = codes "ok"
root_outcome rows (Made id) = codes "ok"
root_outcome rows (Text text) = codes "ok"
root_outcome rows (Refused why) = error_text rows why
root_outcome rows (Reaped dataset dropped) = codes "ok"
root_outcome rows Skipped = codes "ok"

-- what was read, in hexadecimal, or `-` for no bytes
abbrev pub bytes_text : List ℕ → List ℕ
bytes_text [] = codes "-"
bytes_text (byte ∷ bytes) = encode_lower (byte ∷ bytes)

-- a row of `ls`
abbrev pub file_line : ℕ → FileRow → List ℕ
file_line n row = reply_line n (codes "file " ++ row.name ++ 32 ∷ decimal row.length)

-- what the reply to a command about files prints
abbrev pub file_output : ℕ → List Row → FileReply → List ℕ
file_output n rows file_replies.Done = ok_line n
file_output n rows (file_replies.Wrote blocks number) = text_line n (decimal blocks ++ 32 ∷ decimal number)
file_output n rows (file_replies.Bytes bytes) = text_line n (bytes_text bytes)
file_output n rows (file_replies.Names files) = flat_map (file_line n) files ++ ok_line n
file_output n rows (file_replies.Blocks count) = text_line n (decimal count)
file_output n rows (file_replies.Refused why) = error_line n rows why

-- what is printed of a command, once it has this reply and has left this state
abbrev pub reported : ℕ → Plain → Report → KeyCmd → Reply → List ℕ
reported n p reports.Replies command reply = reply_output n p reply
reported n p reports.Roots command reply = key_line n (name_in command) (root_outcome p.tree.rows reply)
reported n p reports.Sets command reply = []
reported n p reports.Counts command reply = []
reported n p (reports.Refused why) command reply = []

-- the rows of `list` for a dataset and behind it its snapshots, from the oldest on
abbrev pub listed : ℕ → HostState → Row → List ℕ
listed n h row = set_line n h.keys row ++ flat_map (snap_line n row.name) (snaps_of h row.id)

-- what is printed behind all commands of a line, of which so many were tried and so many went well
abbrev pub closing : ℕ → HostState → Report → (well tried : ℕ) → List ℕ
closing n h reports.Replies well tried = []
closing n h reports.Roots well tried = total_line n well tried
closing n h reports.Sets well tried = flat_map (listed n h) h.keys.tree.rows ++ ok_line n
closing n h reports.Counts well tried = counts_lines n h.keys ++ ok_line n
closing n h (reports.Refused why) well tried = error_line n h.keys.tree.rows why
