-- The commands of the language, each with its forms.
use Rattle.std.specs.Prelude.{ℕ, List, [], ◌∷◌, if◌then◌else◌}
use Rattle.std.specs.declared.option.Option.TheVariants.{Some, None}
use lib.Chars.{codes}
use Rattle.shell_lines.specs.declared.line.Line.{Line}
use Rattle.shell_lines.specs.declared.line.Line.TheVariants.{Create, LoadKey, LoadBelow, LoadAll, UnloadKey, UnloadBelow, UnloadAll, ChangeKey, InheritKey, Mount, Unmount, Get, Touch, Remove, Write, Read, Truncate, Files, Verify, Snapshot, Clone, Destroy, List as ListSets, Counts}
use Rattle.shell_lines.specs.declared.setting.OptionKind.TheVariants.{Encryption, KeyFormat, KeyLocation, Iterations, RecordSize, CheckOnly, LoadFrom, Recursive, AllRoots, LoadFirst, Inherit}
use Rattle.shell_lines.specs.Settings.{options_with, load_place}
use Rattle.shell_lines.specs.Reading.{a_name, a_property, the_word, a_number, some_bytes, is_set}
use Rattle.shell_lines.specs.Forms.{Form, end_as, word_then, options_then, Command}

abbrev pub create_form : Form
create_form =
    options_then (Encryption ∷ KeyFormat ∷ KeyLocation ∷ Iterations ∷ RecordSize ∷ []) (λ settings.
    word_then a_name (λ name. end_as (Some (Create name (options_with settings)))))

-- `create`, options, NAME
abbrev pub create : Command
create = record { word = codes "create"; options = codes "-o" ∷ []; forms = create_form ∷ [] }

-- NAME, of which this line is made
abbrev pub only_name : (List ℕ → Line) → Form
only_name line = word_then a_name (λ name. end_as (Some (line name)))

abbrev pub load_form : Form
load_form =
    options_then (CheckOnly ∷ LoadFrom ∷ []) (λ settings.
    word_then a_name (λ name.
    end_as (Some (LoadKey name (is_set settings CheckOnly) (load_place settings)))))

abbrev pub load_below_form : Form
load_below_form =
    options_then (CheckOnly ∷ Recursive ∷ []) (λ settings.
    word_then a_name (λ name.
    end_as (if is_set settings Recursive then Some (LoadBelow name (is_set settings CheckOnly)) else None)))

abbrev pub load_all_form : Form
load_all_form =
    options_then (CheckOnly ∷ AllRoots ∷ []) (λ settings.
    end_as (if is_set settings AllRoots then Some (LoadAll (is_set settings CheckOnly)) else None))

-- `load-key`, `-n` and `-L LOC` or one of them or none, NAME; or `-r`, `-n` or not, NAME; or `-a`, `-n` or not
abbrev pub load_key : Command
load_key = record {
  word = codes "load-key";
  options = codes "-n" ∷ codes "-L" ∷ codes "-r" ∷ codes "-a" ∷ [];
  forms = load_form ∷ load_below_form ∷ load_all_form ∷ [];
}

abbrev pub unload_form : Form
unload_form = only_name (λ name. UnloadKey name)

abbrev pub unload_below_form : Form
unload_below_form = word_then (the_word (codes "-r")) (λ _. only_name (λ name. UnloadBelow name))

abbrev pub unload_all_form : Form
unload_all_form = word_then (the_word (codes "-a")) (λ _. end_as (Some UnloadAll))

-- `unload-key NAME`, `unload-key -r NAME` or `unload-key -a`
abbrev pub unload_key : Command
unload_key = record {
  word = codes "unload-key";
  options = codes "-r" ∷ codes "-a" ∷ [];
  forms = unload_form ∷ unload_below_form ∷ unload_all_form ∷ [];
}

abbrev pub change_form : Form
change_form =
    options_then (LoadFirst ∷ KeyFormat ∷ KeyLocation ∷ Iterations ∷ []) (λ settings.
    word_then a_name (λ name.
    end_as (Some (ChangeKey name (options_with settings) (is_set settings LoadFirst)))))

abbrev pub inherit_form : Form
inherit_form =
    options_then (LoadFirst ∷ Inherit ∷ []) (λ settings.
    word_then a_name (λ name.
    end_as (if is_set settings Inherit then Some (InheritKey name (is_set settings LoadFirst)) else None)))

-- `change-key`, `-l` or none, options, NAME; or `-i` with `-l` or without, NAME
abbrev pub change_key : Command
change_key = record {
  word = codes "change-key";
  options = codes "-o" ∷ codes "-l" ∷ codes "-i" ∷ [];
  forms = change_form ∷ inherit_form ∷ [];
}

abbrev pub mount_form : Form
mount_form = only_name (λ name. Mount name)

-- `mount NAME`
abbrev pub mount : Command
mount = record { word = codes "mount"; options = []; forms = mount_form ∷ [] }

abbrev pub unmount_form : Form
unmount_form = only_name (λ name. Unmount name)

-- `unmount NAME`
abbrev pub unmount : Command
unmount = record { word = codes "unmount"; options = []; forms = unmount_form ∷ [] }

abbrev pub get_form : Form
get_form = word_then a_property (λ prop. only_name (λ name. Get prop name))

-- `get PROP NAME`
abbrev pub get : Command
get = record { word = codes "get"; options = []; forms = get_form ∷ [] }

-- the greatest number of 10 digits, and the most bytes that a line reads
abbrev pub greatest_number : ℕ
greatest_number = 9999999999

abbrev pub longest_read : ℕ
longest_read = 16384

-- two names, as NAME and FILE, of which this line is made
abbrev pub two_names : (List ℕ → List ℕ → Line) → Form
two_names line = word_then a_name (λ first. word_then a_name (λ second. end_as (Some (line first second))))

abbrev pub touch_form : Form
touch_form = two_names (λ name file. Touch name file)

-- `touch NAME FILE`
abbrev pub touch : Command
touch = record { word = codes "touch"; options = []; forms = touch_form ∷ [] }

abbrev pub remove_form : Form
remove_form = two_names (λ name file. Remove name file)

-- `rm NAME FILE`
abbrev pub remove : Command
remove = record { word = codes "rm"; options = []; forms = remove_form ∷ [] }

abbrev pub write_form : Form
write_form =
    word_then a_name (λ name. word_then a_name (λ file.
    word_then (a_number greatest_number) (λ from. word_then some_bytes (λ bytes.
    end_as (Some (Write name file from bytes))))))

-- `write NAME FILE NUM HEX`
abbrev pub write : Command
write = record { word = codes "write"; options = []; forms = write_form ∷ [] }

abbrev pub read_form : Form
read_form =
    word_then a_name (λ spot. word_then a_name (λ file.
    word_then (a_number greatest_number) (λ from. word_then (a_number longest_read) (λ len.
    end_as (Some (Read spot file from len))))))

-- `read SPOT FILE NUM NUM`
abbrev pub read : Command
read = record { word = codes "read"; options = []; forms = read_form ∷ [] }

abbrev pub truncate_form : Form
truncate_form =
    word_then a_name (λ name. word_then a_name (λ file.
    word_then (a_number greatest_number) (λ to. end_as (Some (Truncate name file to)))))

-- `truncate NAME FILE NUM`
abbrev pub truncate : Command
truncate = record { word = codes "truncate"; options = []; forms = truncate_form ∷ [] }

abbrev pub files_form : Form
files_form = only_name (λ spot. Files spot)

-- `ls SPOT`
abbrev pub files : Command
files = record { word = codes "ls"; options = []; forms = files_form ∷ [] }

abbrev pub verify_form : Form
verify_form = only_name (λ spot. Verify spot)

-- `verify SPOT`
abbrev pub verify : Command
verify = record { word = codes "verify"; options = []; forms = verify_form ∷ [] }

abbrev pub snapshot_form : Form
snapshot_form = only_name (λ name. Snapshot name)

-- `snapshot SNAPNAME`
abbrev pub snapshot : Command
snapshot = record { word = codes "snapshot"; options = []; forms = snapshot_form ∷ [] }

abbrev pub clone_form : Form
clone_form = two_names (λ from name. Clone from name)

-- `clone SNAPNAME NAME`
abbrev pub clone : Command
clone = record { word = codes "clone"; options = []; forms = clone_form ∷ [] }

abbrev pub destroy_form : Form
destroy_form = only_name (λ spot. Destroy spot)

-- `destroy SPOT`
abbrev pub destroy : Command
destroy = record { word = codes "destroy"; options = []; forms = destroy_form ∷ [] }

-- `list`
abbrev pub list : Command
list = record { word = codes "list"; options = []; forms = end_as (Some ListSets) ∷ [] }

-- `counts`
abbrev pub counts : Command
counts = record { word = codes "counts"; options = []; forms = end_as (Some Counts) ∷ [] }

-- the commands on snapshots, and those without words
abbrev pub snapshot_commands : List Command
snapshot_commands = snapshot ∷ clone ∷ destroy ∷ list ∷ counts ∷ []

-- the commands on files, and those behind them
abbrev pub file_commands : List Command
file_commands = touch ∷ remove ∷ write ∷ read ∷ truncate ∷ files ∷ verify ∷ snapshot_commands

abbrev pub commands : List Command
commands = create ∷ load_key ∷ unload_key ∷ change_key ∷ mount ∷ unmount ∷ get ∷ file_commands
