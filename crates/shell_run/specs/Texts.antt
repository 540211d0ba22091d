-- The lines that the shell prints.
use Rattle.std.specs.Prelude.{ℕ, Bool, List, [], ◌∷◌, ◌++◌, if◌then◌else◌}
use Rattle.std.specs.declared.option.Option.{Option}
use Rattle.std.specs.declared.option.Option.TheVariants.{Some, None}
use Rattle.std.specs.Fmt.{decimal}
use Rattle.std.specs.List.{flat_map}
use Rattle.hex.specs.Hex.{encode_lower}
use lib.Chars.{codes}
use Rattle.dataset_tree.specs.declared.refusal.MaterialFault.{MaterialFault}
use Rattle.dataset_tree.specs.declared.refusal.MaterialFault.TheVariants.{Short, Long, Hex}
use Rattle.dataset_tree.specs.declared.refusal.Refusal.{Refusal}
use Rattle.dataset_tree.specs.declared.refusal.Refusal.TheVariants as refusals
use Rattle.dataset_tree.specs.declared.kinds.Kind.{Kind}
use Rattle.dataset_tree.specs.declared.kinds.Kind.TheVariants.{Plain as PlainKind, Crypt}
use Rattle.dataset_tree.specs.declared.tree.Row.{Row}
use Rattle.encryption_roots.specs.declared.props.Prop.TheVariants.{Encryption}
use Rattle.key_machine.specs.Counts.{Counted, counts}
use Rattle.key_machine.specs.Plain.{Plain, is_root, has_key}
use Rattle.key_machine.specs.Get.{property_text, status_text}
use Rattle.dataset_tree.specs.Refusal.{number_of, name_of}
use Rattle.dataset_tree.specs.SnapName.{at_sign}
use Rattle.dataset_tree.specs.Tree.{row_of}

-- a line of output that answers line n of the script
abbrev pub reply_line : ℕ → List ℕ → List ℕ
reply_line n text = decimal n ++ 32 ∷ text ++ 10 ∷ []

abbrev pub ok_line : ℕ → List ℕ
ok_line n = reply_line n (codes "ok")

-- a dataset by its name, or by its id where the tree lacks it
abbrev pub name_or_id : ℕ → Option Row → List ℕ
name_or_id id None = decimal id
name_or_id id (Some row) = row.name

abbrev pub dataset_text : List Row → ℕ → List ℕ
dataset_text rows id = name_or_id id (row_of id rows)

abbrev pub material_text : MaterialFault → List (List ℕ)
material_text Short = codes "short" ∷ []
material_text Long = codes "long" ∷ []
material_text (Hex at) = codes "hex" ∷ decimal at ∷ []

-- the fields behind a refusal's name
abbrev pub fields_of : List Row → Refusal → List (List ℕ)
fields_of rows refusals.NoSuch = []
fields_of rows refusals.Exists = []
fields_of rows (refusals.BadName at) = decimal at ∷ []
fields_of rows refusals.NoParent = []
fields_of rows refusals.KeyUnavailable = []
fields_of rows refusals.KeyLoaded = []
fields_of rows refusals.NotRoot = []
fields_of rows refusals.NotEncrypted = []
fields_of rows (refusals.WrongKey dataset) = dataset_text rows dataset ∷ []
fields_of rows (refusals.BadMaterial fault) = material_text fault
fields_of rows refusals.KeyFileMissing = []
fields_of rows refusals.KeyFault = []
fields_of rows refusals.EntropyFault = []
fields_of rows (refusals.Busy dataset count) = dataset_text rows dataset ∷ decimal count ∷ []
fields_of rows refusals.NoEncryptedParent = []
fields_of rows refusals.IsClone = []
fields_of rows refusals.HasChildren = []
fields_of rows refusals.HasClones = []
fields_of rows refusals.Mounted = []
fields_of rows refusals.NotMounted = []
fields_of rows refusals.NoFile = []
fields_of rows refusals.FileExists = []
fields_of rows (refusals.TooBig limit) = decimal limit ∷ []
fields_of rows (refusals.MacFailed object level index) = decimal object ∷ decimal level ∷ decimal index ∷ []
fields_of rows refusals.ShelfFault = []
fields_of rows refusals.NoSnapshot = []
fields_of rows (refusals.Full limit) = decimal limit ∷ []
fields_of rows (refusals.NotStream at) = decimal at ∷ []
fields_of rows (refusals.Damaged computed found) = encode_lower computed ∷ encode_lower found ∷ []
fields_of rows (refusals.BadTop object claimed built) = decimal object ∷ encode_lower claimed ∷ encode_lower built ∷ []
fields_of rows refusals.NoStream = []
fields_of rows refusals.StreamFault = []
fields_of rows (refusals.Unmapped found wanted) = decimal found ∷ decimal wanted ∷ []
fields_of rows (refusals.NoHead head) = dataset_text rows head ∷ []
fields_of rows refusals.BadIters = []
fields_of rows (refusals.KeyDiffers held family) = decimal held ∷ decimal family ∷ []
fields_of rows refusals.BadOptions = []
fields_of rows (refusals.BadDirectory at) = decimal at ∷ []

-- each field with a space in front
abbrev pub spaced : List (List ℕ) → List ℕ
spaced fields = flat_map (λ field. 32 ∷ field) fields

abbrev pub error_text : List Row → Refusal → List ℕ
error_text rows why = codes "error " ++ decimal (number_of why) ++ spaced (name_of why ∷ fields_of rows why)

abbrev pub error_line : ℕ → List Row → Refusal → List ℕ
error_line n rows why = reply_line n (error_text rows why)

abbrev pub text_line : ℕ → List ℕ → List ℕ
text_line n text = reply_line n (codes "ok " ++ text)

-- how `list` shows a dataset behind its name: an encrypted one by its suite, whether it is a root, and
-- whether its key is loaded
abbrev pub heir_text : Bool → List ℕ
heir_text is_own = if is_own then codes "root" else codes "inherit"

abbrev pub kind_text : Plain → ℕ → Kind → List ℕ
kind_text p id PlainKind = codes " plain"
kind_text p id Crypt =
    spaced (property_text p id Encryption ∷ heir_text (is_root p id) ∷ status_text (has_key p id) ∷ [])

-- the row of `list` for a dataset
abbrev pub set_line : ℕ → Plain → Row → List ℕ
set_line n p row = reply_line n (codes "set " ++ row.name ++ kind_text p row.id row.kind)

-- the row of `list` for a snapshot of a dataset
abbrev pub snap_line : ℕ → (set part : List ℕ) → List ℕ
snap_line n set part = reply_line n (codes "snap " ++ set ++ at_sign ∷ part)

-- how many use each loaded wrapping key and each opened master key, and how many a mapping, with its generation
abbrev pub count_line : ℕ → (kind : List ℕ) → List Row → ℕ × ℕ → List ℕ
count_line n kind rows entry = reply_line n (kind ++ spaced (dataset_text rows entry.0 ∷ decimal entry.1 ∷ []))

abbrev pub map_line : ℕ → List Row → ℕ × ℕ × ℕ → List ℕ
map_line n rows entry =
    reply_line n (codes "map" ++ spaced (dataset_text rows entry.0 ∷ decimal entry.1 ∷ decimal entry.2 ∷ []))

abbrev pub counted_lines : ℕ → List Row → Counted → List ℕ
counted_lines n rows counted =
    flat_map (count_line n (codes "wkey") rows) counted.wkeys
    ++ flat_map (count_line n (codes "mkey") rows) counted.mkeys
    ++ flat_map (map_line n rows) counted.maps

abbrev pub counts_lines : ℕ → Plain → List ℕ
counts_lines n p = counted_lines n p.tree.rows (counts p)

-- `N key NAME` and what came of the root of this name, which a line tries among several
abbrev pub key_line : ℕ → (name outcome : List ℕ) → List ℕ
key_line n name outcome = reply_line n (codes "key " ++ name ++ 32 ∷ outcome)

-- so many roots went well of so many that were tried
abbrev pub total_line : ℕ → (well tried : ℕ) → List ℕ
total_line n well tried = text_line n (decimal well ++ 47 ∷ decimal tried)

abbrev pub bad_line : ℕ → ℕ → List ℕ
bad_line n at = reply_line n (codes "bad " ++ decimal at)

abbrev pub usage_line : List ℕ
usage_line = codes "usage: zfs_shell [--max-salt-uses N] [--generate N]\n"

abbrev pub read_fault_line : List ℕ
read_fault_line = codes "read fault\n"

abbrev pub no_memory_line : List ℕ
no_memory_line = codes "no memory\n"
