-- `get`: what it shows of a dataset.
use Rattle.std.specs.Prelude.{ℕ, Bool, List, [], ◌∷◌, ◌++◌, codes, decimal, is_none, if◌then◌else◌}
use Rattle.std.specs.declared.option.Option.{Option}
use Rattle.std.specs.declared.option.Option.TheVariants.{Some, None}
use Rattle.std.specs.Option.{option_and_then, option_map_or}
use Rattle.dataset_tree.specs.declared.kinds.Format.{Format}
use Rattle.dataset_tree.specs.declared.kinds.Format.TheVariants.{Raw, Hex, Passphrase}
use Rattle.dataset_tree.specs.declared.refusal.Refusal.{Refusal}
use Rattle.dataset_tree.specs.declared.refusal.Refusal.TheVariants.{NoSuch}
use Rattle.dataset_tree.specs.declared.tree.Row.{Row}
use Rattle.dataset_tree.specs.Suite.{suite_name}
use Rattle.dataset_tree.specs.Tree.{row_of, row_named}
use Rattle.encryption_roots.specs.declared.props.Location.{Location}
use Rattle.encryption_roots.specs.declared.props.Location.TheVariants.{Prompt, File}
use Rattle.encryption_roots.specs.declared.props.Prop.{Prop}
use Rattle.encryption_roots.specs.declared.props.Prop.TheVariants as props
use Rattle.encryption_roots.specs.declared.props.Props.{Props}
use Rattle.encryption_roots.specs.ById.{at_id}
use Rattle.encryption_roots.specs.Owners.{family}
use Rattle.key_machine.specs.Create.{suite_of_family}
use Rattle.key_machine.specs.Plain.{Plain, owner_of, has_key_of, is_encrypted_kind}
use Rattle.key_machine.specs.Reply.{Stepped, Text, refused}

-- ---- refusals; nothing is taken

abbrev pub get_cases : Plain → List ℕ → List (Bool × Refusal)
get_cases p name = (is_none (row_named name p.tree.rows), NoSuch) ∷ []

-- ---- the texts

abbrev pub format_text : Format → List ℕ
format_text Raw = codes "raw"
format_text Hex = codes "hex"
format_text Passphrase = codes "passphrase"

abbrev pub place_text : Location → List ℕ
place_text Prompt = codes "prompt"
place_text (File path) = codes "file://" ++ path

abbrev pub status_text : Bool → List ℕ
status_text available = if available then codes "available" else codes "unavailable"

-- no value
abbrev pub none_text : List ℕ
none_text = codes "-"

abbrev pub owner_props : Plain → Option ℕ → Option Props
owner_props p found = option_and_then (λ root. at_id root p.roots) found

-- of an encrypted dataset, whose key's owner is found
abbrev pub crypt_text : Plain → ℕ → Option ℕ → Prop → List ℕ
crypt_text p id found props.KeyStatus = status_text (has_key_of p found)
crypt_text p id found props.Encryption = option_map_or suite_name (suite_of_family p (family p.tree.rows id)) none_text
crypt_text p id found props.EncryptionRoot =
    option_map_or (λ row. row.name) (option_and_then (λ root. row_of root p.tree.rows) found) none_text
crypt_text p id found props.KeyFormat = option_map_or (λ own. format_text own.format) (owner_props p found) none_text
crypt_text p id found props.KeyLocation = option_map_or (λ own. place_text own.place) (owner_props p found) none_text
crypt_text p id found props.Pbkdf2Iters = option_map_or (λ own. decimal own.iters) (owner_props p found) none_text
crypt_text p id found props.RecordSize =
    option_map_or (λ stored. decimal stored.block) (at_id (family p.tree.rows id) p.wrapped) none_text

abbrev pub plain_text : Prop → List ℕ
plain_text props.Encryption = codes "off"
plain_text props.KeyStatus = none_text
plain_text props.EncryptionRoot = none_text
plain_text props.KeyFormat = none_text
plain_text props.KeyLocation = none_text
plain_text props.Pbkdf2Iters = none_text
plain_text props.RecordSize = none_text

abbrev pub row_text : Plain → Option Row → Prop → List ℕ
row_text p None prop = none_text
row_text p (Some row) prop =
    if is_encrypted_kind row.kind then crypt_text p row.id (owner_of p row.id) prop else plain_text prop

abbrev pub property_text : Plain → ℕ → Prop → List ℕ
property_text p id prop = row_text p (row_of id p.tree.rows) prop

-- ---- effect

abbrev pub get_done : Plain → Prop → Option ℕ → Stepped
get_done p prop None = refused p NoSuch
get_done p prop (Some id) = record { state = p; reply = Text (property_text p id prop) }
