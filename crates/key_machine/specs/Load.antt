-- `load-key`: a root's key, where each record that the root owns opens under it.
use Rattle.std.specs.Prelude.{ℕ, Bool, not, false, ◌&&◌, List, [], ◌∷◌, is_some, unwrap_or, if◌then◌else◌, Result, Ok, Err}
use Rattle.std.specs.declared.option.Option.{Option}
use Rattle.std.specs.declared.option.Option.TheVariants.{Some, None}
use Rattle.std.specs.Option.{option_and_then, option_map}
use Rattle.dataset_tree.specs.declared.refusal.Refusal.{Refusal}
use Rattle.dataset_tree.specs.declared.refusal.Refusal.TheVariants.{NoSuch, KeyLoaded, WrongKey}
use Rattle.dataset_tree.specs.Tree.{row_named, id_named}
use Rattle.encryption_roots.specs.declared.kit.LineKit.{LineKit}
use Rattle.encryption_roots.specs.declared.props.Location.{Location}
use Rattle.encryption_roots.specs.declared.props.Location.TheVariants.{Prompt}
use Rattle.encryption_roots.specs.declared.props.Props.{Props}
use Rattle.encryption_roots.specs.ById.{at_id, with_id}
use Rattle.key_machine.specs.Plain.{Plain, Stored, Ciphers, owned}
use Rattle.key_machine.specs.Refusals.{root_cases, is_loaded_row}
use Rattle.key_machine.specs.Reply.{Stepped, Done, refused}
use Rattle.key_machine.specs.Told.{Wanted, Told, nothing_told, fault_told, key_of}

-- ---- refusals

abbrev pub load_cases : Plain → List ℕ → Bool → List (Bool × Refusal)
load_cases p name check_only =
    let row = row_named name p.tree.rows in
    root_cases p row ((is_loaded_row p row && not check_only, KeyLoaded) ∷ [])

-- then the key's, and then that of a record that doesn't open
abbrev pub load_material : Told → List (Option Refusal)
load_material told = told.fault ∷ option_map (λ dataset. WrongKey dataset) told.wrong ∷ []

-- ---- takings

-- the dataset's own key location, where it is a root
abbrev pub own_place : Plain → List ℕ → Option Location
own_place p name =
    option_map (λ props. props.place) (option_and_then (λ id. at_id id p.roots) (id_named name p.tree.rows))

-- the key from the command's location, else from the dataset's own, else at the prompt
abbrev pub load_wanted : Plain → List ℕ → Option Location → Wanted
load_wanted p name place = record {
  old_place = None;
  new_place = Some (unwrap_or place (unwrap_or (own_place p name) Prompt));
  seed = false;
}

-- ---- what they tell

-- the first family whose record doesn't open under the key
abbrev pub first_wrong : Ciphers → List ℕ → List (ℕ × Stored) → Option ℕ
first_wrong c key [] = None
first_wrong c key (entry ∷ entries) =
    if is_some (c.opens entry.1.wrapped key) then first_wrong c key entries else Some entry.0

abbrev pub told_load_with : Ciphers → Plain → ℕ → Result (List ℕ) Refusal → Told
told_load_with c p root (Ok key) =
    record { fault = None; wrong = first_wrong c key (owned p root); key = key; salt = 0; wrapped = [] }
told_load_with c p root (Err why) = fault_told why

abbrev pub told_load_of : Ciphers → Plain → LineKit → ℕ → Option Props → Told
told_load_of c p kit root None = nothing_told
told_load_of c p kit root (Some props) =
    told_load_with c p root (key_of c props.format props.iters props.salt kit.new_key)

abbrev pub told_load : Ciphers → Plain → LineKit → Option ℕ → Told
told_load c p kit None = nothing_told
told_load c p kit (Some root) = told_load_of c p kit root (at_id root p.roots)

-- ---- effect

abbrev pub loaded_key : Plain → ℕ → Bool → Told → Plain
loaded_key p root check_only told = if check_only then p else record p { loaded = with_id root told.key p.loaded }

abbrev pub load_done : Plain → Bool → Told → Option ℕ → Stepped
load_done p check_only told None = refused p NoSuch
load_done p check_only told (Some root) = record { state = loaded_key p root check_only told; reply = Done }
