-- The dataset that a command names.
use Rattle.std.proofs.Common.{◌≡◌, ℕ, Bool, true, false, not, List, Option, Some, None, option_map, refl, ap, sym, ◌∙◌, subst}
use Rattle.std.specs.Str.{bytes_eq}
use Rattle.dataset_tree.specs.declared.tree.Row.{Row}
use Rattle.dataset_tree.specs.Tree.{IsTree, row_of, row_named, id_named}
use Rattle.dataset_tree.proofs.TreeLemmas.{found_by_its_id}
use Rattle.key_machine.specs.Plain.{Plain, is_encrypted_row}
use Rattle.key_machine.specs.Sound.{IsEncrypted}
use Rattle.key_machine.proofs.CreateLawsCases.{encrypted_kind}

pub record IsNamed (p : Plain) (name : List ℕ) (id : ℕ) : Type 0 where
  pub row : Row
  pub found : row_named name p.tree.rows ≡ Some row
  pub same : row.id ≡ id

pub named : (p : Plain) (name : List ℕ) (id : ℕ) → id_named name p.tree.rows ≡ Some id → IsNamed p name id
named p name id at = by (row_named name p.tree.rows) refl at where
  by : (found : Option Row) → row_named name p.tree.rows ≡ found → option_map (λ row. row.id) found ≡ Some id → IsNamed p name id
  by None there at = absurd (cc)
  by (Some row) there at = record { row = row; found = there; same = (let own : row.id ≡ id = cc in own) }

pub not_false : (b : Bool) → not b ≡ false → b ≡ true
not_false true h = refl
not_false false h = absurd (cc)

-- what is said of the named row, said of its id
pub row_of_named : (p : Plain) (name : List ℕ) (id : ℕ) (is : IsNamed p name id) → IsTree p.tree → row_of id p.tree.rows ≡ Some is.row
row_of_named p name id is tree =
    subst (λ (m : ℕ). row_of m p.tree.rows ≡ Some is.row) is.same (found_by_its_id p.tree (λ r. bytes_eq r.name name) is.row tree is.found)

pub encrypted_named : (p : Plain) (name : List ℕ) (id : ℕ) → IsTree p.tree → IsNamed p name id → not (is_encrypted_row (row_named name p.tree.rows)) ≡ false → IsEncrypted p id
encrypted_named p name id tree is encrypted =
    let crypt : is_encrypted_row (Some is.row) ≡ true = ap (λ (found : Option Row). is_encrypted_row found) (sym is.found) ∙ not_false (is_encrypted_row (row_named name p.tree.rows)) encrypted in
    (is.row, row_of_named p name id is tree, encrypted_kind is.row.kind crypt)
