-- The paths of key files.
use Rattle.std.specs.Prelude.{ℕ, Bool, false, ◌&&◌, nat_le, List, [], ◌∷◌, length, if◌then◌else◌}
use Rattle.std.specs.List.{list_all}
use Rattle.std.specs.declared.option.Option.{Option}
use Rattle.std.specs.declared.option.Option.TheVariants.{Some, None}
use Rattle.dataset_tree.specs.SetName.{is_slash}
use Rattle.encryption_roots.specs.Printable.{stands_in_word}

abbrev pub begins_with_slash : List ℕ → Bool
begins_with_slash [] = false
begins_with_slash (b ∷ bs) = is_slash b

-- 1 to 1024 bytes of a word, the first `/`
abbrev pub is_path : List ℕ → Bool
is_path text = nat_le (length text) 1024 && begins_with_slash text && list_all stands_in_word text

-- the path that a text spells, if it is one
abbrev pub path_of : List ℕ → Option (List ℕ)
path_of text = if is_path text then Some text else None
