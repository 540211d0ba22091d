-- A fresh family, and a change that leaves the directory of its head empty.
use Rattle.std.proofs.Common.{◌≡◌, ℕ, ◌≤◌, Bool, true, false, List, [], ◌∷◌, Some, None, refl, arith, lit≤}
use Rattle.std.specs.Prelude.{◌==◌}
use Rattle.std.proofs.Math.Nat.{zero-div, zero-mod}
use Rattle.std.proofs.lemmas.List.Elements.{All-cons}
use Rattle.family_log.specs.declared.table.TableRow.{TableRow}
use Rattle.family_log.specs.declared.entry.RefAt.{RefAt}
use Rattle.family_log.specs.declared.entry.HeadChange.{HeadChange}
use Rattle.family_log.specs.declared.entry.LogEntry.TheVariants.{Make, Write}
use Rattle.salt_rotation.specs.SaltState.{SaltState}
use Rattle.family_log.specs.Tables.{IsRecordSize, IsRow, IsTable, blocks_of, fresh_table, length_in}
use Rattle.family_log.specs.Log.{head_spot, last_length, newest}
use Rattle.family_log.specs.Model.{FamilyState, IsFamily, IsHead, fresh_family}
use Rattle.family_log.specs.Calls.{IsChangeOf}
use Rattle.family_log.proofs.HonestLemmas.{fresh_lengths}

by_space : {P : Type 0} (b : Bool) → (b ≡ true → P) → (b ≡ false → P) → P
by_space true yes_case no_case = yes_case refl
by_space false yes_case no_case = no_case refl

fresh_row : TableRow
fresh_row = record { object = 1; length = 0; tree = record { levels = 1; top = None } }

no_blocks : (record_size : ℕ) → blocks_of record_size 0 ≡ 0
no_blocks record_size = rw (zero-div record_size, zero-mod record_size) refl

fresh_row-is_row : (record_size : ℕ) → IsRow record_size fresh_row
unfolding fresh_row
fresh_row-is_row record_size = record {
  object = lit≤ tt;
  bytes = lit≤ tt;
  levels = record {
    positive = lit≤ tt;
    enough = omega (arith, no_blocks record_size);
    least = λ fewer above below. absurd (omega arith);
  };
}

fresh_table-is_table : (record_size : ℕ) (portable : List ℕ) → IsTable record_size (fresh_table record_size portable)
unfolding fresh_row
fresh_table-is_table record_size portable = record {
  block = refl;
  count = lit≤ tt;
  first = refl;
  rising = λ i j d before within. absurd (omega arith);
  rows = All-cons (IsRow record_size) fresh_row [] (fresh_row-is_row record_size) (λ k d within. absurd (omega arith));
}

fresh_head-is_head : (record_size id : ℕ) (portable : List ℕ)
    → IsHead record_size (record { id = id; table = fresh_table record_size portable; parts = []; tables = [] })
fresh_head-is_head record_size id portable = record {
  table = fresh_table-is_table record_size portable;
  no_guid = refl;
  snapshots = λ k d within. absurd (omega arith);
  paired = refl;
  apart = λ i j d before within. absurd (omega arith);
}

-- a fresh family has what the type keeps
pub fresh-is_family : (tells : Bool) (guid block : ℕ) (salts : SaltState) (room head : ℕ) (portable : List ℕ) → IsRecordSize block → 1 ≤ room
    → room ≤ 1048576 → IsFamily (fresh_family tells guid block salts room head portable)
fresh-is_family tells guid block salts room head portable sizes least most = record {
  record_size = sizes;
  room_least = least;
  room_most = most;
  in_room = least;
  tables = All-cons (IsHead block) (record { id = head; table = fresh_table block portable; parts = []; tables = [] }) []
      (fresh_head-is_head block head portable) (λ k d within. absurd (omega arith));
  apart = λ i j d before within. absurd (omega arith);
  few_snapshots = lit≤ tt;
  lengths = fresh_lengths head block portable;
}

written_length : (refs : List RefAt) (portable : List ℕ) (object : ℕ)
    → length_in (fresh_table 512 portable) object
    ≡ last_length (Make 1 (record { object = 1; length = Some 0 } ∷ []) [] ∷ Write 1 [] refs ∷ []) (head_spot 1) object
unfolding newest
written_length refs portable object = by_space (1 == object) (λ first. rw first refl) (λ other. rw other refl)

pub fresh_change : (family : FamilyState) (refs : List RefAt) (portable : List ℕ) (change : HeadChange) → family.block ≡ 512
    → family.log ≡ Make 1 (record { object = 1; length = Some 0 } ∷ []) [] ∷ [] → change.table ≡ fresh_table 512 portable
    → change.entry ≡ Write 1 [] refs → IsChangeOf family 1 change
fresh_change family refs portable change block log table entry = record {
  of_head = rw entry refl;
  table = rw (block, table) (fresh_table-is_table 512 portable);
  lengths = λ object. rw (table, log, entry) (written_length refs portable object);
}
