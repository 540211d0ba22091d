-- A family that is worked out by hand: head 1 with the snapshots `a` and `b`, and head 3, which was cloned from `a`.
use Rattle.std.specs.Prelude.{ℕ, List, [], ◌∷◌, replicate, true}
use Rattle.family_log.specs.Log.{snap_spot}
use Rattle.family_log.specs.Model.{FamilyState, fresh_family}
use Rattle.family_log.specs.Snapshots.{clone_added, snapshot_added}

abbrev pub a_name : List ℕ
a_name = 97 ∷ []

abbrev pub b_name : List ℕ
b_name = 98 ∷ []

abbrev pub c_name : List ℕ
c_name = 99 ∷ []

-- of its five entries the log has four
abbrev pub sample : FamilyState
sample =
    clone_added (snap_spot 1 a_name) 3
    (snapshot_added 1 b_name 9
    (snapshot_added 1 a_name 8
    (fresh_family true 7 512 (record { seed = replicate 32 0; limit = 2; made = 0 }) 5 1 (replicate 32 9))))

-- the same family, whose log has as many entries as it may
abbrev pub full : FamilyState
full = record sample { room = 4 }
