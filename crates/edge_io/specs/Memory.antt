-- The outside in memory.
use Rattle.std.specs.Prelude.{◌≡◌, ℕ, Bool, List, if◌then◌else◌}
use Rattle.edge_io.specs.Counts.{one_more}

-- an object in memory: the bytes that a source or an entropy has left or a sink has taken, how many calls it has had,
-- the numbers of the calls that fail, from 0, and how many faults it has counted
pub record InMemory : Type 0 where
  pub bytes : List ℕ
  pub calls : ℕ
  pub fails : List ℕ
  pub faults : ℕ

-- one more call, which failed or not
pub record CountsCall (old new : InMemory) (failed : Bool) : Type 0 where
  pub calls : new.calls ≡ one_more old.calls
  pub fails : new.fails ≡ old.fails
  pub faults : new.faults ≡ (if failed then one_more old.faults else old.faults)

-- key files in memory: each with its path, and the calls and faults as above
pub record FilesInMemory : Type 0 where
  pub files : List (List ℕ × List ℕ)
  pub calls : ℕ
  pub fails : List ℕ
  pub faults : ℕ

-- the key files after one more fetch, which failed or not
abbrev pub after_fetch : FilesInMemory → Bool → FilesInMemory
after_fetch old failed = record old {
  calls = one_more old.calls;
  faults = if failed then one_more old.faults else old.faults;
}
