-- The refusals of commands: number and name of each, and how a call tells one.
use Rattle.std.specs.Prelude.{◌≡◌, ℕ, List, Result, Ok, Err}
use lib.Chars.{codes}
use Rattle.dataset_tree.specs.declared.refusal.Refusal.{Refusal}
use Rattle.dataset_tree.specs.declared.refusal.Refusal.TheVariants as refusals
use Rattle.dataset_tree.specs.declared.refusal.Stop.{Stop}
use Rattle.dataset_tree.specs.declared.refusal.Stop.TheVariants as stops

-- the number by which a reply names it
abbrev pub number_of : Refusal → ℕ
number_of refusals.NoSuch = 1
number_of refusals.Exists = 2
number_of (refusals.BadName _) = 3
number_of refusals.NoParent = 4
number_of refusals.KeyUnavailable = 5
number_of refusals.KeyLoaded = 6
number_of refusals.NotRoot = 7
number_of refusals.NotEncrypted = 8
number_of (refusals.WrongKey _) = 9
number_of (refusals.BadMaterial _) = 10
number_of refusals.KeyFileMissing = 11
number_of refusals.KeyFault = 12
number_of refusals.EntropyFault = 13
number_of (refusals.Busy _ _) = 14
number_of refusals.NoEncryptedParent = 15
number_of refusals.IsClone = 16
number_of refusals.HasChildren = 17
number_of refusals.HasClones = 18
number_of refusals.Mounted = 19
number_of refusals.NotMounted = 20
number_of refusals.NoFile = 21
number_of refusals.FileExists = 22
number_of (refusals.TooBig _) = 23
number_of (refusals.MacFailed _ _ _) = 24
number_of refusals.ShelfFault = 25
number_of refusals.NoSnapshot = 26
number_of (refusals.Full _) = 27
number_of (refusals.NotStream _) = 28
number_of (refusals.Damaged _ _) = 29
number_of (refusals.BadTop _ _ _) = 30
number_of refusals.NoStream = 31
number_of refusals.StreamFault = 32
number_of (refusals.Unmapped _ _) = 33
number_of (refusals.NoHead _) = 34
number_of refusals.BadIters = 35
number_of (refusals.KeyDiffers _ _) = 36
number_of refusals.BadOptions = 37
number_of (refusals.BadDirectory _) = 38

-- the name that stands behind the number
abbrev pub name_of : Refusal → List ℕ
name_of refusals.NoSuch = codes "NoSuch"
name_of refusals.Exists = codes "Exists"
name_of (refusals.BadName _) = codes "BadName"
name_of refusals.NoParent = codes "NoParent"
name_of refusals.KeyUnavailable = codes "KeyUnavailable"
name_of refusals.KeyLoaded = codes "KeyLoaded"
name_of refusals.NotRoot = codes "NotRoot"
name_of refusals.NotEncrypted = codes "NotEncrypted"
name_of (refusals.WrongKey _) = codes "WrongKey"
name_of (refusals.BadMaterial _) = codes "BadMaterial"
name_of refusals.KeyFileMissing = codes "KeyFileMissing"
name_of refusals.KeyFault = codes "KeyFault"
name_of refusals.EntropyFault = codes "EntropyFault"
name_of (refusals.Busy _ _) = codes "Busy"
name_of refusals.NoEncryptedParent = codes "NoEncryptedParent"
name_of refusals.IsClone = codes "IsClone"
name_of refusals.HasChildren = codes "HasChildren"
name_of refusals.HasClones = codes "HasClones"
name_of refusals.Mounted = codes "Mounted"
name_of refusals.NotMounted = codes "NotMounted"
name_of refusals.NoFile = codes "NoFile"
name_of refusals.FileExists = codes "FileExists"
name_of (refusals.TooBig _) = codes "TooBig"
name_of (refusals.MacFailed _ _ _) = codes "MacFailed"
name_of refusals.ShelfFault = codes "ShelfFault"
name_of refusals.NoSnapshot = codes "NoSnapshot"
name_of (refusals.Full _) = codes "Full"
name_of (refusals.NotStream _) = codes "NotStream"
name_of (refusals.Damaged _ _) = codes "Damaged"
name_of (refusals.BadTop _ _ _) = codes "BadTop"
name_of refusals.NoStream = codes "NoStream"
name_of refusals.StreamFault = codes "StreamFault"
name_of (refusals.Unmapped _ _) = codes "Unmapped"
name_of (refusals.NoHead _) = codes "NoHead"
name_of refusals.BadIters = codes "BadIters"
name_of (refusals.KeyDiffers _ _) = codes "KeyDiffers"
name_of refusals.BadOptions = codes "BadOptions"
name_of (refusals.BadDirectory _) = codes "BadDirectory"

-- A call gives this outcome, want of memory apart, which says nothing: its refusal is the outcome's, and only
-- where the outcome has one.
abbrev pub Gives : {T : Type 0} → Result T Stop → Result T Refusal → Type 0
Gives (Ok x) outcome = outcome ≡ Ok x
Gives (Err (stops.Refused why)) outcome = outcome ≡ Err why
Gives (Err stops.NoMemory) outcome = Unit {0}
