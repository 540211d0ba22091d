-- The key that a load's material gives, and the records that it doesn't open.
use Rattle.std.proofs.Common.{◌≡◌, inr, ℕ, Bool, true, false, not, ◌&&◌, List, [], ◌∷◌, Some, None, Ok, Err, Option, Result, is_some, refl, ap, sym, ◌∙◌, ⊎_elim}
use Rattle.std.proofs.lemmas.Bool.{cases_Bool}
use Rattle.std.proofs.lemmas.List.Elements.{All-nil}
use Rattle.std.specs.Option.{option_map}
use Rattle.std.specs.List.{find, filter}
use Rattle.dataset_tree.specs.declared.refusal.Refusal.{Refusal}
use Rattle.dataset_tree.specs.declared.refusal.Refusal.TheVariants.{WrongKey}
use Rattle.encryption_roots.specs.declared.command.KeyCmd.TheVariants as commands
use Rattle.key_machine.specs.Plain.{Plain, Ciphers, owner_of, is_same, owned}
use Rattle.key_machine.specs.Load.{first_wrong, told_load_with, load_material}
use Rattle.key_machine.specs.Refusals.{first_refusal}
use Rattle.key_machine.specs.Told.{Told, nothing_told}
use Rattle.key_machine.specs.Fair.{IsFair}
use Rattle.key_store.specs.declared.state.FamilyRecord.{FamilyRecord}
use Rattle.key_ciphers.specs.Ciphers.{ciphers}
use Rattle.key_store.specs.State.{stored_records}
use Rattle.key_store.specs.Calls.{key_unless, key_told, is_wrong}

-- ---- a load whose material gives no key is refused

module _ (facts : Told) (why : Refusal) where
  by_fault : (fault : Option Refusal) (wrong : Option ℕ) → key_unless facts.key fault wrong ≡ Err why → first_refusal (fault ∷ option_map (λ dataset. WrongKey dataset) wrong ∷ []) ≡ Some why
  by_fault None None told = absurd (cc)
  by_fault None (Some dataset) told = let same : WrongKey dataset ≡ why = cc in ap (λ w. Some w) same
  by_fault (Some first) wrong told = let same : first ≡ why = cc in ap (λ w. Some w) same

  pub material_refuses : key_told facts ≡ Err why → first_refusal (load_material facts) ≡ Some why
  material_refuses told = by_fault facts.fault facts.wrong told

-- ---- a key that is told opens each record of the root

none_wrong_by : (first key : List ℕ) (wrong : Option ℕ) → key_unless first None wrong ≡ Ok key → (wrong ≡ None) × (first ≡ key)
none_wrong_by first key None told = (refl, cc)
none_wrong_by first key (Some dataset) told = absurd (cc)

pub told_key_opens : (p : Plain) (root : ℕ) (fetched : Result (List ℕ) Refusal) (key : List ℕ) → key_told (told_load_with ciphers p root fetched) ≡ Ok key → first_wrong ciphers key (owned p root) ≡ None
told_key_opens p root (Ok first) key told =
    let both : (first_wrong ciphers first (owned p root) ≡ None) × (first ≡ key) = none_wrong_by first key (first_wrong ciphers first (owned p root)) told in
    ap (λ k. first_wrong ciphers k (owned p root)) (sym both.1) ∙ both.0
told_key_opens p root (Err why) key told = absurd (cc)

-- ---- the first record of the root that doesn't open, by one search

module _ (c : Ciphers) (own : ℕ → Bool) (key : List ℕ) where
  first_wrong-found : (records : List (ℕ × FamilyRecord)) → first_wrong c key (filter (λ entry. own entry.0) (stored_records records))
      ≡ option_map (λ entry. entry.0) (find (λ entry. own entry.0 && not (is_some (c.opens entry.1.wrapped key))) records)
  first_wrong-found [] = refl
  first_wrong-found (entry ∷ records) =
      let rest : first_wrong c key (filter (λ entry. own entry.0) (stored_records records)) ≡ option_map (λ entry. entry.0) (find (λ entry. own entry.0 && not (is_some (c.opens entry.1.wrapped key))) records) =
      first_wrong-found records in
      ⊎_elim
      (λ (mine : own entry.0 ≡ true).
      ⊎_elim
      (λ (opens : is_some (c.opens entry.1.wrapped key) ≡ true). rw (mine, opens) rest)
      (λ (fails : is_some (c.opens entry.1.wrapped key) ≡ false). rw (mine, fails) refl) (cases_Bool (is_some (c.opens entry.1.wrapped key))))
      (λ (other : own entry.0 ≡ false). rw other rest) (cases_Bool (own entry.0))

pub first_wrong-find : (p : Plain) (root : ℕ) (key : List ℕ) (records : List (ℕ × FamilyRecord)) → first_wrong ciphers key (filter (λ entry. is_same root (owner_of p entry.0)) (stored_records records))
    ≡ option_map (λ entry. entry.0) (find (λ entry. is_wrong p root key entry) records)
first_wrong-find p root key records = first_wrong-found ciphers (λ family. is_same root (owner_of p family)) key records

-- ---- an unload takes nothing

pub unload_fair : (p : Plain) (name : List ℕ) → IsFair ciphers p (commands.Unload name) nothing_told
unload_fair p name = inr (record { owned = tt; families = refl; opened = All-nil _; kept = All-nil _ })
