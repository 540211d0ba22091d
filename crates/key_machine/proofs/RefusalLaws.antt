-- A refused command changes nothing, but for a busy unload.
use Rattle.std.proofs.Common.{◌≡◌, ◌⊎◌, inl, inr, ℕ, Bool, List, Option, Some, None, refl, sym}
use Rattle.std.specs.Option.{option_and_then}
use Rattle.dataset_tree.specs.declared.refusal.Refusal.{Refusal}
use Rattle.dataset_tree.specs.declared.refusal.Refusal.TheVariants.{Busy}
use Rattle.encryption_roots.specs.declared.props.Options.{Options}
use Rattle.encryption_roots.specs.declared.props.Prop.{Prop}
use Rattle.encryption_roots.specs.declared.command.KeyCmd.{KeyCmd}
use Rattle.encryption_roots.specs.declared.command.KeyCmd.TheVariants as commands
use Rattle.encryption_roots.specs.ById.{IsRisingById, at_id}
use Rattle.key_machine.specs.Plain.{Plain}
use Rattle.key_machine.specs.Busy.{IsFirstInUse}
use Rattle.key_machine.specs.Change.{change_done}
use Rattle.key_machine.specs.Clone.{clone_done}
use Rattle.key_machine.specs.Destroy.{destroyed_unless, destroy_done}
use Rattle.key_machine.specs.Get.{get_done}
use Rattle.key_machine.specs.Inherit.{inherit_done}
use Rattle.key_machine.specs.Load.{load_done}
use Rattle.key_machine.specs.Mount.{free_slot, mounted_on, mounted_at, mount_done}
use Rattle.key_machine.specs.Reply.{Stepped, Refused}
use Rattle.key_machine.specs.Step.{key_step, target, in_use}
use Rattle.key_machine.specs.Told.{Told}
use Rattle.key_machine.specs.Unload.{InUse, first_in_use, closed_below, unloaded, unload_done}
use Rattle.key_machine.specs.Unmount.{unmount_done}
use Rattle.key_machine.proofs.SoundLemmas.{done, by_step}
use Rattle.key_machine.proofs.UnloadLaws.{is_first}

-- the state is as it was, or a root's mapping is in use and those before it are closed
abbrev Unchanged : Plain → Option ℕ → Stepped → Refusal → Type 0
Unchanged p at stepped why =
    (stepped.state ≡ p)
    ⊎ ((root dataset count : ℕ) × (at ≡ Some root) × (why ≡ Busy dataset count) × IsFirstInUse p root dataset count × (stepped.state ≡ record p { mapped = closed_below p root dataset }))

unloaded_unchanged : (p : Plain) (root : ℕ) (why : Refusal) (found : Option InUse) → IsRisingById p.mapped → first_in_use p root ≡ found → (unloaded p root found).reply ≡ Refused why
    → Unchanged p (Some root) (unloaded p root found) why
unloaded_unchanged p root why None rising found reply = absurd (cc)
unloaded_unchanged p root why (Some busy) rising found reply =
    inr (root, busy.dataset, busy.count, refl, (let same : Busy busy.dataset busy.count ≡ why = cc in sym same), is_first p root busy rising found, refl)

unload_unchanged : (p : Plain) (why : Refusal) (at : Option ℕ) → IsRisingById p.mapped → (unload_done p (option_and_then (first_in_use p) at) at).reply ≡ Refused why
    → Unchanged p at (unload_done p (option_and_then (first_in_use p) at) at) why
unload_unchanged p why None rising reply = inl refl
unload_unchanged p why (Some root) rising reply = unloaded_unchanged p root why (first_in_use p root) rising refl reply

load_unchanged : (p : Plain) (check_only : Bool) (told : Told) (why : Refusal) (at : Option ℕ) → (load_done p check_only told at).reply ≡ Refused why → (load_done p check_only told at).state ≡ p
load_unchanged p check_only told why None reply = refl
load_unchanged p check_only told why (Some root) reply = absurd (cc)

change_unchanged : (p : Plain) (opts : Options) (told : Told) (why : Refusal) (at : Option ℕ) → (change_done p opts told at).reply ≡ Refused why → (change_done p opts told at).state ≡ p
change_unchanged p opts told why None reply = refl
change_unchanged p opts told why (Some id) reply = absurd (cc)

inherit_unchanged : (p : Plain) (told : Told) (why : Refusal) (at : Option ℕ) → (inherit_done p told at).reply ≡ Refused why → (inherit_done p told at).state ≡ p
inherit_unchanged p told why None reply = refl
inherit_unchanged p told why (Some id) reply = absurd (cc)

get_unchanged : (p : Plain) (prop : Prop) (at : Option ℕ) → (get_done p prop at).state ≡ p
get_unchanged p prop None = refl
get_unchanged p prop (Some id) = refl

mounted_on_unchanged : (p : Plain) (id : ℕ) (why : Refusal) (free : Option ℕ) → (mounted_on p id free).reply ≡ Refused why → (mounted_on p id free).state ≡ p
mounted_on_unchanged p id why None reply = refl
mounted_on_unchanged p id why (Some slot) reply = absurd (cc)

mounted_at_unchanged : (p : Plain) (id : ℕ) (why : Refusal) (place : Option ℕ) → (mounted_at p id place).reply ≡ Refused why → (mounted_at p id place).state ≡ p
mounted_at_unchanged p id why None reply = mounted_on_unchanged p id why (free_slot p) reply
mounted_at_unchanged p id why (Some slot) reply = absurd (cc)

mount_unchanged : (p : Plain) (why : Refusal) (at : Option ℕ) → (mount_done p at).reply ≡ Refused why → (mount_done p at).state ≡ p
mount_unchanged p why None reply = refl
mount_unchanged p why (Some id) reply = mounted_at_unchanged p id why (at_id id p.mapped) reply

unmount_unchanged : (p : Plain) (why : Refusal) (at : Option ℕ) → (unmount_done p at).reply ≡ Refused why → (unmount_done p at).state ≡ p
unmount_unchanged p why None reply = refl
unmount_unchanged p why (Some id) reply = absurd (cc)

clone_unchanged : (p : Plain) (name : List ℕ) (why : Refusal) (at : Option ℕ) → (clone_done p name at).reply ≡ Refused why → (clone_done p name at).state ≡ p
clone_unchanged p name why None reply = refl
clone_unchanged p name why (Some origin) reply = absurd (cc)

destroyed_unchanged : (p : Plain) (id : ℕ) (why : Refusal) (found : Option InUse) → (destroyed_unless p id found).reply ≡ Refused why → (destroyed_unless p id found).state ≡ p
destroyed_unchanged p id why None reply = absurd (cc)
destroyed_unchanged p id why (Some busy) reply = refl

destroy_unchanged : (p : Plain) (why : Refusal) (found : Option InUse) (at : Option ℕ) → (destroy_done p found at).reply ≡ Refused why → (destroy_done p found at).state ≡ p
destroy_unchanged p why found None reply = refl
destroy_unchanged p why found (Some id) reply = destroyed_unchanged p id why found reply

carried_unchanged : (p : Plain) (command : KeyCmd) (told : Told) (why : Refusal) → IsRisingById p.mapped → (done p command told).reply ≡ Refused why → Unchanged p (target p command) (done p command told) why
carried_unchanged p (commands.Create name opts) told why rising reply = absurd (cc)
carried_unchanged p (commands.Load name check_only place) told why rising reply = inl (load_unchanged p check_only told why (target p (commands.Load name check_only place)) reply)
carried_unchanged p (commands.Unload name) told why rising reply = unload_unchanged p why (target p (commands.Unload name)) rising reply
carried_unchanged p (commands.Change name opts load_first) told why rising reply = inl (change_unchanged p opts told why (target p (commands.Change name opts load_first)) reply)
carried_unchanged p (commands.Inherit name load_first) told why rising reply = inl (inherit_unchanged p told why (target p (commands.Inherit name load_first)) reply)
carried_unchanged p (commands.Mount name) told why rising reply = inl (mount_unchanged p why (target p (commands.Mount name)) reply)
carried_unchanged p (commands.Unmount name) told why rising reply = inl (unmount_unchanged p why (target p (commands.Unmount name)) reply)
carried_unchanged p (commands.Get name prop) told why rising reply = inl (get_unchanged p prop (target p (commands.Get name prop)))
carried_unchanged p (commands.Clone from name) told why rising reply = inl (clone_unchanged p name why (target p (commands.Clone from name)) reply)
carried_unchanged p (commands.Receive name props wrapped block) told why rising reply = inl refl
carried_unchanged p (commands.Destroy name snaps) told why rising reply = inl (destroy_unchanged p why (in_use p (commands.Destroy name snaps)) (target p (commands.Destroy name snaps)) reply)

pub refused_unchanged : (p : Plain) (command : KeyCmd) (told : Told) (why : Refusal) → IsRisingById p.mapped → (key_step p command told).reply ≡ Refused why → Unchanged p (target p command) (key_step p command told) why
refused_unchanged p command told why rising reply =
    by_step p command told (λ stepped. stepped.reply ≡ Refused why → Unchanged p (target p command) stepped why)
    (λ accepted refused. carried_unchanged p command told why rising refused) (λ first state refused. inl refl) (λ first material refused. inl refl) reply
