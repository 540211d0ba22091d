-- What a keystore keeps over mounts, unmounts and closes.
use Rattle.std.proofs.Common.{◌≡◌, ℕ, ◌+◌, ◌<◌, ◌≤◌, Bool, true, false, cond, ◌==◌, ◌||◌, ◌&&◌, not, nat_lt, IfSome, OnOk, OnErr, is_ok, is_err, Result, Ok, Err, [], List, length, set, Option, Some, None, is_some, refl, ap, sym, ◌∙◌, subst, arith}
use Rattle.std.proofs.lemmas.Bool.{eqb-true}
use Rattle.std.specs.Prelude.{◌-◌, ◌^◌, map, min, unwrap_or, vec_capacity}
use Rattle.std.specs.List.{list_any, count_by}
use Rattle.dataset_tree.specs.Tree.{id_named}
use Rattle.encryption_roots.specs.declared.command.KeyCmd.TheVariants as commands
use Rattle.encryption_roots.specs.ById.{IsRisingById, at_id, with_id, without_id}
use Rattle.encryption_roots.specs.Owners.{family}
use Rattle.encryption_roots.proofs.ByIdLemmas.{IsRisingById-with_id}
use Rattle.mapping_words.specs.declared.slot.Slot.{Slot}
use Rattle.std.proofs.lemmas.List.{get_or-set_same}
use Rattle.mapping_words.specs.Told.{Told, fresh_slot, slot_at, told_count, opened, with_mount, closed}
use Rattle.wrapped_keys.specs.Values.{MasterValue}
use Rattle.key_machine.specs.Free.{IsLowestFree}
use Rattle.key_machine.specs.Mount.{free_slot, with_mounted, with_mapping, mounted_at, mounted_on, mount_done}
use Rattle.std.specs.Option.{option_and_then}
use Rattle.key_machine.specs.Plain.{Plain, Hold, Ciphers, mkey}
use Rattle.key_machine.specs.Reap.{mapping_in_use, without_mapping, reaped, reap_step}
use Rattle.key_machine.specs.Reply.{Stepped, Done, Reaped}
use Rattle.key_machine.specs.Unload.{InUse}
use Rattle.key_machine.specs.Sound.{Sound}
use Rattle.key_machine.specs.Step.{refusal_of, key_step}
use Rattle.key_machine.specs.Told.{nothing_told}
use Rattle.key_machine.specs.Unmount.{with_unmounted, unmount_done}
use Rattle.key_machine.specs.Users.{generation_of, is_mounted, mkey_users, users_of, is_used, with_mount as mount_added}
use Rattle.key_machine.proofs.FamilyLaws.{family_opens}
use Rattle.key_machine.proofs.KeyLists.{at_id_is}
use Rattle.key_machine.proofs.MountLaws.{IsMountable, mountable, mount_encrypted, mount_sound, unmount_sound, unmapped_sound}
use Rattle.key_machine.proofs.SlotLaws.{lowest_free}
use Rattle.key_machine.proofs.SoundLemmas.{accepted_step}
use Rattle.key_ciphers.specs.Ciphers.{ciphers, master_of}
use Rattle.key_store.specs.Agrees.{Agrees}
use Rattle.key_store.specs.State.{plain_of, AreCounted, IsKept}
use Rattle.key_store.specs.declared.state.KeyState.TheInside.{Inside}
use Rattle.key_store.proofs.MappingLemmas.{any_counted, any_passes}
use Rattle.key_store.proofs.RoomLemmas.{one_more, one_mount_more, mapped_fit, mounts_fit}
use Rattle.key_store.proofs.SlotLemmas.{own_taken, own_mounted, mounted_agrees, unmounted_agrees, closed_agrees, unused_slot, anew_agrees}
use Rattle.key_store.proofs.OpenedLemmas.{AreOpened, opened_put, opened_drop}
use Rattle.key_store.proofs.UseLemmas.{users_at, rising_counts, mapped_counted, unmapped_counted}

-- a keeper that tells its counts refuses the close of a mounted slot, and of no other
pub exact_is : (tells : Bool) (slot : Slot) (refused mounted : Bool) → tells ≡ true → IfSome (told_count tells slot) (λ count. refused ≡ nat_lt 0 count) → slot.is_mounted ≡ mounted → refused ≡ mounted
exact_is true slot refused mounted known exact same = exact ∙ by slot.is_mounted ∙ same where
  by : (b : Bool) → nat_lt 0 (cond b 1 0) ≡ b
  by true = refl
  by false = refl
exact_is false slot refused mounted known exact same = absurd (cc)

-- a slot that is opened
pub opened_slot : (t : Told) (slot : ℕ) → slot < length t.slots → slot_at (opened t slot) slot ≡ (let new : Slot = record { generation = (slot_at t slot).generation + 1; is_open = true; is_mounted = false } in new)
opened_slot t slot within = get_or-set_same t.slots slot (let new : Slot = record { generation = (slot_at t slot).generation + 1; is_open = true; is_mounted = false } in new) fresh_slot within

-- opened keys that keep their values and may gain room
pub opened_kept : (s made : Inside) → IsKept s → made ≡ record s { opened = made.opened } → made.opened.items ≡ s.opened.items → vec_capacity s.opened ≤ vec_capacity made.opened → IsKept made
opened_kept s made kept same opened_is opened_room = subst IsKept (sym same) (record {
  sound = kept.sound;
  records = kept.records;
  sizes = kept.sizes;
  props = kept.props;
  by_family = subst (λ (entries : List (ℕ × MasterValue)). IsRisingById entries) (sym opened_is) kept.by_family;
  opened = subst (λ (entries : List (ℕ × MasterValue)). AreOpened ciphers (plain_of s) entries) (sym opened_is) kept.opened;
  mkeys = kept.mkeys;
  room = record {
    datasets = kept.room.datasets;
    records = kept.room.records;
    loaded = kept.room.loaded;
    mapped = kept.room.mapped;
    mounted = kept.room.mounted;
    opened = omega (arith, kept.room.opened, opened_room);
    mkeys = kept.room.mkeys;
  };
})

-- ---- a dataset that is mapped

module _ (s : Inside) (now : Plain) (view_is : plain_of s ≡ now) (kept : IsKept s) (t : Told) (agrees : Agrees t now) (id slot : ℕ) (there_now : at_id id now.mapped ≡ Some slot) where
  abbrev p : Plain
  p = plain_of s

  there : at_id id p.mapped ≡ Some slot
  there = ap (λ (q : Plain). at_id id q.mapped) view_is ∙ there_now

  agrees_p : Agrees t p
  agrees_p = subst (λ (q : Plain). Agrees t q) (sym view_is) agrees

  within : slot < 256
  within = at_id_is (λ (mapping : ℕ × ℕ). mapping.1 < 256) id p.mapped slot kept.sound.slots.mapped there

  pub slot_there : slot < length t.slots
  slot_there = let long : length t.slots ≡ 256 = agrees.slots in omega (arith, within, long)

  pub slot_open : (slot_at t slot).is_open ≡ true
  slot_open = ap (λ found. found.is_open) (agrees_p.each slot within) ∙ own_taken p id slot kept.sound.mappings.mapped kept.sound.mappings.slots there

  slot_mount : (slot_at t slot).is_mounted ≡ is_mounted p id
  slot_mount = ap (λ found. found.is_mounted) (agrees_p.each slot within) ∙ own_mounted p id slot kept.sound.mappings.mapped kept.sound.mappings.slots there

  pub slot_mounted : (slot_at t slot).is_mounted ≡ is_mounted now id
  slot_mounted = slot_mount ∙ ap (λ (q : Plain). is_mounted q id) view_is

  -- ---- it is closed

  module _ (idle : (slot_at t slot).is_mounted ≡ false) where
    unmounted : is_mounted p id ≡ false
    unmounted = sym slot_mount ∙ idle

    pub closed_agrees_now : Agrees (closed t slot) (without_mapping now id)
    closed_agrees_now =
        subst (λ (q : Plain). Agrees (closed t slot) (without_mapping q id)) view_is (closed_agrees p id slot kept.sound.mappings.mapped kept.sound.mappings.slots there t within idle agrees_p)

    module _ (made : Inside) (same : made ≡ record s { mapped = made.mapped; opened = made.opened; mkey_counts = made.mkey_counts }) (mapped_is : made.mapped.items ≡ without_id id s.mapped.items) where
      made_closed : plain_of made ≡ without_mapping p id
      made_closed = ap plain_of same ∙ ap (λ (m : List (ℕ × ℕ)). record p { mapped = m }) mapped_is

      pub closed_is : plain_of made ≡ without_mapping now id
      closed_is = made_closed ∙ ap (λ (q : Plain). without_mapping q id) view_is

      -- the counter of its family falls by one
      module _ (counts_is : made.mkey_counts.items ≡ map (λ entry. (entry.0, cond (entry.0 == family s.tree.rows id) (entry.1 - 1) entry.1)) s.mkey_counts.items) where
        none : users_of p (id, slot) ≡ 0
        none = ap (λ b. cond b 1 0 + 0) unmounted

        without_sound : Sound ciphers (without_mapping p id)
        without_sound = unmapped_sound ciphers p kept.sound id slot there none

        counted : AreCounted (without_mapping p id) made.mkey_counts.items
        counted = unmapped_counted ciphers p kept.sound id slot s.mkey_counts.items made.mkey_counts.items there kept.mkeys counts_is

        pub counts_rising : IsRisingById made.mkey_counts.items
        counts_rising = rising_counts ciphers (without_mapping p id) without_sound made.mkey_counts.items counted

        pub closed_kept : (left : ℕ) → left ≡ unwrap_or (at_id (family s.tree.rows id) made.mkey_counts.items) 0
            → made.opened.items ≡ cond (not (left == 0)) s.opened.items (without_id (family s.tree.rows id) s.opened.items) → IsRisingById made.opened.items
            → vec_capacity s.mapped ≤ vec_capacity made.mapped → vec_capacity s.opened ≤ vec_capacity made.opened → vec_capacity s.mkey_counts ≤ vec_capacity made.mkey_counts → IsKept made
        closed_kept left left_is opened_is by_family mapped_room opened_room counts_room =
            let left_users : left ≡ mkey_users (without_mapping p id) (family p.tree.rows id) = left_is ∙ users_at ciphers (without_mapping p id) without_sound made.mkey_counts.items (family p.tree.rows id) counted in
            let still : not (left == 0) ≡ list_any (λ mapping. family p.tree.rows mapping.0 == family p.tree.rows id) (without_id id p.mapped) =
            ap (λ n. not (n == 0)) left_users ∙ sym (any_counted (λ mapping. family p.tree.rows mapping.0 == family p.tree.rows id) (without_id id p.mapped)) in
            let opened : AreOpened ciphers (without_mapping p id) made.opened.items =
            opened_drop ciphers p id slot s.opened.items made.opened.items (not (left == 0)) kept.sound.mappings.mapped there still opened_is kept.opened in
            subst IsKept (sym same) (record {
              sound = subst (λ (q : Plain). Sound ciphers q) (sym (ap (λ (m : List (ℕ × ℕ)). record p { mapped = m }) mapped_is)) without_sound;
              records = kept.records;
              sizes = kept.sizes;
              props = kept.props;
              by_family = by_family;
              opened = subst (λ (m : List (ℕ × ℕ)). AreOpened ciphers (record p { mapped = m }) made.opened.items) (sym mapped_is) opened;
              mkeys = subst (λ (m : List (ℕ × ℕ)). AreCounted (record p { mapped = m }) made.mkey_counts.items) (sym mapped_is) counted;
              room = record {
                datasets = kept.room.datasets;
                records = kept.room.records;
                loaded = kept.room.loaded;
                mapped = omega (arith, kept.room.mapped, mapped_room);
                mounted = kept.room.mounted;
                opened = omega (arith, kept.room.opened, opened_room);
                mkeys = omega (arith, kept.room.mkeys, counts_room);
              };
            })

  -- ---- its mounts change

  module _ (made : Inside) (same : made ≡ record s { mounted = made.mounted }) where
    pub mounts_kept : (q : Plain) → record p { mounted = made.mounted.items } ≡ q → Sound ciphers q → vec_capacity s.mounted ≤ vec_capacity made.mounted → IsKept made
    mounts_kept q made_is sound mounted_room = subst IsKept (sym same) (record {
      sound = subst (λ (r : Plain). Sound ciphers r) (sym made_is) sound;
      records = kept.records;
      sizes = kept.sizes;
      props = kept.props;
      by_family = kept.by_family;
      opened = kept.opened;
      mkeys = kept.mkeys;
      room = record {
        datasets = kept.room.datasets;
        records = kept.room.records;
        loaded = kept.room.loaded;
        mapped = kept.room.mapped;
        mounted = omega (arith, kept.room.mounted, mounted_room);
        opened = kept.room.opened;
        mkeys = kept.room.mkeys;
      };
    })

  -- mounted again
  module _ (name : List ℕ) (accepted_now : refusal_of now (commands.Mount name) ≡ None) (named_now : id_named name now.tree.rows ≡ Some id) where
    accepted : refusal_of p (commands.Mount name) ≡ None
    accepted = ap (λ (q : Plain). refusal_of q (commands.Mount name)) view_is ∙ accepted_now

    named : id_named name p.tree.rows ≡ Some id
    named = ap (λ (q : Plain). id_named name q.tree.rows) view_is ∙ named_now

    pub slot_unmounted : (slot_at t slot).is_mounted ≡ false
    slot_unmounted = slot_mount ∙ (mountable p name id accepted named).new

    pub again_agrees : Agrees (with_mount t slot true) (with_mounted now id)
    again_agrees =
        subst (λ (q : Plain). Agrees (with_mount t slot true) (with_mounted q id)) view_is (mounted_agrees p id slot kept.sound.mappings.mapped kept.sound.mappings.slots there t within agrees_p)

    pub again_is : (made : Inside) → made ≡ record s { mounted = made.mounted } → made.mounted.items ≡ mount_added id s.mounted.items → plain_of made ≡ with_mounted now id
    again_is made same mounted_is =
        ap plain_of same ∙ ap (λ (m : List ℕ). record p { mounted = m }) mounted_is ∙ ap (λ (q : Plain). with_mounted q id) view_is

    again_sound : Sound ciphers (with_mounted p id)
    again_sound = subst (λ (place : Option ℕ). Sound ciphers (mounted_at p id place).state) there (mount_sound ciphers p name kept.sound accepted (Some id) named)

    pub again_fits : length s.mounted.items < 256
    again_fits =
        let more : length (mount_added id s.mounted.items) ≡ length s.mounted.items + 1 = one_mount_more id s.mounted.items in
        let few : length (mount_added id s.mounted.items) ≤ length s.tree.rows = mounts_fit ciphers (with_mounted p id) again_sound in
        let rows : length s.tree.rows ≤ 256 = kept.room.datasets in
        omega (arith, more, few, rows)

    pub again_kept : (made : Inside) → made ≡ record s { mounted = made.mounted } → made.mounted.items ≡ mount_added id s.mounted.items → vec_capacity s.mounted ≤ vec_capacity made.mounted → IsKept made
    again_kept made same mounted_is room =
        mounts_kept made same (with_mounted p id) (ap (λ (m : List ℕ). record p { mounted = m }) mounted_is) again_sound room

  -- unmounted
  pub unmounts_agree : Agrees (with_mount t slot false) (with_unmounted now id)
  unmounts_agree =
      subst (λ (q : Plain). Agrees (with_mount t slot false) (with_unmounted q id)) view_is (unmounted_agrees p id slot kept.sound.mappings.mapped kept.sound.mappings.slots there t within agrees_p)

  pub unmount_is : (made : Inside) → made ≡ record s { mounted = made.mounted } → made.mounted.items ≡ (with_unmounted p id).mounted → plain_of made ≡ with_unmounted now id
  unmount_is made same mounted_is = ap plain_of same ∙ ap (λ (m : List ℕ). record p { mounted = m }) mounted_is ∙ ap (λ (q : Plain). with_unmounted q id) view_is

  pub unmount_kept : (made : Inside) → made ≡ record s { mounted = made.mounted } → made.mounted.items ≡ (with_unmounted p id).mounted → vec_capacity s.mounted ≤ vec_capacity made.mounted → IsKept made
  unmount_kept made same mounted_is room =
      mounts_kept made same (with_unmounted p id) (ap (λ (m : List ℕ). record p { mounted = m }) mounted_is) (unmount_sound ciphers p (Some id) kept.sound) room

-- ---- a dataset that is to be mounted

-- an accepted mount's step
pub mount_step : (p : Plain) (name : List ℕ) (id : ℕ) (place : Option ℕ) → refusal_of p (commands.Mount name) ≡ None → id_named name p.tree.rows ≡ Some id → at_id id p.mapped ≡ place
    → key_step p (commands.Mount name) nothing_told ≡ mounted_at p id place
mount_step p name id place accepted named there =
    accepted_step p (commands.Mount name) nothing_told (record { state = accepted; material = refl })
    ∙ ap (λ found. mount_done p found) named ∙ ap (λ found. mounted_at p id found) there

pub unmount_step : (p : Plain) (name : List ℕ) (id : ℕ) → refusal_of p (commands.Unmount name) ≡ None → id_named name p.tree.rows ≡ Some id
    → key_step p (commands.Unmount name) nothing_told ≡ (let done : Stepped = record { state = with_unmounted p id; reply = Done } in done)
unmount_step p name id accepted named =
    accepted_step p (commands.Unmount name) nothing_told (record { state = accepted; material = refl }) ∙ ap (λ found. unmount_done p found) named

-- a dataset that is mounted is mapped
pub mounted_mapped : (c : Ciphers) (p : Plain) (id : ℕ) → Sound c p → is_mounted p id ≡ true → is_some (at_id id p.mapped) ≡ true
mounted_mapped c p id s mounted =
    let one = any_passes (λ other. is_some (at_id other p.mapped) ≡ true) (λ other. other == id) p.mounted s.mappings.mounts mounted in
    subst (λ n. is_some (at_id n p.mapped) ≡ true) (eqb-true one.0 id one.2) one.1

-- ---- a dataset that is mapped anew

module _ (s : Inside) (now : Plain) (view_is : plain_of s ≡ now) (kept : IsKept s) (t : Told) (agrees : Agrees t now) (name : List ℕ) (id : ℕ) (accepted_now : refusal_of now (commands.Mount name) ≡ None)
    (named_now : id_named name now.tree.rows ≡ Some id) (new_now : at_id id now.mapped ≡ None) where
  abbrev o : Plain
  o = plain_of s

  accepted_o : refusal_of o (commands.Mount name) ≡ None
  accepted_o = ap (λ (q : Plain). refusal_of q (commands.Mount name)) view_is ∙ accepted_now

  named_o : id_named name o.tree.rows ≡ Some id
  named_o = ap (λ (q : Plain). id_named name q.tree.rows) view_is ∙ named_now

  new_o : at_id id o.mapped ≡ None
  new_o = ap (λ (q : Plain). at_id id q.mapped) view_is ∙ new_now

  can : IsMountable o id
  can = mountable o name id accepted_o named_o

  -- some slot is free, and the family's master key opens
  pub some_free : is_some (free_slot now) ≡ true
  some_free =
      let place : is_some (free_slot o) ≡ true = sym (ap (λ (found : Option ℕ). is_some found || is_some (free_slot o)) new_o) ∙ can.place in
      sym (ap (λ (q : Plain). is_some (free_slot q)) view_is) ∙ place

  pub key_opens : is_some (mkey ciphers now (family now.tree.rows id)) ≡ true
  key_opens = subst (λ (q : Plain). is_some (mkey ciphers q (family q.tree.rows id)) ≡ true) view_is (family_opens ciphers o id kept.sound (mount_encrypted o name id kept.sound.tree.tree accepted_o named_o) can.key)

  module _ (slot : ℕ) (free_now : free_slot now ≡ Some slot) where
    free_o : free_slot o ≡ Some slot
    free_o = ap (λ (q : Plain). free_slot q) view_is ∙ free_now

    lowest : IsLowestFree o slot
    lowest = lowest_free o slot free_o

    agrees_o : Agrees t o
    agrees_o = subst (λ (q : Plain). Agrees t q) (sym view_is) agrees

    pub free_there : slot < length t.slots
    free_there = let long : length t.slots ≡ 256 = agrees.slots in let below : slot < 256 = lowest.there in omega (arith, below, long)

    generation_is : (slot_at t slot).generation ≡ generation_of o slot
    generation_is = ap (λ found. found.generation) (agrees_o.each slot lowest.there)

    pub free_closed : (slot_at t slot).is_open ≡ false
    free_closed = ap (λ found. found.is_open) (agrees_o.each slot lowest.there) ∙ (unused_slot o slot lowest.idle).0

    pub free_left : (slot_at t slot).generation < 1073741823
    free_left = let left : generation_of o slot < 1073741823 = lowest.left in omega (arith, generation_is, left)

    pub free_gens : slot < length s.gens.items
    free_gens = let long : length o.gens ≡ 256 = kept.sound.slots.slots in let below : slot < 256 = lowest.there in omega (arith, below, long)

    anew : Sound ciphers (with_mounted (with_mapping o id slot) id)
    anew =
        subst (λ (found : Option ℕ). Sound ciphers (mounted_on o id found).state) free_o
        (subst (λ (place : Option ℕ). Sound ciphers (mounted_at o id place).state) new_o (mount_sound ciphers o name kept.sound accepted_o (Some id) named_o))

    -- there is room for the new mapping and for its mount
    pub mapping_fits : length s.mapped.items < 256
    mapping_fits =
        let more : length s.mapped.items < length (with_id id slot s.mapped.items) = one_more id slot s.mapped.items new_o in
        let few : length (with_id id slot s.mapped.items) ≤ length s.tree.rows = mapped_fit ciphers (with_mounted (with_mapping o id slot) id) anew in
        let rows : length s.tree.rows ≤ 256 = kept.room.datasets in
        omega (arith, more, few, rows)

    pub mount_fits : length s.mounted.items < 256
    mount_fits =
        let more : length (mount_added id s.mounted.items) ≡ length s.mounted.items + 1 = one_mount_more id s.mounted.items in
        let few : length (mount_added id s.mounted.items) ≤ length s.tree.rows = mounts_fit ciphers (with_mounted (with_mapping o id slot) id) anew in
        let rows : length s.tree.rows ≤ 256 = kept.room.datasets in
        omega (arith, more, few, rows)

    pub anew_step : key_step now (commands.Mount name) nothing_told ≡ (let done : Stepped = record { state = with_mounted (with_mapping now id slot) id; reply = Done } in done)
    anew_step = mount_step now name id None accepted_now named_now new_now ∙ ap (λ found. mounted_on now id found) free_now

    pub anew_agrees_now : Agrees (with_mount (opened t slot) slot true) (with_mounted (with_mapping now id slot) id)
    anew_agrees_now =
        subst (λ (q : Plain). Agrees (with_mount (opened t slot) slot true) (with_mounted (with_mapping q id slot) id)) view_is
        (anew_agrees t o id slot kept.sound.mappings.mapped kept.sound.mappings.slots new_o can.new lowest.idle lowest.there kept.sound.slots.slots agrees_o)

    module _ (generation : ℕ) (risen : generation ≡ (slot_at t slot).generation + 1) (key : MasterValue) (key_is : Some (master_of key) ≡ mkey ciphers now (family now.tree.rows id)) (made : Inside)
        (same : made ≡ record s { gens = made.gens; mapped = made.mapped; mounted = made.mounted; opened = made.opened; mkey_counts = made.mkey_counts }) (gens_is : made.gens.items ≡ set s.gens.items slot generation)
        (mapped_is : made.mapped.items ≡ with_id id slot s.mapped.items) (mounted_is : made.mounted.items ≡ mount_added id s.mounted.items) where
      gens_risen : made.gens.items ≡ set s.gens.items slot (generation_of o slot + 1)
      gens_risen = gens_is ∙ ap (λ g. set s.gens.items slot g) (risen ∙ ap (λ n. n + 1) generation_is)

      made_plain : plain_of (record s { gens = made.gens; mapped = made.mapped; mounted = made.mounted; opened = made.opened; mkey_counts = made.mkey_counts }) ≡ with_mounted (with_mapping o id slot) id
      made_plain =
          ap (λ (g : List ℕ). let q : Plain = record o { gens = g; mapped = made.mapped.items; mounted = made.mounted.items } in q) gens_risen
          ∙ ap (λ (m : List (ℕ × ℕ)). let q : Plain = record o { gens = set s.gens.items slot (generation_of o slot + 1); mapped = m; mounted = made.mounted.items } in q) mapped_is
          ∙ ap (λ (m : List ℕ). let q : Plain = record (with_mapping o id slot) { mounted = m } in q) mounted_is

      pub anew_is : plain_of made ≡ with_mounted (with_mapping now id slot) id
      anew_is = ap plain_of same ∙ made_plain ∙ ap (λ (q : Plain). with_mounted (with_mapping q id slot) id) view_is

      pub anew_kept : made.opened.items ≡ with_id (family s.tree.rows id) key s.opened.items
          → made.mkey_counts.items ≡ map (λ entry. (entry.0, cond (entry.0 == family s.tree.rows id) (min (entry.1 + 1) (2 ^ 32 - 1)) entry.1)) s.mkey_counts.items → vec_capacity s.mkey_counts ≤ vec_capacity made.mkey_counts
          → vec_capacity s.mapped ≤ vec_capacity made.mapped → vec_capacity s.mounted ≤ vec_capacity made.mounted
          → vec_capacity s.opened ≤ vec_capacity made.opened → IsKept made
      anew_kept opened_is counts_is counts_room mapped_room mounted_room opened_room =
          let key_o : Some (master_of key) ≡ mkey ciphers o (family o.tree.rows id) = key_is ∙ sym (ap (λ (q : Plain). mkey ciphers q (family q.tree.rows id)) view_is) in
          let opened : AreOpened ciphers (with_mounted (with_mapping o id slot) id) (with_id (family o.tree.rows id) key s.opened.items) = opened_put ciphers o id slot key s.opened.items new_o key_o kept.opened in
          let counted : AreCounted (with_mounted (with_mapping o id slot) id) made.mkey_counts.items =
          mapped_counted ciphers o kept.sound id slot s.mkey_counts.items made.mkey_counts.items new_o kept.room.datasets kept.mkeys counts_is in
          subst IsKept (sym same) (record {
            sound = subst (λ (q : Plain). Sound ciphers q) (sym made_plain) anew;
            records = kept.records;
            sizes = kept.sizes;
            props = kept.props;
            by_family = subst (λ (entries : List (ℕ × MasterValue)). IsRisingById entries) (sym opened_is) (IsRisingById-with_id (family s.tree.rows id) key s.opened.items kept.by_family);
            opened = subst (λ (q : Plain). AreOpened ciphers q made.opened.items) (sym made_plain)
                (subst (λ (entries : List (ℕ × MasterValue)). AreOpened ciphers (with_mounted (with_mapping o id slot) id) entries) (sym opened_is) opened);
            mkeys = subst (λ (q : Plain). AreCounted q made.mkey_counts.items) (sym made_plain) counted;
            room = record {
              datasets = kept.room.datasets;
              records = kept.room.records;
              loaded = kept.room.loaded;
              mapped = omega (arith, kept.room.mapped, mapped_room);
              mounted = omega (arith, kept.room.mounted, mounted_room);
              opened = omega (arith, kept.room.opened, opened_room);
              mkeys = omega (arith, kept.room.mkeys, counts_room);
            };
          })

-- ---- a reap

-- by the answer of the close, where that is refused exactly where the dataset is mounted
pub reap_told : {T E : Type 0} (close : Result T E) (now after : Plain) (id slot : ℕ) → now.users ≡ [] → at_id id now.mapped ≡ Some slot → is_err close ≡ is_mounted now id → OnOk close (after ≡ without_mapping now id)
    → OnErr close (after ≡ now) → reap_step now id ≡ (let stepped : Stepped = record { state = after; reply = Reaped id (is_ok close) } in stepped)
reap_told close now after id slot idle there exact dropped kept =
    ap (λ place. reaped now id place (option_and_then (mapping_in_use now id) place)) there
    ∙ ap (λ used. reaped now id (Some slot) (cond used (Some (let busy : InUse = record { dataset = id; count = users_of now (id, slot) } in busy)) None)) used
    ∙ by close exact dropped kept
  where
    mount_counts : (b : Bool) → not ((cond b 1 0 + 0) == 0) ≡ b
    mount_counts true = refl
    mount_counts false = refl

    used : is_used now (id, slot) ≡ is_mounted now id
    used =
        ap (λ (users : List Hold). not ((cond (is_mounted now id) 1 0 + count_by (λ hold. (hold.slot == slot) && (hold.generation == generation_of now slot)) users) == 0)) idle
        ∙ mount_counts (is_mounted now id)

    by : {T E : Type 0} (close : Result T E) → is_err close ≡ is_mounted now id → OnOk close (after ≡ without_mapping now id) → OnErr close (after ≡ now)
        → reaped now id (Some slot) (cond (is_mounted now id) (Some (let busy : InUse = record { dataset = id; count = users_of now (id, slot) } in busy)) None) ≡ (let stepped : Stepped = record { state = after; reply = Reaped id (is_ok close) } in stepped)
    by (Ok x) exact dropped kept =
        ap (λ b. reaped now id (Some slot) (cond b (Some (let busy : InUse = record { dataset = id; count = users_of now (id, slot) } in busy)) None)) (sym exact)
        ∙ ap (λ (p : Plain). let stepped : Stepped = record { state = p; reply = Reaped id true } in stepped) (sym dropped)
    by (Err e) exact dropped kept =
        ap (λ b. reaped now id (Some slot) (cond b (Some (let busy : InUse = record { dataset = id; count = users_of now (id, slot) } in busy)) None)) (sym exact)
        ∙ ap (λ (p : Plain). let stepped : Stepped = record { state = p; reply = Reaped id false } in stepped) (sym kept)
