use Rattle.std.proofs.Common.{refl, arith}
use Rattle.std.proofs.lemmas.List.Elements.{All-nil}
use Rattle.key_machine.proofs.SoundLemmas.{no_keys_sound}
use Rattle.key_ciphers.specs.Ciphers.{ciphers}
use Rattle.key_store.proofs.state.KeyState.new.Goals as goal

pub invariant_of-result : goal.invariant_of-result
invariant_of-result c =
    record {
      sound = rw (c.in_ok-tree.ensures, c.in_ok-roots.ensures, c.in_ok-records.ensures.items, c.in_ok-loaded.ensures.items, c.in_ok-gens.ensures, c.in_ok-mapped.ensures.items, c.in_ok-mounted.ensures.items) (no_keys_sound ciphers);
      records = rw c.in_ok-records.ensures.items (All-nil _);
      sizes = rw c.in_ok-records.ensures.items (All-nil _);
      props = rw c.in_ok-roots.ensures (All-nil _);
      by_family = rw c.in_ok-opened.ensures.items (λ i j d before within. absurd (omega arith));
      opened = λ first. rw (c.in_ok-opened.ensures.items, c.in_ok-mapped.ensures.items) refl;
      mkeys = rw (c.in_ok-mkey_counts.ensures.items, c.in_ok-records.ensures.items) refl;
      room = record { datasets = rw c.in_ok-tree.ensures (omega arith); records = omega (arith, c.in_ok-records.ensures.capacity); loaded = omega (arith, c.in_ok-loaded.ensures.capacity); mapped = omega (arith, c.in_ok-mapped.ensures.capacity); mounted = omega (arith, c.in_ok-mounted.ensures.capacity); opened = omega (arith, c.in_ok-opened.ensures.capacity); mkeys = omega (arith, c.in_ok-mkey_counts.ensures.capacity) };
    }
