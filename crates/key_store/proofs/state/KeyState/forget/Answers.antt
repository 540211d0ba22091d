use Rattle.std.proofs.Common.{refl}
use Rattle.key_store.proofs.DestroyLemmas.{records_rise, counts_rise, forgotten_is, forgotten_agrees, forgotten_kept}
use Rattle.key_store.specs.declared.state.KeyState.TheInside.{Inside}
use Rattle.key_store.proofs.state.KeyState.forget.Goals as goal

pub remove_at_id-requires : goal.remove_at_id-requires
remove_at_id-requires c = records_rise c.self.inside c.args.self.now c.self.view_is c.self.invariant c.args.id c.requires.there c.requires.free c.requires.unmapped

pub remove_at_id-requires-2 : goal.remove_at_id-requires-2
remove_at_id-requires-2 c = counts_rise c.self.inside c.args.self.now c.self.view_is c.self.invariant c.args.id c.requires.there c.requires.free c.requires.unmapped

pub invariant_of-self : goal.invariant_of-self
invariant_of-self c =
    forgotten_kept c.self.inside c.args.self.now c.self.view_is c.self.invariant c.args.id c.requires.there c.requires.free c.requires.unmapped
    (record c.self.inside { tree = c.remove_free.new.tree; roots = c.remove.new.self; records = c.remove_at_id.new.entries; loaded = c.remove_at_id-3.new.entries; mkey_counts = c.remove_at_id-2.new.entries }) refl
    c.remove_free.ensures c.remove.ensures c.remove_at_id.ensures.removed c.remove_at_id-3.ensures.removed c.remove_at_id-2.ensures.removed c.remove_at_id.ensures.room c.remove_at_id-3.ensures.room c.remove_at_id-2.ensures.room

pub returns-clause-gone : goal.returns-clause-gone
returns-clause-gone c =
    forgotten_is c.self.inside c.args.self.now c.self.view_is c.self.invariant c.args.id c.requires.there c.requires.free c.requires.unmapped
    (record c.self.inside { tree = c.remove_free.new.tree; roots = c.remove.new.self; records = c.remove_at_id.new.entries; loaded = c.remove_at_id-3.new.entries; mkey_counts = c.remove_at_id-2.new.entries }) refl
    c.remove_free.ensures c.remove.ensures c.remove_at_id.ensures.removed c.remove_at_id-3.ensures.removed c.remove_at_id-2.ensures.removed

pub returns-clause-agrees : goal.returns-clause-agrees
returns-clause-agrees c =
    forgotten_agrees c.self.inside c.args.self.now c.self.view_is c.self.invariant c.args.id c.requires.there c.requires.free c.requires.unmapped
    (record c.self.inside { tree = c.remove_free.new.tree; roots = c.remove.new.self; records = c.remove_at_id.new.entries; loaded = c.remove_at_id-3.new.entries; mkey_counts = c.remove_at_id-2.new.entries }) refl
    c.remove_free.ensures c.remove.ensures c.remove_at_id.ensures.removed c.remove_at_id-3.ensures.removed c.remove_at_id-2.ensures.removed
