-- Tests for equality decide it.
use Rattle.std.proofs.Common.{◌≡◌, Bool, true, false, ◌&&◌, eqb, refl, ap, sym, Option, Some, None}
use Rattle.std.specs.Bool.{Decides}
use Rattle.std.specs.Option.{option_eq}
use Rattle.std.specs.Str.{bytes_eq}
use Rattle.std.proofs.lemmas.Bool.Decides.{Decides-and, Decides-eqb, Decides-like}
use Rattle.std.proofs.lemmas.Slice.Eq.{bytes_eq-Decides}
use Rattle.indirect_macs.specs.declared.refs.NodeRef.{NodeRef}
use Rattle.family_log.specs.declared.table.TableRow.{TableRow}
use Rattle.family_log.specs.contracts.table.TableRowPartialEq.TheImpl.{eq-value}

abbrev node_eq : NodeRef → NodeRef → Bool
node_eq x y = eqb x.addr y.addr && bytes_eq x.mac y.mac

node_decides : (x y : NodeRef) → Decides (node_eq x y) (x ≡ y)
node_decides x y =
    Decides-like (node_eq x y)
    (λ both. let r : NodeRef = record { addr = x.addr; mac = x.mac } in rw (both.0, both.1) refl)
    (λ e. (ap (λ (r : NodeRef). r.addr) e, ap (λ (r : NodeRef). r.mac) e))
    (Decides-and (eqb x.addr y.addr) (bytes_eq x.mac y.mac) (Decides-eqb x.addr y.addr) (bytes_eq-Decides x.mac y.mac))

none_is_some : {X : Type 0} {x : X} → None ≡ Some x → ⊥
none_is_some e = cc

Some_same : {X : Type 0} {x y : X} → Some x ≡ Some y → x ≡ y
Some_same e = cc

false_is_true : false ≡ true → ⊥
false_is_true e = cc

top_decides : (x y : Option NodeRef) → Decides (option_eq node_eq x y) (x ≡ y)
top_decides None None = (λ e. refl, λ e. refl)
top_decides None (Some y) = (λ e. absurd (false_is_true e), λ e. absurd (none_is_some e))
top_decides (Some x) None = (λ e. absurd (false_is_true e), λ e. absurd (none_is_some (sym e)))
top_decides (Some x) (Some y) = (λ e. ap Some ((node_decides x y).0 e), λ e. (node_decides x y).1 (Some_same e))

pub row_decides : (a b : TableRow) → Decides (eq-value.it a b) (a ≡ b)
row_decides a b =
    Decides-like (eq-value.it a b)
    (λ all. rw (all.0, all.1.0, all.1.1.0, all.1.1.1) refl)
    (λ e. (ap (λ (r : TableRow). r.object) e, (ap (λ (r : TableRow). r.length) e, (ap (λ (r : TableRow). r.tree.levels) e, ap (λ (r : TableRow). r.tree.top) e))))
    (Decides-and _ _ (Decides-eqb a.object b.object)
    (Decides-and _ _ (Decides-eqb a.length b.length)
    (Decides-and _ _ (Decides-eqb a.tree.levels b.tree.levels) (top_decides a.tree.top b.tree.top))))
