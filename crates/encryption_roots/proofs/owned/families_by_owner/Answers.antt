use Rattle.std.proofs.Common.{◌&&◌, get_or}
use Rattle.encryption_roots.specs.Owners.{owner}
use Rattle.encryption_roots.specs.Owned.{begins_family, is_owner}
use Rattle.encryption_roots.proofs.OwnedLemmas.{kept_rise, kept_where, owns_row, one_root}
use Rattle.encryption_roots.proofs.owned.families_by_owner.Goals as goal

pub returns-clause-rising : goal.returns-clause-rising
returns-clause-rising c = λ t roots root tree. kept_rise (λ row. begins_family row && is_owner root (owner t.rows roots row.id)) t.rows tree.rising

pub returns-clause-member : goal.returns-clause-member
returns-clause-member c = λ t roots root tree k d within.
    let kept = kept_where t (λ row. begins_family row && is_owner root (owner t.rows roots row.id)) tree k d within in
    let owns = owns_row t.rows roots root (get_or t.rows k d) in
    (λ there. owns.0 (kept.0 there), λ holds. kept.1 (owns.1 holds))

pub returns-clause-apart : goal.returns-clause-apart
returns-clause-apart c = one_root
