use Rattle.std.proofs.Common.{[], ◌∷◌, map, ap, sym, ◌∙◌}
use Rattle.std.specs.Ordering.{is_lt}
use Rattle.std.specs.Map.Iter.{deref_pair}
use Rattle.std.proofs.lemmas.List.{map-append}
use Rattle.jr_overlay.proofs.SideBySide.{behind_at, behind_from, left_at, lent_begins, lent_one_more, lent_stops}
use Rattle.jr_overlay.proofs.merge.lend_before.Goals as goal

pub loop-at-init : goal.loop-at-init
loop-at-init c = lent_begins _ _ _ c.requires

pub loop-at-preserved : goal.loop-at-preserved
loop-at-preserved c =
    lent_one_more _ _ _ _ _ _ _ (deref_pair c.index-known-at.result) c.loop-at.invariant (left_at deref_pair _ _ _ c.loop-at-test.true c.index-known-at.is) (sym c.in-Less.ensures)
    (ap (map deref_pair) c.in_ok-push-in-Less.ensures.items ∙ map-append deref_pair c.loop-at.found.items (c.index-known-at.result ∷ []))

pub returns-in-Equal-clause-lent : goal.returns-in-Equal-clause-lent
returns-in-Equal-clause-lent c =
    lent_stops _ _ _ _ _ _ (deref_pair c.index-known-at.result) c.loop-at.invariant (left_at deref_pair _ _ _ c.loop-at-test.true c.index-known-at.is) (ap is_lt (sym c.in-Equal.ensures))

pub returns-in-Equal-clause-rest : goal.returns-in-Equal-clause-rest
returns-in-Equal-clause-rest c =
    behind_at _ _ _ _ _ _ (deref_pair c.index-known-at.result) c.loop-at.invariant (left_at deref_pair _ _ _ c.loop-at-test.true c.index-known-at.is) (sym c.in-Equal.ensures)

pub returns-in-Greater-clause-lent : goal.returns-in-Greater-clause-lent
returns-in-Greater-clause-lent c =
    lent_stops _ _ _ _ _ _ (deref_pair c.index-known-at.result) c.loop-at.invariant (left_at deref_pair _ _ _ c.loop-at-test.true c.index-known-at.is) (ap is_lt (sym c.in-Greater.ensures))

pub returns-in-Greater-clause-rest : goal.returns-in-Greater-clause-rest
returns-in-Greater-clause-rest c =
    behind_from _ _ _ _ _ _ (deref_pair c.index-known-at.result) c.loop-at.invariant (left_at deref_pair _ _ _ c.loop-at-test.true c.index-known-at.is) (sym c.in-Greater.ensures)
