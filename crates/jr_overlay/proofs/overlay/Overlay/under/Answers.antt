use Rattle.std.proofs.Common.{[], ◌∷◌, map, ap, sym, ◌∙◌}
use Rattle.std.specs.Map.Iter.{deref_pair}
use Rattle.std.proofs.lemmas.List.{map-append}
use Rattle.jr_overlay.proofs.Ranges.{search_begins, search_goes_on, search_ends, search_stops}
use Rattle.jr_overlay.proofs.overlay.Overlay.under.Goals as goal
use Rattle.jr_overlay.proofs.overlay.Overlay.under.Goals.{in-None, in-Some+then-not-is_under}

pub loop-at-init : goal.loop-at-init
loop-at-init c =
    search_begins _ _ _ _ _ _ (c.inner.ensures ∙ c.self.view_is) c.in_order.ensures (c.range-at-items.ensures.between tt) c.into_iter-at-iterator.ensures.into_iter_gives (ap (map deref_pair) c.new-found.ensures.items)

pub loop-at-preserved : goal.loop-at-preserved
loop-at-preserved c =
    search_goes_on _ _ _ _ _ _ _ c.loop-at.invariant c.in-Some.ensures.steps (sym c.if-not-is_under.ensures)
    (ap (map deref_pair) c.in_ok-push.ensures.items ∙ map-append deref_pair c.loop-at.found.items ((c.in-Some.at, c.in-Some.change) ∷ []))

pub returns : goal.returns
returns c =
    elim c.match-next.branch [
      | in-None w ↦ search_ends _ _ _ _ c.loop-at.invariant w.in-None.ensures.steps.0
      | in-Some+then-not-is_under w ↦ search_stops _ _ _ _ _ _ c.loop-at.invariant w.in-Some.ensures.steps (sym w.if-not-is_under.ensures)
    ]
