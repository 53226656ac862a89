-- The committed edits are in ascending order, and of two revisions one is before the other.
use Rattle.std.proofs.Common.{◌≡◌, true, false, Some, None, Option, [], ◌∷◌, refl, ap, ◌∙◌}
use Rattle.std.specs.declared.cmp.Ordering.{Ordering}
use Rattle.std.specs.declared.cmp.Ordering.TheVariants.{Less, Equal, Greater}
use Rattle.std.specs.Ordering.{is_lt, ordering_reverse}
use Rattle.std.specs.Option.{option_map_or}
use Rattle.std.specs.FinMap.{is_sorted}
use Rattle.std.specs.BTreeMap.{insert_entry}
use mathlib.Core.Bool.{false≢true}
use Rattle.jr_rev.specs.declared.revision.Revision.{Revision}
use Rattle.jr_rev.specs.Revisions.{revision_cmp, is_before}
use Rattle.jr_rev.proofs.Order.{revision_total}
use Rattle.oak_machine.specs.declared.event.Draw.{Draw}
use Rattle.oak_machine.specs.declared.event.Event.TheVariants as event
use Rattle.oak_machine.specs.History.{Past}
use Rattle.oak_machine.specs.Commits.{draw_of, committed_edits}
use Rattle.core_read.specs.Commits.{Commits}
use Rattle.core_read.proofs.Entries.{sorted_insert}

pub committed_sorted : (past : Past) → is_sorted revision_cmp (committed_edits past) ≡ true
committed_sorted [] = refl
committed_sorted (event.Commit r ∷ past) = by (committed_edits past) (committed_sorted past) (draw_of past r)
  where
    by : (es : Commits) → is_sorted revision_cmp es ≡ true → (o : Option Draw) → is_sorted revision_cmp (option_map_or (λ d. insert_entry revision_cmp es r d.edit.writes) o es) ≡ true
    by es s None = s
    by es s (Some d) = sorted_insert revision_cmp revision_total r d.edit.writes es s
committed_sorted (e ∷ past) = committed_sorted past

-- ---- soundness

reversed : (o : Ordering) → is_lt o ≡ true → is_lt (ordering_reverse o) ≡ false
reversed Less h = refl
reversed Equal h = absurd (false≢true h)
reversed Greater h = absurd (false≢true h)

pub not_both : (a b : Revision) → is_before a b ≡ true → is_before b a ≡ false
not_both a b h = ap is_lt (revision_total.antisymm b a) ∙ reversed (revision_cmp a b) h
