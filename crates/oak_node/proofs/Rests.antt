-- What a memory keeps above the head's own entry, after an end.
use Rattle.std.proofs.Common.{◌≡◌, Bool, true, false, cond, List, [], ◌∷◌, filter, refl, sym, ap, subst}
use Rattle.std.specs.Prelude.{All}
use Rattle.std.specs.List.{AllByRecursion}
use Rattle.std.specs.List.Sorted.{IsStrictlySortedBy}
use Rattle.std.specs.declared.cmp.Ordering.TheVariants.{Less}
use Rattle.std.proofs.lemmas.List.Elements.{All-map, All-weaker}
use Rattle.std.proofs.lemmas.List.Kept.{IsStrictlySortedBy-filter}
use Rattle.std.proofs.lemmas.Map.Keys.{sorted_tail}
use Rattle.jr_rev.specs.declared.revision.Revision.{Revision}
use Rattle.jr_rev.specs.Revisions.{revision_cmp, is_before, is_same}
use Rattle.oak_node.specs.declared.drawn.Drawn.{Drawn}
use Rattle.oak_node.specs.Memory.{revisions_in}
use Rattle.oak_node.specs.Heads.{local_from, with_end}
use Rattle.oak_node.proofs.Rising.{before_less}
use Rattle.oak_node.proofs.Settling.{RisesFrom, rises_on, past_ended, at_flying}

end_keeps : (b : Bool) (d : Drawn) → (cond b (record { revision = d.revision; ended = true }) d).revision ≡ d.revision
end_keeps true d = refl
end_keeps false d = refl

-- an end changes no revision
pub revisions_in-with_end : (ds : List Drawn) (r : Revision) → revisions_in (with_end ds r) ≡ revisions_in ds
revisions_in-with_end [] r = refl
revisions_in-with_end (d ∷ ds) r = rw (end_keeps (is_same d.revision r) d, revisions_in-with_end ds r) refl

pub rises_ended : (e : Revision) (ds : List Drawn) (r : Revision) → RisesFrom e ds → RisesFrom e (with_end ds r)
rises_ended e ds r h = subst (λ (rs : List Revision). IsStrictlySortedBy revision_cmp (e ∷ rs)) (sym (revisions_in-with_end ds r)) h

pub All-with_end : (P : Revision → Type 0) (ds : List Drawn) (r : Revision) → All (λ d. P d.revision) ds → All (λ d. P d.revision) (with_end ds r)
All-with_end P ds r h =
    All-map (λ d. P d.revision) (λ d. cond (is_same d.revision r) (record { revision = d.revision; ended = true }) d) ds
    (All-weaker (λ d. P d.revision) (λ d. P (cond (is_same d.revision r) (record { revision = d.revision; ended = true }) d).revision) (λ d p. subst P (sym (end_keeps (is_same d.revision r) d)) p) ds h)

-- what has a fact P of all that was drawn has it of the own entry
pub local_from-has : (P : Revision → Type 0) (e : Revision) (ds : List Drawn) → RisesFrom e ds → P e → AllByRecursion (λ d. P d.revision) ds → P (local_from e ds)
local_from-has P e [] h p all = p
local_from-has P e (d ∷ ds) h p all = by d.ended refl (local_from-has P d.revision ds (rises_on e d ds h) all.0 all.1)
  where
    by : (b : Bool) → d.ended ≡ b → P (local_from d.revision ds) → P (local_from e (d ∷ ds))
    by true is later = subst P (sym (past_ended e d ds is h)) later
    by false is later = subst P (sym (at_flying e d ds is h)) p

filter_step : (p : Revision → Bool) (b : Bool) (d : Drawn) (ds : List Drawn) (rs : List Revision) → revisions_in ds ≡ rs → revisions_in (cond b (d ∷ ds) ds) ≡ cond b (d.revision ∷ rs) rs
filter_step p true d ds rs h = ap (λ qs. d.revision ∷ qs) h
filter_step p false d ds rs h = h

revisions_in-filter : (p : Revision → Bool) (ds : List Drawn) → revisions_in (filter (λ d. p d.revision) ds) ≡ filter p (revisions_in ds)
revisions_in-filter p [] = refl
revisions_in-filter p (d ∷ ds) = filter_step p (p d.revision) d (filter (λ x. p x.revision) ds) (filter p (revisions_in ds)) (revisions_in-filter p ds)

above_step : (l : Revision) (q : Revision) (b : Bool) (rs : List Revision) → is_before l q ≡ b → AllByRecursion (λ x. revision_cmp l x ≡ Less) rs → AllByRecursion (λ x. revision_cmp l x ≡ Less) (cond b (q ∷ rs) rs)
above_step l q true rs is h = (before_less l q is, h)
above_step l q false rs is h = h

all_above : (l : Revision) (rs : List Revision) → AllByRecursion (λ x. revision_cmp l x ≡ Less) (filter (is_before l) rs)
all_above l [] = tt
all_above l (q ∷ rs) = above_step l q (is_before l q) (filter (is_before l) rs) refl (all_above l rs)

-- what is kept rises from the new entry on
pub rest_rises : (e l : Revision) (ds : List Drawn) → RisesFrom e ds → RisesFrom l (filter (λ d. is_before l d.revision) ds)
unfolding IsStrictlySortedBy
rest_rises e l ds h =
    let same = revisions_in-filter (is_before l) ds in
    (subst (λ (rs : List Revision). AllByRecursion (λ x. revision_cmp l x ≡ Less) rs) (sym same) (all_above l (revisions_in ds)), subst (λ (rs : List Revision). IsStrictlySortedBy revision_cmp rs) (sym same) (IsStrictlySortedBy-filter revision_cmp (is_before l) (revisions_in ds) (sorted_tail revision_cmp e (revisions_in ds) h)))
