-- The local revision of a node, and its head.
use Rattle.std.proofs.Common.{◌≡◌, ℕ, ◌≤◌, Bool, true, false, cond, ◌⊎◌, inl, inr, Some, None, Option, [], ◌∷◌, length, is_some, refl, sym, ap, subst, ◌∙◌, arith}
use Rattle.std.specs.Prelude.{◌==◌}
use Rattle.std.specs.List.{filter, fold, list_all}
use mathlib.Core.Bool.{false≢true}
use Rattle.jr_rev.specs.declared.revision.Revision.{Revision}
use Rattle.jr_rev.specs.Revisions.{is_same, is_before, is_at_most}
use Rattle.jr_rev.specs.Vectors.{sees}
use Rattle.oak_machine.specs.declared.event.Event.TheVariants as event
use Rattle.oak_machine.specs.History.{Begin, Past, begin_of}
use Rattle.oak_machine.specs.Commits.{draw_of, is_drawn, is_in_flight}
use Rattle.oak_machine.specs.Heads.{draws_by, flying, local, last_in, head_of, last_draw_time}
use Rattle.core_read.proofs.Latest.{same_revision}
use Rattle.core_heads.specs.Sound.{IsIn, IsAhead}
use Rattle.core_heads.proofs.Orders.{same_number, same_itself, later_than, before_not, fold_first, fold_each, fold_has, filter_in, in_filter, all_in, in_all, and_both}
use Rattle.core_heads.proofs.Entries.{seen_before, still_seen, seen_own}
use Rattle.core_heads.proofs.AtStart.{begin_cluster}

pub some_of : {X : Type 0} (o : Option X) → is_some o ≡ true → (x : X) × (o ≡ Some x)
some_of None h = absurd (false≢true h)
some_of (Some x) h = (x, refl)

-- ---- drawn revisions, and those of a node

pub draws_in : (past : Past) (k : ℕ) (r : Revision) → IsIn r (draws_by past k) → (is_drawn past r ≡ true) × (r.cluster ≡ k)
draws_in [] k r h = absurd h
draws_in (event.Draw d ∷ past) k r h = by (λ i. draws_in past k r i) (d.revision.cluster == k) refl h
  where
    still : (b : Bool) → is_drawn past r ≡ true → is_some (cond b (Some d) (draw_of past r)) ≡ true
    still true h = refl
    still false h = h

    itself : is_same d.revision d.revision ≡ true
    itself = ap Rattle.std.specs.Ordering.is_eq (Rattle.std.specs.Cmp.tied_itself Rattle.jr_rev.proofs.Order.revision_total d.revision)

    by : (IsIn r (draws_by past k) → (is_drawn past r ≡ true) × (r.cluster ≡ k)) → (b : Bool) → (d.revision.cluster == k) ≡ b → IsIn r (cond b (d.revision ∷ draws_by past k) (draws_by past k)) → (is_some (cond (is_same r d.revision) (Some d) (draw_of past r)) ≡ true) × (r.cluster ≡ k)
    by rest true e (inl same) = subst (λ (x : Revision). (is_some (cond (is_same x d.revision) (Some d) (draw_of past x)) ≡ true) × (x.cluster ≡ k)) same (ap (λ b. is_some (cond b (Some d) (draw_of past d.revision))) itself, same_number d.revision.cluster k e)
    by rest true e (inr i) = let p = rest i in (still (is_same r d.revision) p.0, p.1)
    by rest false e i = let p = rest i in (still (is_same r d.revision) p.0, p.1)
draws_in (e ∷ past) k r h = draws_in past k r h

pub in_draws : (past : Past) (k : ℕ) (r : Revision) → is_drawn past r ≡ true → r.cluster ≡ k → IsIn r (draws_by past k)
in_draws [] k r h same = absurd (false≢true h)
in_draws (event.Draw d ∷ past) k r h same = by (λ i. in_draws past k r i same) (is_same r d.revision) refl h
  where
    skip : (b : Bool) → IsIn r (draws_by past k) → IsIn r (cond b (d.revision ∷ draws_by past k) (draws_by past k))
    skip true i = inr i
    skip false i = i

    first : (b : Bool) → b ≡ true → d.revision ≡ r → IsIn r (cond b (d.revision ∷ draws_by past k) (draws_by past k))
    first true t e = inl e
    first false t e = absurd (false≢true t)

    by : (is_drawn past r ≡ true → IsIn r (draws_by past k)) → (b : Bool) → is_same r d.revision ≡ b → is_some (cond b (Some d) (draw_of past r)) ≡ true → IsIn r (cond (d.revision.cluster == k) (d.revision ∷ draws_by past k) (draws_by past k))
    by rest true e h = let it = same_revision r d.revision e in first (d.revision.cluster == k) (subst (λ (j : ℕ). (d.revision.cluster == j) ≡ true) (ap (λ (x : Revision). x.cluster) (sym it) ∙ same) (same_itself d.revision.cluster)) (sym it)
    by rest false e h = skip (d.revision.cluster == k) (rest h)
in_draws (e ∷ past) k r h same = in_draws past k r h same

-- ---- the local revision

-- drawn by k, and below all of k that is in flight
pub record IsSettledDraw (past : Past) (k : ℕ) (r : Revision) : Type 0 where
  pub drawn : is_drawn past r ≡ true
  pub cluster : r.cluster ≡ k
  pub below : (o : Revision) → is_in_flight past o ≡ true → o.cluster ≡ k → is_before r o ≡ true

pub local_is : (begin : Begin) (past : Past) (k : ℕ) → (local begin past k ≡ begin_of begin k) ⊎ IsSettledDraw past k (local begin past k)
local_is begin past k = fold_has (λ x. (x ≡ begin_of begin k) ⊎ IsSettledDraw past k x) (begin_of begin k) (filter (λ r. list_all (is_before r) (flying past k)) (draws_by past k)) (inl refl) (λ q i. inr (each q i))
  where
    each : (q : Revision) → IsIn q (filter (λ r. list_all (is_before r) (flying past k)) (draws_by past k)) → IsSettledDraw past k q
    each q i =
        let p = filter_in (λ r. list_all (is_before r) (flying past k)) (draws_by past k) q i in
        let d = draws_in past k q p.0 in
        record {
          drawn = d.0;
          cluster = d.1;
          below = λ o flies same. all_in (is_before q) (flying past k) p.1 o (in_filter (is_in_flight past) (draws_by past k) o (in_draws past k o (and_both (is_drawn past o) _ flies).0 same) flies);
        }

pub local_first : (begin : Begin) (past : Past) (k : ℕ) → is_at_most (begin_of begin k) (local begin past k) ≡ true
local_first begin past k = fold_first (begin_of begin k) (filter (λ r. list_all (is_before r) (flying past k)) (draws_by past k))

pub local_each : (begin : Begin) (past : Past) (k : ℕ) (r : Revision) → IsSettledDraw past k r → is_at_most r (local begin past k) ≡ true
local_each begin past k r h = fold_each (begin_of begin k) (filter (λ r. list_all (is_before r) (flying past k)) (draws_by past k)) r
    (in_filter (λ r. list_all (is_before r) (flying past k)) (draws_by past k) r (in_draws past k r h.drawn h.cluster)
    (in_all (is_before r) (flying past k) (λ o i. let p = filter_in (is_in_flight past) (draws_by past k) o i in h.below o p.1 (draws_in past k o p.0).1)))

pub local_cluster : (begin : Begin) (past : Past) (k : ℕ) → (local begin past k).cluster ≡ k
local_cluster begin past k = by (local_is begin past k)
  where
    by : (local begin past k ≡ begin_of begin k) ⊎ IsSettledDraw past k (local begin past k) → (local begin past k).cluster ≡ k
    by (inl e) = ap (λ (x : Revision). x.cluster) e ∙ begin_cluster begin k
    by (inr s) = s.cluster

-- where what is settled stays so, the local revision grows
pub local_grows : (begin : Begin) (past later : Past) (k : ℕ) → ((r : Revision) → IsSettledDraw past k r → IsSettledDraw later k r) → is_at_most (local begin past k) (local begin later k) ≡ true
local_grows begin past later k kept = by (local_is begin past k)
  where
    by : (local begin past k ≡ begin_of begin k) ⊎ IsSettledDraw past k (local begin past k) → is_at_most (local begin past k) (local begin later k) ≡ true
    by (inl e) = subst (λ (x : Revision). is_at_most x (local begin later k) ≡ true) (sym e) (local_first begin later k)
    by (inr s) = local_each begin later k (local begin past k) (kept (local begin past k) s)

-- a drawn revision is at most the last time of its node, and after what that begins from
abbrev pub AreTimed : Begin → Past → Type 0
AreTimed begin past = (o : Revision) → is_drawn past o ≡ true → (o.time ≤ last_draw_time past o.cluster) × (is_before (begin_of begin o.cluster) o ≡ true)

-- nothing that is ahead is at most the local revision
pub local_behind : {A : Type 0} (begin : Begin) (past : Past) (k : ℕ) (o : Revision) → AreTimed begin past → o.cluster ≡ k → IsAhead begin past o → is_at_most o (local begin past k) ≡ true → A
local_behind {A = A} begin past k o timed same ahead h = by (local_is begin past k) ahead
  where
    begun : local begin past k ≡ begin_of begin k → is_before (begin_of begin o.cluster) o ≡ true → A
    begun e later = before_not (begin_of begin k) o (subst (λ (j : ℕ). is_before (begin_of begin j) o ≡ true) same later) (subst (λ (x : Revision). is_at_most o x ≡ true) e h)

    by : (local begin past k ≡ begin_of begin k) ⊎ IsSettledDraw past k (local begin past k) → IsAhead begin past o → A
    by (inl e) (inl flies) = begun e (timed o (and_both (is_drawn past o) _ flies).0).1
    by (inl e) (inr late) = begun e late.1
    by (inr s) (inl flies) = before_not (local begin past k) o (s.below o flies same) h
    by (inr s) (inr late) =
        let t = subst (λ (j : ℕ). (local begin past k).time ≤ last_draw_time past j) (s.cluster ∙ sym same) (timed (local begin past k) s.drawn).0 in
        let l = late.0 in
        later_than o (local begin past k) (omega arith) h

-- ---- heads

pub head_seen : (clusters : ℕ) (begin : Begin) (past : Past) (k : ℕ) (o : Revision) → 1 ≤ k → sees (head_of clusters begin past k) o ≡ true → (sees (last_in clusters begin past k) o ≡ true) ⊎ ((o.cluster ≡ k) × (is_at_most o (local begin past k) ≡ true))
head_seen clusters begin past k o low h = by (seen_before (last_in clusters begin past k) (local begin past k) o (subst (λ (j : ℕ). 1 ≤ j) (sym (local_cluster begin past k)) low) h)
  where
    by : (sees (last_in clusters begin past k) o ≡ true) ⊎ ((o.cluster ≡ (local begin past k).cluster) × (is_at_most o (local begin past k) ≡ true)) → (sees (last_in clusters begin past k) o ≡ true) ⊎ ((o.cluster ≡ k) × (is_at_most o (local begin past k) ≡ true))
    by (inl s) = inl s
    by (inr p) = inr (p.0 ∙ local_cluster begin past k, p.1)

pub head_learned : (clusters : ℕ) (begin : Begin) (past : Past) (k : ℕ) (o : Revision) → 1 ≤ k → sees (last_in clusters begin past k) o ≡ true → (o.cluster ≡ k → is_at_most o (local begin past k) ≡ true) → sees (head_of clusters begin past k) o ≡ true
head_learned clusters begin past k o low h own = still_seen (last_in clusters begin past k) (local begin past k) o (subst (λ (j : ℕ). 1 ≤ j) (sym (local_cluster begin past k)) low) h (λ e. own (e ∙ local_cluster begin past k))

pub head_own : (clusters : ℕ) (begin : Begin) (past : Past) (k : ℕ) (o : Revision) → 1 ≤ k → k ≤ 8 → length (last_in clusters begin past k) ≡ 8 → o.cluster ≡ k → is_at_most o (local begin past k) ≡ true → sees (head_of clusters begin past k) o ≡ true
head_own clusters begin past k o low high eight same h = seen_own (last_in clusters begin past k) (local begin past k) o (subst (λ (j : ℕ). 1 ≤ j) (sym (local_cluster begin past k)) low) (subst (λ (j : ℕ). j ≤ 8) (sym (local_cluster begin past k)) high) eight (same ∙ sym (local_cluster begin past k)) h
