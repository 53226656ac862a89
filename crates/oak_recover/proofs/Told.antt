-- Once the root is told, a recovery tells what the root says.
use Rattle.std.proofs.Common.{◌≡◌, ◌≢◌, ℕ, zero, suc, ◌+◌, ◌-◌, ◌<◌, ◌≤◌, Bool, true, false, cond, not, ◌||◌, ◌⊎◌, inl, inr, List, [], ◌∷◌, length, Option, None, Some, refl, sym, ap, subst, ◌∙◌, arith}
use Rattle.std.specs.Prelude.{◌==◌, nat_le, nat_lt, slice_get, slice_set}
use Rattle.std.specs.List.{AllByRecursion}
use Rattle.std.specs.List.Sorted.{IsStrictlySortedBy}
use Rattle.std.specs.Option.{option_flatten, option_map_or}
use Rattle.std.specs.Ordering.{is_le, is_lt, nat_cmp, ordering_then}
use Rattle.std.specs.declared.cmp.Ordering.{Ordering}
use Rattle.std.specs.declared.cmp.Ordering.TheVariants.{Less, Equal, Greater}
use Rattle.std.proofs.lemmas.Bool.{eqb-true}
use Rattle.std.proofs.lemmas.Bool.Decides.{nat_tests}
use Rattle.std.proofs.lemmas.Cmp.{tied_itself}
use mathlib.Core.Bool.{false≢true}
use Rattle.jr_path.specs.declared.path.Path.{Path}
use Rattle.jr_path.specs.declared.path.DocId.TheVariants as id
use Rattle.jr_path.proofs.Orders.{id_total}
use Rattle.jr_rev.specs.declared.revision.Revision.{Revision}
use Rattle.jr_rev.specs.Revisions.{is_at_most, is_before, revision_cmp}
use Rattle.jr_rev.specs.Vectors.{Entries, entry, raised, sees, with_entry}
use Rattle.jr_rev.proofs.Order.{revision_exact}
use Rattle.oak_doc.specs.declared.document.Document.{Document}
use Rattle.oak_doc.specs.declared.asks.Ask.TheVariants as ask
use Rattle.oak_doc.specs.declared.asks.Reply.{Reply}
use Rattle.oak_doc.specs.declared.asks.Reply.TheVariants as reply
use Rattle.oak_sync.specs.Upward.{backward_cmp}
use Rattle.oak_recover.specs.Recovering.{Feeds, back_stage, due, recovery_end, fed, fed_update, publish_op, stage_of, document_told, told_op, upto_after, upto_told}
use Rattle.oak_recover.specs.Told.{AllTellTheRoot, IsAtRoot}
use Rattle.oak_recover.specs.declared.recovery.Recovery.{Recovery}
use Rattle.oak_recover.specs.declared.recovery.Step.{Step}
use Rattle.oak_recover.specs.declared.recovery.Step.TheVariants as step
use Rattle.oak_recover.specs.declared.stage.Stage.TheVariants as stage

-- ---- the entry that is raised

set_there : (v : Entries) (i : ℕ) (x : Option Revision) → i < length v → slice_get (slice_set v i x) i ≡ Some x
set_there [] i x h = absurd (omega arith)
set_there (e ∷ v) zero x h = refl
set_there (e ∷ v) (suc i) x h = set_there v i x (omega arith)

positive : (k : ℕ) → 1 ≤ k → (k == 0) ≡ false
positive k h = grind (arith, nat_tests)

lower : (k n : ℕ) → k ≤ n → nat_le k n ≡ true
lower k n h = grind (arith, nat_tests)

own_set : (v : Entries) (u : Revision) → 1 ≤ u.cluster → u.cluster ≤ length v → entry (with_entry v u) u.cluster ≡ Some u
own_set v u low within =
    ap (λ b. cond b None (option_flatten (slice_get (with_entry v u) (u.cluster - 1)))) (positive u.cluster low)
    ∙ ap option_flatten (set_there v (u.cluster - 1) (Some u) (omega (arith, low, within)))

-- it is the later one of the two
raised_own : (v : Entries) (u : Revision) → 1 ≤ u.cluster → u.cluster ≤ 8 → length v ≡ 8 → entry (raised v u) u.cluster ≡ Some (option_map_or (λ r. cond (is_before u r) r u) (entry v u.cluster) u)
raised_own v u low high eight = by (u.cluster == 0) refl (nat_le u.cluster 8) refl (sees v u) refl
  where
    top : (x : Option Revision) → option_map_or (is_at_most u) x false ≡ true → x ≡ Some (option_map_or (λ r. cond (is_before u r) r u) x u)
    top None s = absurd (false≢true s)
    top (Some e) s = ap Some (at (revision_cmp u e) refl s)
      where
        at : (o : Ordering) → revision_cmp u e ≡ o → is_le o ≡ true → e ≡ cond (is_lt o) e u
        at Less i s = refl
        at Equal i s = sym (revision_exact u e i)
        at Greater i s = absurd (false≢true s)

    under : (x : Option Revision) → option_map_or (is_at_most u) x false ≡ false → u ≡ option_map_or (λ r. cond (is_before u r) r u) x u
    under None s = refl
    under (Some e) s = at (revision_cmp u e) s
      where
        at : (o : Ordering) → is_le o ≡ false → u ≡ cond (is_lt o) e u
        at Less s = absurd (false≢true (sym s))
        at Equal s = refl
        at Greater s = refl

    by : (a : Bool) → (u.cluster == 0) ≡ a → (b : Bool) → nat_le u.cluster 8 ≡ b → (c : Bool) → sees v u ≡ c → entry (cond (a || not b || c) v (with_entry v u)) u.cluster ≡ Some (option_map_or (λ r. cond (is_before u r) r u) (entry v u.cluster) u)
    by true e b f c k = absurd (false≢true (sym (positive u.cluster low) ∙ e))
    by false e false f c k = absurd (false≢true (sym f ∙ lower u.cluster 8 high))
    by false e true f true k = top (entry v u.cluster) k
    by false e true f false k = own_set v u low (omega (arith, high, eight)) ∙ ap Some (under (entry v u.cluster) k)

raised_entry : (v : Entries) (u : Revision) (k : ℕ) → u.cluster ≡ k → 1 ≤ k → k ≤ 8 → length v ≡ 8 → entry (raised v u) k ≡ Some (option_map_or (λ r. cond (is_before u r) r u) (entry v k) u)
raised_entry v u k own low high eight =
    subst (λ (j : ℕ). entry (raised v u) j ≡ Some (option_map_or (λ r. cond (is_before u r) r u) (entry v j) u)) own
    (raised_own v u (subst (λ (j : ℕ). 1 ≤ j) (sym own) low) (subst (λ (j : ℕ). j ≤ 8) (sym own) high) eight)

-- ---- the root is the last one

root_is : (p : Path) → (length p == 0) ≡ true → p ≡ []
root_is [] h = refl
root_is (n ∷ p) h = absurd (omega (arith, eqb-true (length (n ∷ p)) 0 h))

none_behind_root : (p : Path) → backward_cmp [] p ≢ Less
none_behind_root [] h = let e : Less ≡ Equal = sym h ∙ tied_itself id_total (id.Node []) in cc
none_behind_root (n ∷ p) h = greater_first (nat_cmp (length (n ∷ p)) 0) _ (above_none (length p)) h
  where
    above_none : (k : ℕ) → nat_cmp (suc k) 0 ≡ Greater
    above_none k = grind arith

    greater_first : (o o' : Ordering) → o ≡ Greater → ordering_then o o' ≢ Less
    greater_first Less o' e k = cc
    greater_first Equal o' e k = cc
    greater_first Greater o' e k = cc

within : (ps : List Path) (w : ℕ) (p : Path) → slice_get ps w ≡ Some p → nat_lt w (length ps) ≡ true
within [] zero p e = cc
within [] (suc w) p e = cc
within (q ∷ ps) zero p e = grind (arith, nat_tests)
within (q ∷ ps) (suc w) p e = let rest = within ps w p e in grind (arith, nat_tests)

none_behind : (ps : List Path) → IsStrictlySortedBy backward_cmp ps → (w : ℕ) → slice_get ps w ≡ Some [] → nat_lt (w + 1) (length ps) ≡ false
unfolding IsStrictlySortedBy
none_behind [] h w e = grind (arith, nat_tests)
none_behind (p ∷ ps) h zero e = by ps h.0
  where
    root : p ≡ []
    root = ap (λ o. option_map_or (λ (q : Path). q) o p) e

    by : (ps : List Path) → AllByRecursion (λ y. backward_cmp p y ≡ Less) ps → nat_lt (0 + 1) (length (p ∷ ps)) ≡ false
    by [] all = grind (arith, nat_tests)
    by (q ∷ ps) all = absurd (none_behind_root q (subst (λ (x : Path). backward_cmp x q ≡ Less) root all.0))
none_behind (p ∷ ps) h (suc w) e = let rest = none_behind ps h.1 w e in grind (arith, nat_tests)

-- ---- where it stands, and what it keeps

at_root : (s : Recovery) → stage_of s ≡ stage.Publish → (s.step ≡ step.Back) × (slice_get s.paths s.written ≡ Some [])
at_root s is = by s.step is
  where
    root : (p : Path) (b : Bool) → (length p == 0) ≡ b → cond b stage.Publish stage.Write ≡ stage.Publish → p ≡ []
    root p true e h = root_is p e
    root p false e h = cc

    there : (o : Option Path) → back_stage o ≡ stage.Publish → o ≡ Some []
    there None h = cc
    there (Some p) h = ap Some (root p (length p == 0) refl h)

    by : (x : Step) → stage_of (record s { step = x }) ≡ stage.Publish → (x ≡ step.Back) × (slice_get s.paths s.written ≡ Some [])
    by step.Root h = cc
    by step.First h = cc
    by step.Next h = cc
    by step.Status h = cc
    by (step.Undo r) h = cc
    by step.Memory h = cc
    by step.Back h = (refl, there (slice_get s.paths s.written) h)
    by step.Settings h = cc
    by step.Done h = cc

-- once the root is told, what is published stands
IsPast : Recovery → Type 0
IsPast s = (s.step ≡ step.Settings) ⊎ (s.step ≡ step.Done)

Stays : List Path → Recovery → Reply → Type 0
Stays up s r = IsPast (fed up s r) × ((fed up s r).upto ≡ s.upto)

stays : (up : List Path) (s : Recovery) (r : Reply) → IsPast s → Stays up s r
unfolding IsPast Stays
stays up s r (inl e) = subst (λ (x : Step). Stays up (record s { step = x }) r) (sym e) (settings r)
  where
    settings : (r : Reply) → Stays up (record s { step = step.Settings }) r
    settings (reply.Found f) = (inl refl, refl)
    settings (reply.Updated b) = (inr refl, refl)
    settings (reply.Unmet c k) = (inl refl, refl)
    settings reply.Absent = (inr refl, refl)
    settings reply.NoMemory = (inl refl, refl)
    settings reply.Undone = (inl refl, refl)
    settings (reply.Removed o) = (inl refl, refl)
    settings reply.Finished = (inl refl, refl)
    settings reply.Learnt = (inl refl, refl)
    settings (reply.Pins h w ps) = (inl refl, refl)
    settings reply.Gone = (inl refl, refl)
    settings reply.Recovered = (inl refl, refl)
stays up s r (inr e) = subst (λ (x : Step). Stays up (record s { step = x }) r) (sym e) (done r)
  where
    done : (r : Reply) → Stays up (record s { step = step.Done }) r
    done (reply.Found f) = (inr refl, refl)
    done (reply.Updated b) = (inr refl, refl)
    done (reply.Unmet c k) = (inr refl, refl)
    done reply.Absent = (inr refl, refl)
    done reply.NoMemory = (inr refl, refl)
    done reply.Undone = (inr refl, refl)
    done (reply.Removed o) = (inr refl, refl)
    done reply.Finished = (inr refl, refl)
    done reply.Learnt = (inr refl, refl)
    done (reply.Pins h w ps) = (inr refl, refl)
    done reply.Gone = (inr refl, refl)
    done reply.Recovered = (inr refl, refl)

all_stay : (answers : ℕ → Reply) (run : ℕ → Recovery) → IsPast (run 0) → ((n : ℕ) → Feeds (run n) (answers n) (run (suc n))) → (n : ℕ) → IsPast (run n) × ((run n).upto ≡ (run 0).upto)
unfolding Stays
all_stay answers run past next zero = (past, refl)
all_stay answers run past next (suc n) =
    let rest = all_stay answers run past next n in
    let one = stays (run (suc n)).paths (run n) (answers n) rest.0 in
    let is : run (suc n) ≡ fed (run (suc n)).paths (run n) (answers n) = (next n).fed in
    (subst (λ (x : Recovery). IsPast x) (sym is) one.0, ap (λ (x : Recovery). x.upto) is ∙ (one.1 ∙ rest.1))

-- what it keeps after the root
behind_root : (s t : Recovery) (d : Document) → IsAtRoot s → Feeds s (reply.Updated (Some d)) t → t ≡ record s { upto = upto_told s.after.cluster s.upto (Some d); written = s.written + 1; step = step.Settings }
behind_root s t d at feeds =
    feeds.fed
    ∙ (ap (λ (x : Step). fed_update (record s { step = x }) (Some d)) is.0
    ∙ (ap (λ b. cond b (document_told (record s { step = step.Back }) (Some d)) (record s { step = step.Back })) (within s.paths s.written [] is.1)
    ∙ (ap (λ b. record s { upto = upto_after (record s { step = step.Back }) (Some d); written = s.written + 1; step = cond b step.Back step.Settings }) (none_behind s.paths at.upward.ordered s.written is.1)
    ∙ ap (λ (u : Revision). record s { upto = u; written = s.written + 1; step = step.Settings }) upto_is)))
  where
    is : (s.step ≡ step.Back) × (slice_get s.paths s.written ≡ Some [])
    is = at_root s at.publishes

    upto_is : upto_after (record s { step = step.Back }) (Some d) ≡ upto_told s.after.cluster s.upto (Some d)
    upto_is = ap (λ (o : Option Path). option_map_or (λ p. cond (length p == 0) (upto_told s.after.cluster s.upto (Some d)) s.upto) o s.upto) is.1

pub all_tell : AllTellTheRoot
unfolding IsPast
all_tell s t d at vector feeds = record { asked = asked; said = said; kept = kept }
  where
    is : (s.step ≡ step.Back) × (slice_get s.paths s.written ≡ Some [])
    is = at_root s at.publishes

    t_is : t ≡ record s { upto = upto_told s.after.cluster s.upto (Some d); written = s.written + 1; step = step.Settings }
    t_is = behind_root s t d at feeds

    asked : due s ≡ ask.Update (publish_op s.upto)
    asked =
        ap (λ (x : Step). due (record s { step = x })) is.0
        ∙ ap (λ (o : Option Path). option_map_or (λ p. ask.Update (told_op p s.upto)) o ask.Done) is.1

    said : (number : ℕ) → entry (raised d.last_rev s.upto) s.after.cluster ≡ Some t.upto
    said number = raised_entry d.last_rev s.upto s.after.cluster at.own at.low at.high vector.eight ∙ ap (λ (x : Recovery). Some x.upto) (sym t_is)

    kept : (answers : ℕ → Reply) (run : ℕ → Recovery) → run 0 ≡ t → ((n : ℕ) → Feeds (run n) (answers n) (run (suc n))) → (n : ℕ) → (recovery_end (run n)).upto ≡ t.upto
    kept answers run first next n = (all_stay answers run (subst (λ (x : Recovery). (x.step ≡ step.Settings) ⊎ (x.step ≡ step.Done)) (sym (first ∙ t_is)) (inl refl)) next n).1 ∙ ap (λ (x : Recovery). x.upto) first
