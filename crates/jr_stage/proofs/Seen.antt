-- What the head of a session's cluster node sees of its commits, event after event.
use Rattle.std.proofs.Common.{◌≡◌, ◌⊎◌, inl, inr, ℕ, Bool, true, false, cond, not, ◌||◌, ◌&&◌, Some, None, Option, List, [], ◌∷◌, is_some, refl, sym, ap, ◌∙◌, subst, arith}
use Rattle.std.specs.Prelude.{◌==◌, slice_get}
use Rattle.std.specs.Option.{option_map_or}
use Rattle.std.specs.List.{list_all, list_any}
use Rattle.std.specs.declared.cmp.Ordering.{Ordering}
use Rattle.std.specs.declared.cmp.Ordering.TheVariants.{Less, Equal, Greater}
use Rattle.std.specs.Ordering.{is_eq, is_le, is_lt, ordering_reverse}
use mathlib.Core.Bool.{false≢true}
use Rattle.jr_rev.specs.declared.revision.Revision.{Revision}
use Rattle.jr_rev.specs.Revisions.{is_at_most, is_before, is_same, revision_cmp}
use Rattle.jr_rev.specs.Vectors.{sees, start_of}
use Rattle.jr_rev.proofs.Order.{revision_total, same_revision}
use Rattle.oak_machine.specs.declared.event.Draw.{Draw}
use Rattle.oak_machine.specs.declared.event.Event.{Event}
use Rattle.oak_machine.specs.declared.event.Event.TheVariants as event
use Rattle.oak_machine.specs.History.{Past}
use Rattle.oak_machine.specs.Commits.{draw_of, is_committed, is_drawn, is_ended, is_in_flight}
use Rattle.oak_machine.specs.Heads.{head_of, local}
use Rattle.oak_machine.specs.Laws.{Says, Starts, is_revision_of}
use Rattle.oak_machine.specs.Runs.{AreNodes, IsNode, IsRunOf}
use Rattle.oak_machine.proofs.Induction.{first_of_both}
use Rattle.core_heads.proofs.Below.{below_seen}
use Rattle.core_heads.proofs.Locals.{IsSettledDraw, head_own, local_each, local_grows, local_is, local_first}
use Rattle.core_heads.proofs.Runs.{fresh_run, grow_run, sound_run}
use Rattle.jr_script.specs.declared.script.Script.{Script}
use Rattle.jr_stage.specs.Places.{draws_of, is_unseen, is_waiting}
use Rattle.jr_stage.proofs.Flying.{halves, none_is_some, same_itself}

or_later : (a b : Bool) → b ≡ true → (a || b) ≡ true
or_later true b h = refl
or_later false b h = h

-- ---- the order of revisions

-- two revisions, each at most the other, are the same
both_at_most : (a b : Revision) → is_at_most a b ≡ true → is_at_most b a ≡ true → is_same a b ≡ true
both_at_most a b h k = by (revision_cmp a b) h (sym (ap is_le (revision_total.antisymm b a)) ∙ k)
  where
    by : (o : Ordering) → is_le o ≡ true → is_le (ordering_reverse o) ≡ true → is_eq o ≡ true
    by Less h k = absurd (false≢true k)
    by Equal h k = refl
    by Greater h k = absurd (false≢true h)

not_at_most_before : (a b : Revision) → is_at_most a b ≡ false → is_before b a ≡ true
not_at_most_before a b h = ap is_lt (revision_total.antisymm b a) ∙ by (revision_cmp a b) h
  where
    by : (o : Ordering) → is_le o ≡ false → is_lt (ordering_reverse o) ≡ true
    by Less h = absurd (false≢true (sym h))
    by Equal h = absurd (false≢true (sym h))
    by Greater h = refl

module _ (clusters : ℕ) (sessions : List ℕ) (nodes : AreNodes clusters sessions) (starts : Starts) (says : Says) where
  -- ---- what was drawn

  -- what hasn't been drawn has not ended
  pub unended : (past : Past) → IsRunOf starts says clusters sessions None past → (r : Revision) → is_drawn past r ≡ false → is_ended past r ≡ false
  unended [] run r none = refl
  unended (event.End q ∷ past) run r none = elim (is_same r q) as (λ b. is_same r q ≡ b → (b || is_ended past r) ≡ false) [
    | true ↦ λ same. absurd (false≢true (sym none ∙ subst (λ (x : Revision). is_drawn past x ≡ true) (sym (same_revision r q same)) (first_of_both (is_drawn past q) _ run.0)))
    | false ↦ λ same. unended past run.1 r none
  ] refl
  unended (event.Draw d ∷ past) run r none = unended past run.1 r (by (is_same r d.revision) none)
    where
      by : (b : Bool) → is_some (cond b (Some d) (draw_of past r)) ≡ false → is_drawn past r ≡ false
      by true k = absurd (false≢true (sym k))
      by false k = k
  unended (e ∷ past) run r none = unended past run.1 r none

  -- a later draw hides no earlier one
  pub known : (past : Past) (d : Draw) → IsRunOf starts says clusters sessions None (event.Draw d ∷ past) → (r : Revision) (f : Draw) → draw_of past r ≡ Some f → draw_of (event.Draw d ∷ past) r ≡ Some f
  known past d run r f h = by (is_same r d.revision) refl
    where
      by : (b : Bool) → is_same r d.revision ≡ b → cond b (Some d) (draw_of past r) ≡ Some f
      by true same = none_is_some f (sym (fresh_run clusters sessions nodes None starts says d past run).fresh ∙ subst (λ (x : Revision). draw_of past x ≡ Some f) (same_revision r d.revision same) h)
      by false same = h

  pub known_of : (past : Past) (d : Draw) → IsRunOf starts says clusters sessions None (event.Draw d ∷ past) → (s : ℕ) (r : Revision) → is_revision_of past s r ≡ true → is_revision_of (event.Draw d ∷ past) s r ≡ true
  known_of past d run s r h = by (draw_of past r) refl h
    where
      by : (o : Option Draw) → draw_of past r ≡ o → option_map_or (λ x. x.session == s) o false ≡ true → is_revision_of (event.Draw d ∷ past) s r ≡ true
      by None is k = absurd (false≢true k)
      by (Some f) is k = ap (λ (o : Option Draw). option_map_or (λ x. x.session == s) o false) (known past d run r f is) ∙ k

  -- each draw of s is one of its revisions
  pub all_own : (past : Past) → IsRunOf starts says clusters sessions None past → (s : ℕ) → list_all (λ d. is_revision_of past s d.revision) (draws_of past s) ≡ true
  all_own [] run s = refl
  all_own (event.Draw f ∷ past) run s = elim (f.session == s) as (λ b. (f.session == s) ≡ b → list_all (λ d. is_revision_of (event.Draw f ∷ past) s d.revision) (cond b (f ∷ draws_of past s) (draws_of past s)) ≡ true) [
    | true ↦ λ own. and_true (is_revision_of (event.Draw f ∷ past) s f.revision) _ (ap (λ b. option_map_or (λ x. x.session == s) (cond b (Some f) (draw_of past f.revision)) false) (same_itself f.revision) ∙ own) (more (draws_of past s) (all_own past run.1 s))
    | false ↦ λ own. more (draws_of past s) (all_own past run.1 s)
  ] refl
    where
      and_true : (a b : Bool) → a ≡ true → b ≡ true → (a && b) ≡ true
      and_true true b h k = k
      and_true false b h k = absurd (false≢true h)

      more : (list : List Draw) → list_all (λ d. is_revision_of past s d.revision) list ≡ true → list_all (λ d. is_revision_of (event.Draw f ∷ past) s d.revision) list ≡ true
      more [] h = refl
      more (d ∷ list) h = let p = halves (is_revision_of past s d.revision) _ h in and_true (is_revision_of (event.Draw f ∷ past) s d.revision) _ (known_of past f run s d.revision p.0) (more list p.1)
  all_own (e ∷ past) run s = all_own past run.1 s

  -- the cluster node of what a session drew is one, and the session's
  pub node_of : (past : Past) → IsRunOf starts says clusters sessions None past → (s : ℕ) (r : Revision) → is_revision_of past s r ≡ true → IsNode clusters r.cluster
  node_of past run s r h = by (draw_of past r) refl h
    where
      by : (o : Option Draw) → draw_of past r ≡ o → option_map_or (λ x. x.session == s) o false ≡ true → IsNode clusters r.cluster
      by None is k = absurd (false≢true k)
      by (Some d) is k = ((sound_run clusters sessions nodes None starts says past run).draws r d is).node

  pub cluster_of : (past : Past) → IsRunOf starts says clusters sessions None past → (s : ℕ) (r : Revision) → is_revision_of past s r ≡ true → slice_get sessions s ≡ Some r.cluster
  cluster_of [] run s r h = absurd (false≢true h)
  cluster_of (event.Draw d ∷ past) run s r h = by (λ k. cluster_of past run.1 s r k) (is_same r d.revision) refl h
    where
      equal : (a b : ℕ) → (a == b) ≡ true → a ≡ b
      equal a b h = grind (arith, Rattle.std.proofs.lemmas.Bool.Decides.nat_tests)

      by : (is_revision_of past s r ≡ true → slice_get sessions s ≡ Some r.cluster) → (b : Bool) → is_same r d.revision ≡ b → option_map_or (λ x. x.session == s) (cond b (Some d) (draw_of past r)) false ≡ true → slice_get sessions s ≡ Some r.cluster
      by rest true same k = subst (λ (x : Revision). slice_get sessions s ≡ Some x.cluster) (sym (same_revision r d.revision same)) (subst (λ (n : ℕ). slice_get sessions n ≡ Some d.revision.cluster) (equal d.session s k) run.0.cluster)
      by rest false same k = rest k
  cluster_of (e ∷ past) run s r h = cluster_of past run.1 s r h

  -- ---- a head that moves

  module _ (past : Past) (q : Revision) (run : IsRunOf starts says clusters sessions None (event.End q ∷ past)) (node : IsNode clusters q.cluster) where
    abbrev later : Past
    later = event.End q ∷ past

    -- what flies later flew before
    flew : (o : Revision) → is_in_flight later o ≡ true → is_in_flight past o ≡ true
    flew o flies = by (is_drawn past o) (is_same o q) (is_ended past o) flies
      where
        by : (d a b : Bool) → (d && not (a || b)) ≡ true → (d && not b) ≡ true
        by true false b h = h
        by true true b h = absurd (false≢true h)
        by false a b h = absurd (false≢true h)

    settled_later : (r : Revision) → IsSettledDraw past q.cluster r → IsSettledDraw later q.cluster r
    settled_later r h = record { drawn = h.drawn; cluster = h.cluster; below = λ o flies same. h.below o (flew o flies) same }

    -- a head that moves at the end of a revision sees it
    pub moving_reaches : is_same (local None later q.cluster) (local None past q.cluster) ≡ false → is_at_most q (local None later q.cluster) ≡ true
    moving_reaches moves = elim (is_at_most q (local None later q.cluster)) as (λ b. is_at_most q (local None later q.cluster) ≡ b → b ≡ true) [
      | true ↦ λ h. refl
      | false ↦ λ h. absurd (false≢true (sym moves ∙ both_at_most (local None later q.cluster) (local None past q.cluster) (stays h (local_is None later q.cluster)) (local_grows None past later q.cluster settled_later)))
    ] refl
      where
        stays : is_at_most q (local None later q.cluster) ≡ false → (local None later q.cluster ≡ start_of q.cluster) ⊎ IsSettledDraw later q.cluster (local None later q.cluster) → is_at_most (local None later q.cluster) (local None past q.cluster) ≡ true
        stays h (inl start) = subst (λ (x : Revision). is_at_most x (local None past q.cluster) ≡ true) (sym start) (local_first None past q.cluster)
        stays h (inr settled) = local_each None past q.cluster (local None later q.cluster) (record {
          drawn = settled.drawn;
          cluster = settled.cluster;
          below = λ o flies same. before o flies same (is_same o q) refl;
        })
          where
            before : (o : Revision) → is_in_flight past o ≡ true → o.cluster ≡ q.cluster → (b : Bool) → is_same o q ≡ b → is_before (local None later q.cluster) o ≡ true
            before o flies same true it = subst (λ (x : Revision). is_before (local None later q.cluster) x ≡ true) (sym (same_revision o q it)) (not_at_most_before q (local None later q.cluster) h)
            before o flies same false it = settled.below o (still (is_drawn past o) (is_ended past o) flies) same
              where
                still : (d b : Bool) → (d && not b) ≡ true → (is_drawn past o && not (is_same o q || is_ended past o)) ≡ true
                still d b k = ap (λ c. is_drawn past o && not (c || is_ended past o)) it ∙ flies

    pub moving_sees : is_same (local None later q.cluster) (local None past q.cluster) ≡ false → sees (head_of clusters None later q.cluster) q ≡ true
    moving_sees moves = head_own clusters None later q.cluster q node.0 (let e = nodes.eight in let n = node.1 in omega arith)
        ((sound_run clusters sessions nodes None starts says later run).ins q.cluster node).eight refl (moving_reaches moves)

  -- ---- what isn't seen

  -- it is committed and has ended, and the head doesn't see it
  unseen_parts : (c e v : Bool) → (c && e && not v) ≡ true → (c ≡ true) × (e ≡ true) × (v ≡ false)
  unseen_parts true true false h = (refl, refl, refl)
  unseen_parts true true true h = absurd (false≢true h)
  unseen_parts true false v h = absurd (false≢true h)
  unseen_parts false e v h = absurd (false≢true h)

  unseen_all : (c e v : Bool) → c ≡ true → e ≡ true → v ≡ false → (c && e && not v) ≡ true
  unseen_all c e v h k l = ap (λ x. x && e && not v) h ∙ (ap (λ x. x && not v) k ∙ ap not l)

  module _ (script : Script) (same_clusters : script.clusters ≡ clusters) where
    head_at : (past : Past) (r : Revision) → sees (head_of script.clusters None past r.cluster) r ≡ sees (head_of clusters None past r.cluster) r
    head_at past r = ap (λ n. sees (head_of n None past r.cluster) r) same_clusters

    -- a head sees what it saw
    still_unseen : (e : Event) (past : Past) → IsRunOf starts says clusters sessions None (e ∷ past) → (r : Revision) → IsNode clusters r.cluster → sees (head_of script.clusters None (e ∷ past) r.cluster) r ≡ false → sees (head_of script.clusters None past r.cluster) r ≡ false
    still_unseen e past run r node h = by (sees (head_of script.clusters None past r.cluster) r) refl
      where
        by : (b : Bool) → sees (head_of script.clusters None past r.cluster) r ≡ b → b ≡ false
        by false k = refl
        by true k = absurd (false≢true (sym h ∙ (head_at (e ∷ past) r ∙ below_seen _ _ r (grow_run clusters sessions nodes None starts says (e ∷ []) past run r.cluster node) (sym (head_at past r) ∙ k))))

    -- what isn't seen once an event more has come wasn't seen before, or has ended with it
    abbrev pub WasUnseen : Event → Past → ℕ → Revision → Type 0
    WasUnseen e past s r = ((is_revision_of past s r ≡ true) × (is_unseen script past r ≡ true)) ⊎ ((e ≡ event.End r) × (is_revision_of past s r ≡ true) × (is_committed past r ≡ true))

    module _ (past : Past) (s : ℕ) (r : Revision) where
      plain : (e : Event) → IsRunOf starts says clusters sessions None (e ∷ past) → is_revision_of past s r ≡ true → is_committed past r ≡ true → is_ended past r ≡ true → sees (head_of script.clusters None (e ∷ past) r.cluster) r ≡ false → WasUnseen e past s r
      plain e run own committed ended unseen = inl (own, unseen_all _ _ _ committed ended (still_unseen e past run r (node_of past run.1 s r own) unseen))

      pub was_unseen : (e : Event) → IsRunOf starts says clusters sessions None (e ∷ past) → is_revision_of (e ∷ past) s r ≡ true → is_unseen script (e ∷ past) r ≡ true → WasUnseen e past s r
      was_unseen (event.Draw d) run own h = by (is_same r d.revision) refl own
        where
          parts : (is_committed past r ≡ true) × (is_ended past r ≡ true) × (sees (head_of script.clusters None (event.Draw d ∷ past) r.cluster) r ≡ false)
          parts = unseen_parts _ _ _ h

          ended : is_ended past r ≡ true
          ended = parts.1

          by : (b : Bool) → is_same r d.revision ≡ b → option_map_or (λ x. x.session == s) (cond b (Some d) (draw_of past r)) false ≡ true → WasUnseen (event.Draw d) past s r
          by true same k =
              let fresh = (fresh_run clusters sessions nodes None starts says d past run).fresh in
              absurd (false≢true (sym (unended past run.1 r (ap is_some (ap (draw_of past) (same_revision r d.revision same) ∙ fresh))) ∙ ended))
          by false same k = plain (event.Draw d) run k parts.0 ended parts.2
      was_unseen (event.Commit q) run own h = by (is_same r q) refl (unseen_parts _ _ _ h)
        where
          by : (b : Bool) → is_same r q ≡ b → ((b || is_committed past r) ≡ true) × (is_ended past r ≡ true) × (sees (head_of script.clusters None (event.Commit q ∷ past) r.cluster) r ≡ false) → WasUnseen (event.Commit q) past s r
          by true same (c, ended, v) =
              let flies = subst (λ (x : Revision). is_in_flight past x ≡ true) (sym (same_revision r q same)) run.0.open_.in_flight in
              absurd (false≢true (sym (ap not ended) ∙ (halves (is_drawn past r) _ flies).1))
          by false same (c, ended, v) = plain (event.Commit q) run own c ended v
      was_unseen (event.End q) run own h = by (is_same r q) refl (unseen_parts _ _ _ h)
        where
          by : (b : Bool) → is_same r q ≡ b → (is_committed past r ≡ true) × ((b || is_ended past r) ≡ true) × (sees (head_of script.clusters None (event.End q ∷ past) r.cluster) r ≡ false) → WasUnseen (event.End q) past s r
          by true same (c, ended, v) = inr (ap event.End (sym (same_revision r q same)), own, c)
          by false same (c, ended, v) = plain (event.End q) run own c ended v
      was_unseen e run own h = let p = unseen_parts _ _ _ h in plain e run own p.0 p.1 p.2

    -- where the head sees each commit of s that has ended, s doesn't wait
    pub not_waiting : (past : Past) → IsRunOf starts says clusters sessions None past → (s : ℕ) → ((r : Revision) → is_revision_of past s r ≡ true → is_unseen script past r ≡ false) → is_waiting script past s ≡ false
    not_waiting past run s seen = by (draws_of past s) (all_own past run s)
      where
        by : (list : List Draw) → list_all (λ d. is_revision_of past s d.revision) list ≡ true → list_any (λ d. is_unseen script past d.revision) list ≡ false
        by [] h = refl
        by (d ∷ list) h = let p = halves (is_revision_of past s d.revision) _ h in ap (λ b. b || list_any (λ d. is_unseen script past d.revision) list) (seen d.revision p.0) ∙ by list p.1

    -- and where it doesn't see one, s waits
    pub waits_for : (past : Past) (s : ℕ) (r : Revision) → is_revision_of past s r ≡ true → is_unseen script past r ≡ true → is_waiting script past s ≡ true
    waits_for past s r own unseen = among past own
      where
        among : (list : Past) → is_revision_of list s r ≡ true → list_any (λ d. is_unseen script past d.revision) (draws_of list s) ≡ true
        among [] h = absurd (false≢true h)
        among (event.Draw f ∷ list) h = elim (f.session == s) as (λ b. (f.session == s) ≡ b → list_any (λ d. is_unseen script past d.revision) (cond b (f ∷ draws_of list s) (draws_of list s)) ≡ true) [
          | true ↦ λ mine. elim (is_same r f.revision) as (λ b. is_same r f.revision ≡ b → (is_unseen script past f.revision || list_any (λ d. is_unseen script past d.revision) (draws_of list s)) ≡ true) [
            | true ↦ λ same. ap (λ b. b || list_any (λ d. is_unseen script past d.revision) (draws_of list s)) (subst (λ (x : Revision). is_unseen script past x ≡ true) (same_revision r f.revision same) unseen)
            | false ↦ λ same. or_later (is_unseen script past f.revision) _ (among list (skip same h))
          ] refl
          | false ↦ λ other. among list (behind other (is_same r f.revision) refl h)
        ] refl
          where
            skip : is_same r f.revision ≡ false → is_revision_of (event.Draw f ∷ list) s r ≡ true → is_revision_of list s r ≡ true
            skip same k = sym (ap (λ b. option_map_or (λ x. x.session == s) (cond b (Some f) (draw_of list r)) false) same) ∙ k

            behind : (f.session == s) ≡ false → (b : Bool) → is_same r f.revision ≡ b → is_revision_of (event.Draw f ∷ list) s r ≡ true → is_revision_of list s r ≡ true
            behind other true same k = absurd (false≢true (sym other ∙ (sym (ap (λ b. option_map_or (λ x. x.session == s) (cond b (Some f) (draw_of list r)) false) same) ∙ k)))
            behind other false same k = skip same k
        among (e ∷ list) h = among list h
