-- Each event keeps what the heads keep.
use Rattle.std.proofs.Common.{◌≡◌, ℕ, ◌+◌, ◌-◌, ◌<◌, ◌≤◌, Bool, true, false, cond, not, ◌&&◌, ◌||◌, ◌⊎◌, inl, inr, Some, List, ◌∷◌, length, is_some, refl, sym, ap, subst, ◌∙◌, arith}
use Rattle.std.specs.Prelude.{◌==◌, max}
use Rattle.std.specs.List.{range_with_len, fold}
use mathlib.Core.Bool.{false≢true}
use Rattle.jr_rev.specs.declared.revision.Revision.{Revision}
use Rattle.jr_rev.specs.declared.vector.RevVec.{RevVec}
use Rattle.jr_rev.specs.Revisions.{is_same, is_before, is_at_most}
use Rattle.jr_rev.specs.Vectors.{sees, start_of}
use Rattle.oak_machine.specs.declared.event.Draw.{Draw}
use Rattle.oak_machine.specs.declared.event.Event.{Event}
use Rattle.oak_machine.specs.declared.event.Event.TheVariants as event
use Rattle.oak_machine.specs.History.{Begin, Past, begin_of}
use Rattle.oak_machine.specs.Commits.{draw_of, is_drawn, is_ended}
use Rattle.oak_machine.specs.Heads.{local, last_in, head_of, last_draw_time, published, outs_of, greater_of, drawn_next, greatest_time}
use Rattle.oak_machine.specs.Runs.{learned, IsNode, AreNodes}
use Rattle.core_read.proofs.Latest.{at_most_trans, same_revision}
use Rattle.core_read.proofs.Vectors.{time_before}
use Rattle.core_heads.specs.Sound.{IsIn, IsAhead, IsGood, Public, IsSoundIn, IsSound}
use Rattle.core_heads.proofs.Orders.{not_both, same_number, same_itself, at_most_itself, fold_first, fold_each, fold_has}
use Rattle.core_heads.proofs.Entries.{seen_time, set_length}
use Rattle.core_heads.proofs.AtStart.{begin_cluster}
use Rattle.core_heads.proofs.Locals.{IsSettledDraw, local_first, local_grows, head_seen, head_learned, head_own}
use Rattle.core_heads.proofs.Learned.{IsAmong, among_range, range_among, learnt_sees, learnt_seen, learnt_own, learnt_length, learnt_stands, IsPublished}
use Rattle.core_heads.proofs.Later.{IsLater, timed, head_good, head_begun, head_stands, head_told, head_grows, published_is}

module _ (clusters : ℕ) (sessions : List ℕ) (nodes : AreNodes clusters sessions) (begin : Begin) (past : Past) (sound : IsSound clusters sessions begin past) where
  -- ---- events that touch no head

  abbrev pub is_aside : Event → Bool
  is_aside (event.Draw d) = false
  is_aside (event.End r) = false
  is_aside (event.Out k r) = false
  is_aside (event.In k v) = false
  is_aside _ = true

  pub later_aside : (e : Event) → is_aside e ≡ true → IsLater clusters begin past (e ∷ past)
  later_aside (event.Draw d) h = absurd (false≢true h)
  later_aside (event.End r) h = absurd (false≢true h)
  later_aside (event.Out k r) h = absurd (false≢true h)
  later_aside (event.In k v) h = absurd (false≢true h)
  later_aside e h = record {
    ahead = λ o a. a;
    drawn = λ o d e. inl e;
    time = λ k. omega arith;
    locals = λ k. at_most_itself (local begin past k);
    public = λ x p. p;
    heads = λ k node x h. h;
  }

  -- ---- an End

  flew : (a b c : Bool) → (a && not (b || c)) ≡ true → (a && not c) ≡ true
  flew true true c h = absurd (false≢true h)
  flew true false c h = h
  flew false b c h = h

  module _ (r : Revision) where
    end_settled : (k : ℕ) (q : Revision) → IsSettledDraw past k q → IsSettledDraw (event.End r ∷ past) k q
    end_settled k q s = record { drawn = s.drawn; cluster = s.cluster; below = λ o f same. s.below o (flew (is_drawn past o) (is_same o r) (is_ended past o) f) same }

    end_locals : (k : ℕ) → is_at_most (local begin past k) (local begin (event.End r ∷ past) k) ≡ true
    end_locals k = local_grows begin past (event.End r ∷ past) k (end_settled k)

    end_ahead : (o : Revision) → IsAhead begin (event.End r ∷ past) o → IsAhead begin past o
    end_ahead o (inl f) = inl (flew (is_drawn past o) (is_same o r) (is_ended past o) f)
    end_ahead o (inr t) = inr t

    pub later_end : IsLater clusters begin past (event.End r ∷ past)
    later_end = record {
      ahead = end_ahead;
      drawn = λ o d e. inl e;
      time = λ k. omega arith;
      locals = end_locals;
      public = λ x p. p;
      heads = λ k node. head_grows clusters sessions nodes begin past sound (event.End r ∷ past) k node (end_locals k) (sound.ins k node).eight (λ x h. h)
          (λ x h same. at_most_trans x (local begin past k) (local begin (event.End r ∷ past) k) ((sound.ins k node).own x h same) (end_locals k));
    }

  -- ---- a Draw

  module _ (d : Draw) (node : IsNode clusters d.revision.cluster) (next : d.revision ≡ drawn_next clusters begin past d.revision.cluster) where
    pub above : last_draw_time past d.revision.cluster < d.revision.time
    above = let t : d.revision.time ≡ max (greatest_time (head_of clusters begin past d.revision.cluster)) (last_draw_time past d.revision.cluster) + 1 = ap (λ (x : Revision). x.time) next in omega arith

    pub above_head : greatest_time (head_of clusters begin past d.revision.cluster) < d.revision.time
    above_head = let t : d.revision.time ≡ max (greatest_time (head_of clusters begin past d.revision.cluster)) (last_draw_time past d.revision.cluster) + 1 = ap (λ (x : Revision). x.time) next in omega arith

    -- it is after what its node begins from
    pub newer : is_before (begin_of begin d.revision.cluster) d.revision ≡ true
    newer =
        let k = d.revision.cluster in
        let first = begin_of begin k in
        let n = nodes.eight in let u = node.1 in
        let eight = set_length (last_in clusters begin past k) ((local begin past k).cluster - 1) (Some (local begin past k)) ∙ (sound.ins k node).eight in
        let seen = head_own clusters begin past k first node.0 (omega arith) (sound.ins k node).eight (begin_cluster begin k) (local_first begin past k) in
        let a = seen_time (head_of clusters begin past k) first eight seen in
        let b = above_head in
        time_before first d.revision (omega arith)

    is_new : (o : Revision) → o ≡ d.revision → IsAhead begin past o
    is_new o e = inr (subst (λ (x : Revision). (last_draw_time past x.cluster < x.time) × (is_before (begin_of begin x.cluster) x ≡ true)) (sym e) (above, newer))

    pub new_ahead : IsAhead begin past d.revision
    new_ahead = inr (above, newer)

    draw_time : (k : ℕ) → last_draw_time past k ≤ last_draw_time (event.Draw d ∷ past) k
    draw_time k = by (d.revision.cluster == k) refl
      where
        by : (b : Bool) → (d.revision.cluster == k) ≡ b → last_draw_time past k ≤ cond b d.revision.time (last_draw_time past k)
        by true e = let a = subst (λ (j : ℕ). last_draw_time past j < d.revision.time) (same_number d.revision.cluster k e) above in omega arith
        by false e = omega arith

    draw_ahead : (o : Revision) → IsAhead begin (event.Draw d ∷ past) o → IsAhead begin past o
    draw_ahead o (inl f) = by (is_same o d.revision) refl f
      where
        by : (b : Bool) → is_same o d.revision ≡ b → (is_some (cond b (Some d) (draw_of past o)) && not (is_ended past o)) ≡ true → IsAhead begin past o
        by true e f = is_new o (same_revision o d.revision e)
        by false e f = inl f
    draw_ahead o (inr t) = let a = draw_time o.cluster in let b = t.0 in inr (omega arith, t.1)

    draw_drawn : (o : Revision) (e : Draw) → draw_of (event.Draw d ∷ past) o ≡ Some e → (draw_of past o ≡ Some e) ⊎ IsAhead begin past o
    draw_drawn o e h = by (is_same o d.revision) refl h
      where
        by : (b : Bool) → is_same o d.revision ≡ b → cond b (Some d) (draw_of past o) ≡ Some e → (draw_of past o ≡ Some e) ⊎ IsAhead begin past o
        by true t h = inr (is_new o (same_revision o d.revision t))
        by false t h = inl h

    draw_settled : (k : ℕ) (q : Revision) → IsSettledDraw past k q → IsSettledDraw (event.Draw d ∷ past) k q
    draw_settled k q s = record { drawn = still (is_same q d.revision); cluster = s.cluster; below = λ o f same. by o same (is_same o d.revision) refl f }
      where
        still : (b : Bool) → is_some (cond b (Some d) (draw_of past q)) ≡ true
        still true = refl
        still false = s.drawn

        by : (o : Revision) → o.cluster ≡ k → (b : Bool) → is_same o d.revision ≡ b → (is_some (cond b (Some d) (draw_of past o)) && not (is_ended past o)) ≡ true → is_before q o ≡ true
        by o same true e f =
            let t = (timed clusters sessions nodes begin past sound q s.drawn).0 in
            let it : o ≡ d.revision = same_revision o d.revision e in
            let a = subst (λ (x : Revision). last_draw_time past x.cluster < x.time) (sym it) above in
            let u = subst (λ (j : ℕ). q.time ≤ last_draw_time past j) (s.cluster ∙ sym same) t in
            time_before q o (omega arith)
        by o same false e f = s.below o f same

    draw_locals : (k : ℕ) → is_at_most (local begin past k) (local begin (event.Draw d ∷ past) k) ≡ true
    draw_locals k = local_grows begin past (event.Draw d ∷ past) k (draw_settled k)

    pub later_draw : IsLater clusters begin past (event.Draw d ∷ past)
    later_draw = record {
      ahead = draw_ahead;
      drawn = draw_drawn;
      time = draw_time;
      locals = draw_locals;
      public = λ x p. p;
      heads = λ k node. head_grows clusters sessions nodes begin past sound (event.Draw d ∷ past) k node (draw_locals k) (sound.ins k node).eight (λ x h. h)
          (λ x h same. at_most_trans x (local begin past k) (local begin (event.Draw d ∷ past) k) ((sound.ins k node).own x h same) (draw_locals k));
    }

  -- ---- an Out

  module _ (m : ℕ) (r : Revision) (of : r.cluster ≡ m) (low : is_at_most r (local begin past m) ≡ true) where
    out_grows : (k : ℕ) → is_at_most (published begin past k) (published begin (event.Out m r ∷ past) k) ≡ true
    out_grows k = by (m == k)
      where
        by : (b : Bool) → is_at_most (fold greater_of (begin_of begin k) (outs_of past k)) (fold greater_of (begin_of begin k) (cond b (r ∷ outs_of past k) (outs_of past k))) ≡ true
        by false = at_most_itself (published begin past k)
        by true = fold_has (λ x. is_at_most x (fold greater_of (begin_of begin k) (r ∷ outs_of past k)) ≡ true) (begin_of begin k) (outs_of past k) (fold_first (begin_of begin k) (r ∷ outs_of past k)) (λ q i. fold_each (begin_of begin k) (r ∷ outs_of past k) q (inr i))

    pub later_out : IsLater clusters begin past (event.Out m r ∷ past)
    later_out = record {
      ahead = λ o a. a;
      drawn = λ o d e. inl e;
      time = λ k. omega arith;
      locals = λ k. at_most_itself (local begin past k);
      public = λ x p. (p.0, at_most_trans x (published begin past x.cluster) (published begin (event.Out m r ∷ past) x.cluster) p.1 (out_grows x.cluster));
      heads = λ k node x h. h;
    }

    pub out_outs : (k : ℕ) (q : Revision) → IsIn q (outs_of (event.Out m r ∷ past) k) → (q.cluster ≡ k) × (is_at_most q (local begin past k) ≡ true)
    out_outs k q i = by (m == k) refl i
      where
        by : (b : Bool) → (m == k) ≡ b → IsIn q (cond b (r ∷ outs_of past k) (outs_of past k)) → (q.cluster ≡ k) × (is_at_most q (local begin past k) ≡ true)
        by true e (inl same) = let n = same_number m k e in subst (λ (x : Revision). (x.cluster ≡ k) × (is_at_most x (local begin past k) ≡ true)) same (of ∙ n, subst (λ (j : ℕ). is_at_most r (local begin past j) ≡ true) n low)
        by true e (inr i) = sound.outs k q i
        by false e i = sound.outs k q i

  -- ---- an In

  module _ (m : ℕ) (v : RevVec) (new : IsNode clusters m → IsSoundIn clusters begin past m v) (more : IsNode clusters m → (x : Revision) → sees (head_of clusters begin past m) x ≡ true → sees v x ≡ true) where
    pub in_ins : (k : ℕ) → IsNode clusters k → IsSoundIn clusters begin past k (last_in clusters begin (event.In m v ∷ past) k)
    in_ins k node = by (m == k) refl
      where
        by : (b : Bool) → (m == k) ≡ b → IsSoundIn clusters begin past k (cond b v (last_in clusters begin past k))
        by true e = subst (λ (j : ℕ). IsSoundIn clusters begin past j v) (same_number m k e) (new (subst (λ (j : ℕ). IsNode clusters j) (sym (same_number m k e)) node))
        by false e = sound.ins k node

    in_more : (k : ℕ) → IsNode clusters k → (x : Revision) → sees (last_in clusters begin past k) x ≡ true → sees (last_in clusters begin (event.In m v ∷ past) k) x ≡ true
    in_more k node x h = by (m == k) refl
      where
        head : sees (head_of clusters begin past k) x ≡ true
        head = head_learned clusters begin past k x node.0 h (λ same. (sound.ins k node).own x h same)

        by : (b : Bool) → (m == k) ≡ b → sees (cond b v (last_in clusters begin past k)) x ≡ true
        by true e = more (subst (λ (j : ℕ). IsNode clusters j) (sym (same_number m k e)) node) x (subst (λ (j : ℕ). sees (head_of clusters begin past j) x ≡ true) (sym (same_number m k e)) head)
        by false e = h

    pub later_in : IsLater clusters begin past (event.In m v ∷ past)
    later_in = record {
      ahead = λ o a. a;
      drawn = λ o d e. inl e;
      time = λ k. omega arith;
      locals = λ k. at_most_itself (local begin past k);
      public = λ x p. p;
      heads = λ k node. head_grows clusters sessions nodes begin past sound (event.In m v ∷ past) k node (at_most_itself (local begin past k)) (in_ins k node).eight (in_more k node) (λ x h same. (in_ins k node).own x h same);
    }

  -- what is learned of a moment at which what was public is good now, and public now
  module _ (earlier : Past) (of : (j : ℕ) → (published begin earlier j).cluster ≡ j) (good : IsGood begin past (Public clusters begin earlier)) (public : (x : Revision) → Public clusters begin earlier x → Public clusters begin past x) (m : ℕ) (node : IsNode clusters m) where
    head_eight : length (head_of clusters begin past m) ≡ 8
    head_eight = set_length (last_in clusters begin past m) ((local begin past m).cluster - 1) (Some (local begin past m)) ∙ (sound.ins m node).eight

    pub learned_more : (x : Revision) → sees (head_of clusters begin past m) x ≡ true → sees (learned clusters begin past earlier m) x ≡ true
    learned_more x h = learnt_sees m (published begin earlier) of (head_of clusters begin past m) (range_with_len 1 clusters) x h

    pub learned_from : (x : Revision) → sees (learned clusters begin past earlier m) x ≡ true → (sees (head_of clusters begin past m) x ≡ true) ⊎ (Public clusters begin earlier x × ((x.cluster == m) ≡ false))
    learned_from x h = by (learnt_seen m (published begin earlier) of (head_of clusters begin past m) (range_with_len 1 clusters) x h)
      where
        by : (sees (head_of clusters begin past m) x ≡ true) ⊎ (IsAmong x.cluster (range_with_len 1 clusters) × IsPublished m (published begin earlier) of x) → (sees (head_of clusters begin past m) x ≡ true) ⊎ (Public clusters begin earlier x × ((x.cluster == m) ≡ false))
        by (inl s) = inl s
        by (inr p) = let r = among_range 1 clusters x.cluster p.0 in let high = r.1 in inr (((r.0, omega arith), p.1.1), p.1.0)

    pub learned_public : (x : Revision) → Public clusters begin earlier x → sees (learned clusters begin past earlier m) x ≡ true
    learned_public x p = by (x.cluster == m) refl
      where
        now : Public clusters begin past x
        now = public x p

        by : (b : Bool) → (x.cluster == m) ≡ b → sees (learned clusters begin past earlier m) x ≡ true
        by true e =
            let n = nodes.eight in let u = node.1 in
            let same : x.cluster ≡ m = same_number x.cluster m e in
            learned_more x (head_own clusters begin past m x node.0 (omega arith) (sound.ins m node).eight same
            (at_most_trans x (published begin past m) (local begin past m) (subst (λ (j : ℕ). is_at_most x (published begin past j) ≡ true) same now.1) (published_is clusters sessions nodes begin past sound m).1))
        by false e =
            let n = nodes.eight in let u = p.0.1 in let l = p.0.0 in
            learnt_own m (published begin earlier) of (head_of clusters begin past m) (range_with_len 1 clusters) x head_eight p.0.0 (omega arith) (range_among 1 clusters x.cluster p.0.0 (omega arith)) (e, p.1)

    pub learned_sound : IsSoundIn clusters begin past m (learned clusters begin past earlier m)
    learned_sound = record {
      good = record { behind = λ o a h. back o a (learned_from o h); closed = λ o d e h x b. close o d e x b (learned_from o h) };
      eight = learnt_length m (published begin earlier) of (head_of clusters begin past m) (range_with_len 1 clusters) ∙ head_eight;
      stands = learnt_stands m (published begin earlier) of (head_of clusters begin past m) (range_with_len 1 clusters) (head_stands clusters sessions nodes begin past sound m node);
      own = λ x h same. own x same (learned_from x h);
      told = λ x h. told x (learned_from x h);
      begun = learned_more (start_of 1) (head_begun clusters sessions nodes begin past sound m node);
    }
      where
        back : (o : Revision) → IsAhead begin past o → (sees (head_of clusters begin past m) o ≡ true) ⊎ (Public clusters begin earlier o × ((o.cluster == m) ≡ false)) → ⊥
        back o a (inl h) = (head_good clusters sessions nodes begin past sound m node).behind o a h
        back o a (inr p) = good.behind o a p.0

        close : (o : Revision) (d : Draw) → draw_of past o ≡ Some d → (x : Revision) → sees d.base x ≡ true → (sees (head_of clusters begin past m) o ≡ true) ⊎ (Public clusters begin earlier o × ((o.cluster == m) ≡ false)) → sees (learned clusters begin past earlier m) x ≡ true
        close o d e x b (inl h) = learned_more x ((head_good clusters sessions nodes begin past sound m node).closed o d e h x b)
        close o d e x b (inr p) = learned_public x (good.closed o d e p.0 x b)

        mine : (x : Revision) → x.cluster ≡ m → (sees (last_in clusters begin past m) x ≡ true) ⊎ ((x.cluster ≡ m) × (is_at_most x (local begin past m) ≡ true)) → is_at_most x (local begin past m) ≡ true
        mine x same (inl s) = (sound.ins m node).own x s same
        mine x same (inr p) = p.1

        own : (x : Revision) → x.cluster ≡ m → (sees (head_of clusters begin past m) x ≡ true) ⊎ (Public clusters begin earlier x × ((x.cluster == m) ≡ false)) → is_at_most x (local begin past m) ≡ true
        own x same (inl h) = mine x same (head_seen clusters begin past m x node.0 h)
        own x same (inr p) = not_both (x.cluster == m) (subst (λ (j : ℕ). (x.cluster == j) ≡ true) same (same_itself x.cluster)) p.1

        told : (x : Revision) → (sees (head_of clusters begin past m) x ≡ true) ⊎ (Public clusters begin earlier x × ((x.cluster == m) ≡ false)) → (x.cluster ≡ m) ⊎ Public clusters begin past x
        told x (inl h) = head_told clusters sessions nodes begin past sound m node x h
        told x (inr p) = inr (public x p.0)
