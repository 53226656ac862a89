-- In each run the heads are good, a draw is fresh, and what is held is in use.
use Rattle.std.proofs.Common.{◌≡◌, ℕ, zero, suc, ◌-◌, ◌≤◌, Bool, true, false, cond, not, inl, Some, None, Option, List, [], ◌∷◌, ◌++◌, drop, refl, sym, ap, subst, ◌∙◌, arith, is_some}
use Rattle.std.specs.Prelude.{◌==◌, slice_get}
use mathlib.Core.Bool.{false≢true}
use Rattle.std.specs.Option.{option_map_or}
use Rattle.jr_path.specs.Lists.{Text}
use Rattle.jr_rev.specs.declared.revision.Revision.{Revision}
use Rattle.jr_rev.specs.declared.vector.RevVec.{RevVec}
use Rattle.jr_rev.specs.Revisions.{is_same, is_before, is_at_most}
use Rattle.jr_rev.specs.Vectors.{sees, is_below}
use Rattle.oak_machine.specs.declared.event.Draw.{Draw}
use Rattle.oak_machine.specs.declared.event.Event.{Event}
use Rattle.oak_machine.specs.declared.event.Event.TheVariants as event
use Rattle.oak_machine.specs.History.{Begin, IsBegun, Past}
use Rattle.oak_machine.specs.Commits.{draw_of, is_drawn, is_ended, is_in_base, IsSettled, IsClosed}
use Rattle.oak_machine.specs.Heads.{local, last_in, head_of, last_draw_time, published}
use Rattle.oak_machine.specs.Sessions.{base_of, is_attached, last_checkpoint, kept_checkpoint, is_text, is_recovered}
use Rattle.oak_machine.specs.Laws.{Starts, Says}
use Rattle.oak_machine.specs.Runs.{MayFollow, MayDraw, IsRunOf, learned, IsNode, AreNodes}
use Rattle.core_read.specs.Told.{IsInUse, IsFreshDraw}
use Rattle.core_read.proofs.Vectors.{time_before}
use Rattle.core_read.proofs.Latest.{same_revision}
use Rattle.core_heads.specs.Sound.{IsAhead, IsGood, Public, IsSoundDraw, IsSoundIn, IsHeld, IsSound}
use Rattle.core_heads.proofs.Orders.{and_true, same_number, same_itself}
use Rattle.core_heads.proofs.Below.{seen_below, below_seen}
use Rattle.core_heads.proofs.Entries.{seen_time, set_length}
use Rattle.core_heads.proofs.AtStart.{begin_cluster}
use Rattle.core_heads.proofs.Later.{IsLater, good_kept, held_kept, draw_kept, in_kept, out_kept, head_good, head_held, head_told, published_is, public_good, sound_start}
use Rattle.core_heads.proofs.Steps.{later_aside, later_end, above, above_head, newer, new_ahead, later_draw, later_out, out_outs, in_ins, later_in, learned_more, learned_sound}

-- of each earlier moment: what was public then is good now, and public now
pub record IsOfMoment (clusters : ℕ) (begin : Begin) (past earlier : Past) : Type 0 where
  pub good : IsGood begin past (Public clusters begin earlier)
  pub public : (x : Revision) → Public clusters begin earlier x → Public clusters begin past x
  pub of : (m : ℕ) → (published begin earlier m).cluster ≡ m

abbrev pub AreMoments : ℕ → Begin → Past → Type 0
AreMoments clusters begin past = (n : ℕ) → IsOfMoment clusters begin past (drop n past)

some_is : {X : Type 0} (x y : X) → Some x ≡ Some y → x ≡ y
some_is x y h = ap (λ o. Rattle.std.specs.Option.unwrap_or o x) h

-- what is held is in use
pub held_in_use : (begin : Begin) (past : Past) (v : RevVec) → IsHeld begin past v → IsInUse past v
held_in_use begin past v h = record {
  settled = λ o f. unseen o (sees v o) refl (inl f);
  closed = λ o s x b. close o x s (draw_of past o) refl b;
  begun = h.begun;
}
  where
    unseen : (o : Revision) (b : Bool) → sees v o ≡ b → IsAhead begin past o → sees v o ≡ false
    unseen o true e a = absurd (h.good.behind o a e)
    unseen o false e a = e

    close : (o x : Revision) → sees v o ≡ true → (f : Option Draw) → draw_of past o ≡ f → option_map_or (λ (g : Draw). sees g.base x) (draw_of past o) false ≡ true → sees v x ≡ true
    close o x s None e b = absurd (false≢true (sym (ap (λ (f : Option Draw). option_map_or (λ (g : Draw). sees g.base x) f false) e) ∙ b))
    close o x s (Some f) e b = h.good.closed o f e s x (sym (ap (λ (f : Option Draw). option_map_or (λ (g : Draw). sees g.base x) f false) e) ∙ b)

pub held_settled : (begin : Begin) (past : Past) (v : RevVec) → IsHeld begin past v → IsSettled past v
held_settled begin past v h r drawn seen = by (is_ended past r) refl
  where
    by : (b : Bool) → is_ended past r ≡ b → b ≡ true
    by true e = refl
    by false e = absurd (h.good.behind r (inl (and_true (is_drawn past r) _ drawn (ap not e))) seen)

-- a checkpoint that wasn't released is the last of its id
pub kept_last : (past : Past) (id : Text) (v : RevVec) → kept_checkpoint past id ≡ Some v → last_checkpoint past id ≡ Some v
kept_last [] id v h = h
kept_last (event.Checkpoint other w ∷ past) id v h = by (λ k. kept_last past id v k) (is_text other id) h
  where
    by : (kept_checkpoint past id ≡ Some v → last_checkpoint past id ≡ Some v) → (b : Bool) → cond b (Some w) (kept_checkpoint past id) ≡ Some v → cond b (Some w) (last_checkpoint past id) ≡ Some v
    by rest true h = h
    by rest false h = rest h
kept_last (event.Release other ∷ past) id v h = by (λ k. kept_last past id v k) (is_text other id) h
  where
    by : (kept_checkpoint past id ≡ Some v → last_checkpoint past id ≡ Some v) → (b : Bool) → cond b None (kept_checkpoint past id) ≡ Some v → last_checkpoint past id ≡ Some v
    by rest true h = absurd (false≢true (ap is_some h))
    by rest false h = rest h
kept_last (e ∷ past) id v h = kept_last past id v h

module _ (clusters : ℕ) (sessions : List ℕ) (nodes : AreNodes clusters sessions) (begin : Begin) where
  moments_start : IsBegun clusters begin → AreMoments clusters begin []
  moments_start begun zero = record { good = public_good clusters sessions nodes begin [] (sound_start clusters sessions nodes begin begun); public = λ x p. p; of = begin_cluster begin }
  moments_start begun (suc n) = record { good = public_good clusters sessions nodes begin [] (sound_start clusters sessions nodes begin begun); public = λ x p. p; of = begin_cluster begin }

  moments_kept : (e : Event) (past : Past) → IsLater clusters begin past (e ∷ past) → IsSound clusters sessions begin (e ∷ past) → AreMoments clusters begin past → AreMoments clusters begin (e ∷ past)
  moments_kept e past grown sound ms zero = record { good = public_good clusters sessions nodes begin (e ∷ past) sound; public = λ x p. p; of = λ m. (published_is clusters sessions nodes begin (e ∷ past) sound m).0 }
  moments_kept e past grown sound ms (suc n) = record { good = good_kept clusters begin past (e ∷ past) grown (Public clusters begin (drop n past)) (ms n).good; public = λ x p. grown.public x ((ms n).public x p); of = (ms n).of }

  -- an event that changes no draw, head, base or checkpoint
  abbrev pub is_plain : Event → Bool
  is_plain (event.Login s v) = false
  is_plain (event.Refresh s v) = false
  is_plain (event.Attach s id) = false
  is_plain (event.Checkpoint id v) = false
  is_plain (event.Draw d) = false
  is_plain (event.Out k r) = false
  is_plain (event.In k v) = false
  is_plain _ = true

  module _ (past : Past) (sound : IsSound clusters sessions begin past) where
    plain_sound : (e : Event) → is_plain e ≡ true → IsLater clusters begin past (e ∷ past) → IsSound clusters sessions begin (e ∷ past)
    plain_sound (event.Login s v) h grown = absurd (false≢true h)
    plain_sound (event.Refresh s v) h grown = absurd (false≢true h)
    plain_sound (event.Attach s id) h grown = absurd (false≢true h)
    plain_sound (event.Checkpoint id v) h grown = absurd (false≢true h)
    plain_sound (event.Draw d) h grown = absurd (false≢true h)
    plain_sound (event.Out k r) h grown = absurd (false≢true h)
    plain_sound (event.In k v) h grown = absurd (false≢true h)
    plain_sound e h grown = record {
      draws = λ o d k. draw_kept clusters begin past (e ∷ past) grown o d (sound.draws o d k);
      outs = λ k r i. out_kept clusters begin past (e ∷ past) grown k r (sound.outs k r i);
      ins = λ k node. in_kept clusters begin past (e ∷ past) grown k (last_in clusters begin past k) (sound.ins k node);
      bases = λ s v k. held_kept clusters begin past (e ∷ past) grown v (sound.bases s v k);
      kept = λ id v k. held_kept clusters begin past (e ∷ past) grown v (sound.kept id v k);
      headed = λ s k v c a b x i. grown.heads k (nodes.node s k c) x (sound.headed s k v c a b x i);
    }

    -- ---- a Login and a Refresh

    module _ (s : ℕ) (v : RevVec) (k : ℕ) (of : slice_get sessions s ≡ Some k) (head : v ≡ head_of clusters begin past k) where
      login_base : (t : ℕ) (w : RevVec) → cond (s == t) (Some v) (base_of past t) ≡ Some w → IsHeld begin past w
      login_base t w h = by (s == t) h
        where
          by : (b : Bool) → cond b (Some v) (base_of past t) ≡ Some w → IsHeld begin past w
          by true h = subst (λ (u : RevVec). IsHeld begin past u) (sym head ∙ some_is v w h) (head_held clusters sessions nodes begin past sound k (nodes.node s k of))
          by false h = sound.bases t w h

      login_headed : (t j : ℕ) (w : RevVec) → slice_get sessions t ≡ Some j → cond (s == t) false (is_attached past t) ≡ false → cond (s == t) (Some v) (base_of past t) ≡ Some w → (x : Revision) → sees w x ≡ true → sees (head_of clusters begin past j) x ≡ true
      login_headed t j w c a h x i = by (s == t) refl a h
        where
          by : (b : Bool) → (s == t) ≡ b → cond b false (is_attached past t) ≡ false → cond b (Some v) (base_of past t) ≡ Some w → sees (head_of clusters begin past j) x ≡ true
          by true e a h =
              let same : k ≡ j = some_is k j (sym of ∙ (ap (slice_get sessions) (same_number s t e) ∙ c)) in
              subst (λ (n : ℕ). sees (head_of clusters begin past n) x ≡ true) same (subst (λ (u : RevVec). sees u x ≡ true) (sym (some_is v w h) ∙ head) i)
          by false e a h = sound.headed t j w c a h x i

      login_sound : IsSound clusters sessions begin (event.Login s v ∷ past)
      login_sound = let grown : IsLater clusters begin past (event.Login s v ∷ past) = later_aside clusters sessions nodes begin past sound (event.Login s v) refl in record {
        draws = λ o d k. draw_kept clusters begin past (event.Login s v ∷ past) grown o d (sound.draws o d k);
        outs = λ k r i. out_kept clusters begin past (event.Login s v ∷ past) grown k r (sound.outs k r i);
        ins = λ k node. in_kept clusters begin past (event.Login s v ∷ past) grown k (last_in clusters begin past k) (sound.ins k node);
        bases = λ t w h. held_kept clusters begin past (event.Login s v ∷ past) grown w (login_base t w h);
        kept = λ id w h. held_kept clusters begin past (event.Login s v ∷ past) grown w (sound.kept id w h);
        headed = login_headed;
      }

      refresh_sound : IsSound clusters sessions begin (event.Refresh s v ∷ past)
      refresh_sound = let grown : IsLater clusters begin past (event.Refresh s v ∷ past) = later_aside clusters sessions nodes begin past sound (event.Refresh s v) refl in record {
        draws = λ o d k. draw_kept clusters begin past (event.Refresh s v ∷ past) grown o d (sound.draws o d k);
        outs = λ k r i. out_kept clusters begin past (event.Refresh s v ∷ past) grown k r (sound.outs k r i);
        ins = λ k node. in_kept clusters begin past (event.Refresh s v ∷ past) grown k (last_in clusters begin past k) (sound.ins k node);
        bases = λ t w h. held_kept clusters begin past (event.Refresh s v ∷ past) grown w (login_base t w h);
        kept = λ id w h. held_kept clusters begin past (event.Refresh s v ∷ past) grown w (sound.kept id w h);
        headed = login_headed;
      }

    -- ---- an Attach and a Checkpoint

    attach_sound : (s : ℕ) (id : Text) → IsSound clusters sessions begin (event.Attach s id ∷ past)
    attach_sound s id = let grown : IsLater clusters begin past (event.Attach s id ∷ past) = later_aside clusters sessions nodes begin past sound (event.Attach s id) refl in record {
      draws = λ o d k. draw_kept clusters begin past (event.Attach s id ∷ past) grown o d (sound.draws o d k);
      outs = λ k r i. out_kept clusters begin past (event.Attach s id ∷ past) grown k r (sound.outs k r i);
      ins = λ k node. in_kept clusters begin past (event.Attach s id ∷ past) grown k (last_in clusters begin past k) (sound.ins k node);
      bases = λ t w h. held_kept clusters begin past (event.Attach s id ∷ past) grown w (base t w (s == t) h);
      kept = λ i w h. held_kept clusters begin past (event.Attach s id ∷ past) grown w (sound.kept i w h);
      headed = λ t j w c a h x i. headed t j w c (s == t) a h x i;
    }
      where
        base : (t : ℕ) (w : RevVec) (b : Bool) → cond b (last_checkpoint past id) (base_of past t) ≡ Some w → IsHeld begin past w
        base t w true h = sound.kept id w h
        base t w false h = sound.bases t w h

        headed : (t j : ℕ) (w : RevVec) → slice_get sessions t ≡ Some j → (b : Bool) → cond b true (is_attached past t) ≡ false → cond b (last_checkpoint past id) (base_of past t) ≡ Some w → (x : Revision) → sees w x ≡ true → sees (head_of clusters begin past j) x ≡ true
        headed t j w c true a h x i = absurd (false≢true (sym a))
        headed t j w c false a h x i = sound.headed t j w c a h x i

    checkpoint_sound : (id : Text) (v : RevVec) (s : ℕ) → base_of past s ≡ Some v → IsSound clusters sessions begin (event.Checkpoint id v ∷ past)
    checkpoint_sound id v s of = let grown : IsLater clusters begin past (event.Checkpoint id v ∷ past) = later_aside clusters sessions nodes begin past sound (event.Checkpoint id v) refl in record {
      draws = λ o d k. draw_kept clusters begin past (event.Checkpoint id v ∷ past) grown o d (sound.draws o d k);
      outs = λ k r i. out_kept clusters begin past (event.Checkpoint id v ∷ past) grown k r (sound.outs k r i);
      ins = λ k node. in_kept clusters begin past (event.Checkpoint id v ∷ past) grown k (last_in clusters begin past k) (sound.ins k node);
      bases = λ t w h. held_kept clusters begin past (event.Checkpoint id v ∷ past) grown w (sound.bases t w h);
      kept = λ i w h. held_kept clusters begin past (event.Checkpoint id v ∷ past) grown w (made i w (is_text id i) h);
      headed = sound.headed;
    }
      where
        made : (i : Text) (w : RevVec) (b : Bool) → cond b (Some v) (last_checkpoint past i) ≡ Some w → IsHeld begin past w
        made i w true h = sound.bases s w (of ∙ h)
        made i w false h = sound.kept i w h

    -- ---- an Out and an In

    out_sound : (m : ℕ) (r : Revision) → r.cluster ≡ m → is_at_most r (local begin past m) ≡ true → IsSound clusters sessions begin (event.Out m r ∷ past)
    out_sound m r of low = let grown : IsLater clusters begin past (event.Out m r ∷ past) = later_out clusters sessions nodes begin past sound m r of low in record {
      draws = λ o d k. draw_kept clusters begin past (event.Out m r ∷ past) grown o d (sound.draws o d k);
      outs = λ k q i. out_outs clusters sessions nodes begin past sound m r of low k q i;
      ins = λ k node. in_kept clusters begin past (event.Out m r ∷ past) grown k (last_in clusters begin past k) (sound.ins k node);
      bases = λ t w h. held_kept clusters begin past (event.Out m r ∷ past) grown w (sound.bases t w h);
      kept = λ i w h. held_kept clusters begin past (event.Out m r ∷ past) grown w (sound.kept i w h);
      headed = sound.headed;
    }

    module _ (ms : AreMoments clusters begin past) (m : ℕ) (v : RevVec) (n : ℕ) (is : v ≡ learned clusters begin past (drop n past) m) where
      in_new : IsNode clusters m → IsSoundIn clusters begin past m v
      in_new node = subst (λ (u : RevVec). IsSoundIn clusters begin past m u) (sym is) (learned_sound clusters sessions nodes begin past sound (drop n past) (ms n).of (ms n).good (ms n).public m node)

      in_more : IsNode clusters m → (x : Revision) → sees (head_of clusters begin past m) x ≡ true → sees v x ≡ true
      in_more node x h = subst (λ (u : RevVec). sees u x ≡ true) (sym is) (learned_more clusters sessions nodes begin past sound (drop n past) (ms n).of (ms n).good (ms n).public m node x h)

      in_later : IsLater clusters begin past (event.In m v ∷ past)
      in_later = later_in clusters sessions nodes begin past sound m v in_new in_more

      in_sound : IsSound clusters sessions begin (event.In m v ∷ past)
      in_sound = let grown : IsLater clusters begin past (event.In m v ∷ past) = in_later in record {
        draws = λ o d k. draw_kept clusters begin past (event.In m v ∷ past) grown o d (sound.draws o d k);
        outs = λ k r i. out_kept clusters begin past (event.In m v ∷ past) grown k r (sound.outs k r i);
        ins = λ k node. in_kept clusters begin past (event.In m v ∷ past) grown k (last_in clusters begin (event.In m v ∷ past) k) (in_ins clusters sessions nodes begin past sound m v in_new in_more k node);
        bases = λ t w h. held_kept clusters begin past (event.In m v ∷ past) grown w (sound.bases t w h);
        kept = λ i w h. held_kept clusters begin past (event.In m v ∷ past) grown w (sound.kept i w h);
        headed = λ t j w c a h x i. grown.heads j (nodes.node t j c) x (sound.headed t j w c a h x i);
      }

    -- ---- a Draw

    module _ (starts : Starts) (d : Draw) (may : MayDraw starts (record { clusters = clusters; sessions = sessions; begin = begin; past = past }) d) where
      node : IsNode clusters d.revision.cluster
      node = nodes.node d.session d.revision.cluster may.cluster

      base_headed : (x : Revision) → sees d.base x ≡ true → sees (head_of clusters begin past d.revision.cluster) x ≡ true
      base_headed x h = sound.headed d.session d.revision.cluster d.base may.cluster may.detached may.base x h

      base_rises : (x : Revision) → sees d.base x ≡ true → is_before x d.revision ≡ true
      base_rises x h =
          let eight = set_length (last_in clusters begin past d.revision.cluster) ((local begin past d.revision.cluster).cluster - 1) (Some (local begin past d.revision.cluster)) ∙ (sound.ins d.revision.cluster node).eight in
          let a = seen_time (head_of clusters begin past d.revision.cluster) x eight (base_headed x h) in
          let b = above_head clusters sessions nodes begin past sound d node may.next in
          time_before x d.revision (omega arith)

      draw_later : IsLater clusters begin past (event.Draw d ∷ past)
      draw_later = later_draw clusters sessions nodes begin past sound d node may.next

      draw_new : IsSoundDraw clusters begin (event.Draw d ∷ past) d.revision d
      draw_new = record {
        node = node;
        late = late (d.revision.cluster == d.revision.cluster) (same_itself d.revision.cluster);
        stands = (sound.bases d.session d.base may.base).stands;
        positive = let b = above clusters sessions nodes begin past sound d node may.next in omega arith;
        newer = newer clusters sessions nodes begin past sound d node may.next;
        headed = λ x h. draw_later.heads d.revision.cluster node x (base_headed x h);
        rises = base_rises;
        told = λ x h. head_told clusters sessions nodes begin past sound d.revision.cluster node x (base_headed x h);
      }
        where
          late : (b : Bool) → b ≡ true → d.revision.time ≤ cond b d.revision.time (last_draw_time past d.revision.cluster)
          late true e = omega arith
          late false e = absurd (false≢true e)

      draw_sound : IsSound clusters sessions begin (event.Draw d ∷ past)
      draw_sound = let grown : IsLater clusters begin past (event.Draw d ∷ past) = draw_later in record {
        draws = λ o e h. draws o e (is_same o d.revision) refl h;
        outs = λ k r i. out_kept clusters begin past (event.Draw d ∷ past) grown k r (sound.outs k r i);
        ins = λ k node. in_kept clusters begin past (event.Draw d ∷ past) grown k (last_in clusters begin past k) (sound.ins k node);
        bases = λ t w h. held_kept clusters begin past (event.Draw d ∷ past) grown w (sound.bases t w h);
        kept = λ i w h. held_kept clusters begin past (event.Draw d ∷ past) grown w (sound.kept i w h);
        headed = λ t j w c a h x i. grown.heads j (nodes.node t j c) x (sound.headed t j w c a h x i);
      }
        where
          draws : (o : Revision) (e : Draw) (b : Bool) → is_same o d.revision ≡ b → cond b (Some d) (draw_of past o) ≡ Some e → IsSoundDraw clusters begin (event.Draw d ∷ past) o e
          draws o e true t h = subst (λ (r : Revision). IsSoundDraw clusters begin (event.Draw d ∷ past) r e) (sym (same_revision o d.revision t)) (subst (λ (f : Draw). IsSoundDraw clusters begin (event.Draw d ∷ past) d.revision f) (some_is d e h) draw_new)
          draws o e false t h = draw_kept clusters begin past (event.Draw d ∷ past) draw_later o e (sound.draws o e h)

      -- what reading asks of a draw
      pub fresh_draw : IsFreshDraw past d
      fresh_draw = record {
        fresh = unfound (draw_of past d.revision) refl;
        base = held_in_use begin past d.base (sound.bases d.session d.base may.base);
        rises = base_rises;
        hidden = λ q e h. hide q (draw_of past q) refl (is_in_base past q d.revision) refl;
      }
        where
          unfound : (o : Option Draw) → draw_of past d.revision ≡ o → draw_of past d.revision ≡ None
          unfound None e = e
          unfound (Some f) e = let a = (sound.draws d.revision f e).late in let b = above clusters sessions nodes begin past sound d node may.next in absurd (omega arith)

          hide : (q : Revision) (f : Option Draw) → draw_of past q ≡ f → (b : Bool) → is_in_base past q d.revision ≡ b → is_in_base past q d.revision ≡ false
          hide q f e false k = k
          hide q None e true k = absurd (false≢true (sym (ap (λ (f : Option Draw). option_map_or (λ (g : Draw). sees g.base d.revision) f false) e) ∙ k))
          hide q (Some f) e true k = absurd ((head_good clusters sessions nodes begin past sound q.cluster (sound.draws q f e).node).behind d.revision (new_ahead clusters sessions nodes begin past sound d node may.next) ((sound.draws q f e).headed d.revision (sym (ap (λ (f : Option Draw). option_map_or (λ (g : Draw). sees g.base d.revision) f false) e) ∙ k)))

  -- ---- runs

  module _ (starts : Starts) (says : Says) where
    -- one event more
    step : (e : Event) (past : Past) → MayFollow starts says (record { clusters = clusters; sessions = sessions; begin = begin; past = past }) e → IsSound clusters sessions begin past → AreMoments clusters begin past → IsLater clusters begin past (e ∷ past) × IsSound clusters sessions begin (e ∷ past)
    step (event.Login s v) past may sound ms = (later_aside clusters sessions nodes begin past sound (event.Login s v) refl, login_sound past sound s v may.head.0 may.head.1 may.head.2)
    step (event.Refresh s v) past may sound ms = (later_aside clusters sessions nodes begin past sound (event.Refresh s v) refl, refresh_sound past sound s v may.head.0 may.head.1 may.head.2)
    step (event.Attach s id) past may sound ms = (later_aside clusters sessions nodes begin past sound (event.Attach s id) refl, attach_sound past sound s id)
    step (event.Checkpoint id v) past may sound ms = (later_aside clusters sessions nodes begin past sound (event.Checkpoint id v) refl, checkpoint_sound past sound id v may.0 may.1)
    step (event.Draw d) past may sound ms = (draw_later past sound starts d may, draw_sound past sound starts d may)
    step (event.Out m r) past may sound ms = (later_out clusters sessions nodes begin past sound m r may.0 may.1, out_sound past sound m r may.0 may.1)
    step (event.In m v) past may sound ms = (in_later past sound ms m v may.1.0 may.1.1, in_sound past sound ms m v may.1.0 may.1.1)
    step (event.End r) past may sound ms = (later_end clusters sessions nodes begin past sound r, plain_sound past sound (event.End r) refl (later_end clusters sessions nodes begin past sound r))
    step e past may sound ms = (later_aside clusters sessions nodes begin past sound e refl, plain_sound past sound e refl (later_aside clusters sessions nodes begin past sound e refl))

    run_both : (past : Past) → IsRunOf starts says clusters sessions begin past → IsSound clusters sessions begin past × AreMoments clusters begin past
    run_both [] run = (sound_start clusters sessions nodes begin run, moments_start run)
    run_both (e ∷ past) run =
        let before = run_both past run.1 in
        let now = step e past run.0 before.0 before.1 in
        (now.1, moments_kept e past now.0 now.1 before.1)

    -- what the heads of a run keep
    pub sound_run : (past : Past) → IsRunOf starts says clusters sessions begin past → IsSound clusters sessions begin past
    sound_run past run = (run_both past run).0

    -- what an event of a run does to heads, draws and what is held
    pub later_run : (e : Event) (past : Past) → IsRunOf starts says clusters sessions begin (e ∷ past) → IsLater clusters begin past (e ∷ past)
    later_run e past run = let before = run_both past run.1 in (step e past run.0 before.0 before.1).0

    -- each earlier moment of a run
    pub moments_run : (past : Past) → IsRunOf starts says clusters sessions begin past → AreMoments clusters begin past
    moments_run past run = (run_both past run).1

    pub fresh_run : (d : Draw) (past : Past) → IsRunOf starts says clusters sessions begin (event.Draw d ∷ past) → IsFreshDraw past d
    fresh_run d past run = fresh_draw past (sound_run past run.1) starts d run.0

    pub head_run : (past : Past) → IsRunOf starts says clusters sessions begin past → (k : ℕ) → IsNode clusters k → IsHeld begin past (head_of clusters begin past k)
    head_run past run k node = head_held clusters sessions nodes begin past (sound_run past run) k node

    -- the base of each committed revision that a held vector sees is at most that vector
    pub closed_run : (past : Past) → IsRunOf starts says clusters sessions begin past → (v : RevVec) → IsHeld begin past v → IsClosed past v
    closed_run past run v h r d committed drawn seen = seen_below d.base v ((sound_run past run).draws r d drawn).stands (λ x b. h.good.closed r d drawn seen x b)

    -- the base of a draw is at most the head of its node
    pub base_run : (past : Past) → IsRunOf starts says clusters sessions begin past → (r : Revision) (d : Draw) → draw_of past r ≡ Some d → is_below d.base (head_of clusters begin past r.cluster) ≡ true
    base_run past run r d drawn = let s = (sound_run past run).draws r d drawn in seen_below d.base (head_of clusters begin past r.cluster) s.stands s.headed

    heads_grow : (added past : Past) → IsRunOf starts says clusters sessions begin (added ++ past) → (k : ℕ) → IsNode clusters k → (x : Revision) → sees (head_of clusters begin past k) x ≡ true → sees (head_of clusters begin (added ++ past) k) x ≡ true
    heads_grow [] past run k is_node x h = h
    heads_grow (e ∷ added) past run k is_node x h =
        let before = run_both (added ++ past) run.1 in
        (step e (added ++ past) run.0 before.0 before.1).0.heads k is_node x (heads_grow added past run.1 k is_node x h)

    pub earlier_run : (added past : Past) → IsRunOf starts says clusters sessions begin (added ++ past) → IsRunOf starts says clusters sessions begin past
    earlier_run [] past run = run
    earlier_run (e ∷ added) past run = earlier_run added past run.1

    -- a head grows while events are added
    pub grow_run : (added past : Past) → IsRunOf starts says clusters sessions begin (added ++ past) → (k : ℕ) → IsNode clusters k → is_below (head_of clusters begin past k) (head_of clusters begin (added ++ past) k) ≡ true
    grow_run added past run k is_node = seen_below (head_of clusters begin past k) (head_of clusters begin (added ++ past) k) (head_run past (earlier_run added past run) k is_node).stands (heads_grow added past run k is_node)

    -- the vectors of a Bound see nothing that is ahead, where some cluster node wasn't recovered
    pub bound_run : (past : Past) (m t : RevVec) → IsRunOf starts says clusters sessions begin (event.Bound m t ∷ past) → (k : ℕ) → IsNode clusters k → is_recovered past k ≡ false → (o : Revision) → IsAhead begin past o → (sees m o ≡ true → ⊥) × (sees t o ≡ true → ⊥)
    bound_run past m t run k is_node kept o a = (mine, λ h. mine (below_seen t m o run.0.sweep h))
      where
        mine : sees m o ≡ true → ⊥
        mine h = (head_run past run.1 k is_node).good.behind o a (below_seen m (head_of clusters begin past k) o (run.0.heads k is_node.0 is_node.1 kept) h)
