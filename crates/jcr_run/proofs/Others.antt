-- While events of others are added, what a session drew stays drawn by it, neither committed nor refused by them; and what others added at two times they added at once.
use Rattle.std.proofs.Common.{◌≡◌, ℕ, Bool, true, false, cond, not, ◌||◌, ◌&&◌, Some, None, Option, List, [], ◌∷◌, ◌++◌, refl, sym, ap, ◌∙◌, subst}
use Rattle.std.specs.Prelude.{◌==◌}
use Rattle.std.specs.Option.{option_map_or}
use Rattle.std.specs.List.{list_any}
use mathlib.Core.Bool.{false≢true}
use Rattle.jr_rev.specs.declared.revision.Revision.{Revision}
use Rattle.jr_rev.specs.Revisions.{is_same}
use Rattle.jr_rev.proofs.Order.{same_revision}
use Rattle.oak_machine.specs.declared.event.Draw.{Draw}
use Rattle.oak_machine.specs.declared.event.Event.{Event}
use Rattle.oak_machine.specs.declared.event.Event.TheVariants as event
use Rattle.oak_machine.specs.History.{Begin, Past}
use Rattle.oak_machine.specs.Commits.{draw_of, is_committed, is_drawn, is_ended, is_end_of, refusal_of}
use Rattle.oak_machine.specs.Laws.{Says, Starts, is_event_of, is_revision_of}
use Rattle.oak_machine.specs.Runs.{AreNodes, IsRunOf}
use Rattle.oak_machine.specs.Sessions.{is_drawing, is_drawing_among}
use Rattle.oak_machine.proofs.Induction.{first_of_both, neither}
use Rattle.oak_machine.proofs.Stays.{any_later}
use Rattle.core_heads.proofs.Drawn.{Keeps, drawn_some, draw_stays, keeps_one}

pub append_assoc : {X : Type 0} (a b c : List X) → (a ++ b) ++ c ≡ a ++ (b ++ c)
append_assoc [] b c = refl
append_assoc (x ∷ a) b c = ap (λ l. x ∷ l) (append_assoc a b c)

any_both : {X : Type 0} (test : X → Bool) (a b : List X) → list_any test a ≡ false → list_any test b ≡ false → list_any test (a ++ b) ≡ false
any_both test [] b h k = k
any_both test (x ∷ a) b h k = let n = neither (test x) _ h in ap (λ c. c || list_any test (a ++ b)) n.0 ∙ any_both test a b n.1 k

-- ---- draws

module _ (clusters : ℕ) (sessions : List ℕ) (nodes : AreNodes clusters sessions) (begin : Begin) (starts : Starts) (says : Says) where
  -- a revision of the session stays one
  pub revision_stays : (added past : Past) → IsRunOf starts says clusters sessions begin (added ++ past) → (s : ℕ) (r : Revision) → is_revision_of past s r ≡ true → is_revision_of (added ++ past) s r ≡ true
  revision_stays added past run s r h = by (draw_of past r) refl h
    where
      by : (o : Option Draw) → draw_of past r ≡ o → option_map_or (λ d. d.session == s) o false ≡ true → option_map_or (λ d. d.session == s) (draw_of (added ++ past) r) false ≡ true
      by None is h = absurd (false≢true h)
      by (Some d) is h = ap (λ (o : Option Draw). option_map_or (λ d. d.session == s) o false) (draw_stays clusters sessions nodes begin starts says added past run r d is) ∙ h

  module _ (s : ℕ) where
    -- whether a revision that was drawn then is one of the session
    same_owner : (a w v : Past) → Keeps a w → Keeps a v → (r : Revision) → is_drawn a r ≡ true → is_revision_of w s r ≡ is_revision_of v s r
    same_owner a w v kw kv r drawn =
        let d = drawn_some (draw_of a r) drawn in
        ap (λ (o : Option Draw). option_map_or (λ d. d.session == s) o false) (kw r d.0 d.1 ∙ sym (kv r d.0 d.1))

    -- events are of the session in each later past alike
    any_same : (added past w v : Past) → IsRunOf starts says clusters sessions begin (added ++ past) → Keeps (added ++ past) w → Keeps (added ++ past) v → list_any (is_event_of w s) added ≡ list_any (is_event_of v s) added
    any_same [] past w v run kw kv = refl
    any_same (event.Commit r ∷ added) past w v run kw kv =
        ap (λ b. b || list_any (is_event_of w s) added) (same_owner (added ++ past) w v kw kv r (first_of_both _ _ run.0.open_.in_flight))
        ∙ ap (λ b. is_revision_of v s r || b) (any_same added past w v run.1 kw kv)
    any_same (event.Refuse r item o ∷ added) past w v run kw kv =
        ap (λ b. b || list_any (is_event_of w s) added) (same_owner (added ++ past) w v kw kv r (first_of_both _ _ run.0.open_.in_flight))
        ∙ ap (λ b. is_revision_of v s r || b) (any_same added past w v run.1 kw kv)
    any_same (event.Draw d ∷ added) past w v run kw kv =
        ap (λ b. (d.session == s) || b) (any_same added past w v run.1 (λ r f h. kw r f (keeps_one clusters sessions nodes begin starts says (event.Draw d) (added ++ past) run r f h)) (λ r f h. kv r f (keeps_one clusters sessions nodes begin starts says (event.Draw d) (added ++ past) run r f h)))
    any_same (event.Login t x ∷ added) past w v run kw kv = ap (λ b. (t == s) || b) (any_same added past w v run.1 kw kv)
    any_same (event.Refresh t x ∷ added) past w v run kw kv = ap (λ b. (t == s) || b) (any_same added past w v run.1 kw kv)
    any_same (event.Attach t x ∷ added) past w v run kw kv = ap (λ b. (t == s) || b) (any_same added past w v run.1 kw kv)
    any_same (event.Detach t ∷ added) past w v run kw kv = ap (λ b. (t == s) || b) (any_same added past w v run.1 kw kv)
    any_same (event.Split t p x ∷ added) past w v run kw kv = ap (λ b. (t == s) || b) (any_same added past w v run.1 kw kv)
    any_same (event.Collected t x ∷ added) past w v run kw kv = ap (λ b. (t == s) || b) (any_same added past w v run.1 kw kv)
    any_same (event.Went t k ∷ added) past w v run kw kv = ap (λ b. (t == s) || b) (any_same added past w v run.1 kw kv)
    any_same (event.Said t i x ∷ added) past w v run kw kv = ap (λ b. (t == s) || b) (any_same added past w v run.1 kw kv)
    any_same (event.End r ∷ added) past w v run kw kv = any_same added past w v run.1 kw kv
    any_same (event.Head k x ∷ added) past w v run kw kv = any_same added past w v run.1 kw kv
    any_same (event.Out k r ∷ added) past w v run kw kv = any_same added past w v run.1 kw kv
    any_same (event.In k x ∷ added) past w v run kw kv = any_same added past w v run.1 kw kv
    any_same (event.Sweep k r ∷ added) past w v run kw kv = any_same added past w v run.1 kw kv
    any_same (event.Bound m t ∷ added) past w v run kw kv = any_same added past w v run.1 kw kv
    any_same (event.Checkpoint id x ∷ added) past w v run kw kv = any_same added past w v run.1 kw kv
    any_same (event.Release id ∷ added) past w v run kw kv = any_same added past w v run.1 kw kv
    any_same (event.Stop k ∷ added) past w v run kw kv = any_same added past w v run.1 kw kv
    any_same (event.Recover k ∷ added) past w v run kw kv = any_same added past w v run.1 kw kv

    -- what others added at two times
    pub others_both : (later added past : Past) → IsRunOf starts says clusters sessions begin (later ++ (added ++ past)) → IsRunOf starts says clusters sessions begin (added ++ past)
        → list_any (is_event_of (added ++ past) s) added ≡ false → list_any (is_event_of (later ++ (added ++ past)) s) later ≡ false
        → list_any (is_event_of ((later ++ added) ++ past) s) (later ++ added) ≡ false
    others_both later added past run early first second =
        subst (λ (w : Past). list_any (is_event_of w s) (later ++ added) ≡ false) (sym (append_assoc later added past))
        (any_both (is_event_of (later ++ (added ++ past)) s) later added second
        (any_same added past (later ++ (added ++ past)) (added ++ past) early (draw_stays clusters sessions nodes begin starts says later (added ++ past) run) (λ r d h. h) ∙ first))

    module _ (r : Revision) where
      -- others neither commit nor refuse what the session drew
      pub uncommitted_own : (added past : Past) → IsRunOf starts says clusters sessions begin (added ++ past) → (whole : Past) → is_revision_of whole s r ≡ true → list_any (is_event_of whole s) added ≡ false → is_committed past r ≡ false → is_committed (added ++ past) r ≡ false
      uncommitted_own [] past run whole theirs others h = h
      uncommitted_own (event.Commit q ∷ added) past run whole theirs others h =
          let n = neither (is_revision_of whole s q) _ others in
          elim (is_same r q) as (λ b. is_same r q ≡ b → (b || is_committed (added ++ past) r) ≡ false) [
            | true ↦ λ same. absurd (false≢true (sym n.0 ∙ subst (λ (x : Revision). is_revision_of whole s x ≡ true) (same_revision r q same) theirs))
            | false ↦ λ same. uncommitted_own added past run.1 whole theirs n.1 h
          ] refl
      uncommitted_own (e ∷ added) past run whole theirs others h = uncommitted_own added past run.1 whole theirs (neither (is_event_of whole s e) _ others).1 h

      pub refusal_own : (added past : Past) → (whole : Past) → is_revision_of whole s r ≡ true → list_any (is_event_of whole s) added ≡ false → refusal_of (added ++ past) r ≡ refusal_of past r
      refusal_own [] past whole theirs others = refl
      refusal_own (event.Refuse q item o ∷ added) past whole theirs others =
          let n = neither (is_revision_of whole s q) _ others in
          elim (is_same r q) as (λ b. is_same r q ≡ b → cond b (Some (item, o)) (refusal_of (added ++ past) r) ≡ refusal_of past r) [
            | true ↦ λ same. absurd (false≢true (sym n.0 ∙ subst (λ (x : Revision). is_revision_of whole s x ≡ true) (same_revision r q same) theirs))
            | false ↦ λ same. refusal_own added past whole theirs n.1
          ] refl
      refusal_own (e ∷ added) past whole theirs others = refusal_own added past whole theirs (neither (is_event_of whole s e) _ others).1

-- ---- what is in flight

-- where each revision that has ended at one time has ended at another, nothing is in flight then that wasn't before
pub among_more : (a b : Past) → ((r : Revision) → is_ended a r ≡ true → is_ended b r ≡ true) → (s : ℕ) (list : Past) → is_drawing_among a list s ≡ false → is_drawing_among b list s ≡ false
among_more a b more s [] h = refl
among_more a b more s (event.Draw d ∷ list) h =
    let n = neither (d.session == s && not (is_ended a d.revision)) _ h in
    ap (λ c. c || is_drawing_among b list s) (still (d.session == s) (is_ended a d.revision) refl n.0) ∙ among_more a b more s list n.1
  where
    still : (x y : Bool) → is_ended a d.revision ≡ y → (x && not y) ≡ false → (x && not (is_ended b d.revision)) ≡ false
    still true true ended h = ap not (more d.revision ended)
    still true false ended h = absurd (false≢true (sym h))
    still false y ended h = refl
among_more a b more s (e ∷ list) h = among_more a b more s list h

-- events that draw nothing for the session leave what is in flight
abbrev pub is_draw_of : ℕ → Event → Bool
is_draw_of s (event.Draw d) = d.session == s
is_draw_of s e = false

among_added : (now added list : Past) (s : ℕ) → list_any (is_draw_of s) added ≡ false → is_drawing_among now list s ≡ false → is_drawing_among now (added ++ list) s ≡ false
among_added now [] list s none h = h
among_added now (event.Draw d ∷ added) list s none h =
    let n = neither (d.session == s) _ none in
    ap (λ b. (b && not (is_ended now d.revision)) || is_drawing_among now (added ++ list) s) n.0 ∙ among_added now added list s n.1 h
among_added now (e ∷ added) list s none h = among_added now added list s (neither (is_draw_of s e) _ none).1 h

-- where the end of r would leave nothing of the session in flight, it still would
pub last_stays : (r : Revision) (added past : Past) (s : ℕ) → list_any (is_draw_of s) added ≡ false → is_drawing (event.End r ∷ past) s ≡ false → is_drawing (event.End r ∷ (added ++ past)) s ≡ false
last_stays r added past s none h =
    among_added (event.End r ∷ (added ++ past)) added past s none
    (among_more (event.End r ∷ past) (event.End r ∷ (added ++ past)) (λ q ended. more q (is_same q r) ended) s past h)
  where
    more : (q : Revision) (b : Bool) → (b || is_ended past q) ≡ true → (b || is_ended (added ++ past) q) ≡ true
    more q true h = refl
    more q false h = any_later (is_end_of q) added past h

pub no_draws : (whole added : Past) (s : ℕ) → list_any (is_event_of whole s) added ≡ false → list_any (is_draw_of s) added ≡ false
no_draws whole [] s h = refl
no_draws whole (event.Draw d ∷ added) s h = let n = neither (d.session == s) _ h in ap (λ b. b || list_any (is_draw_of s) added) n.0 ∙ no_draws whole added s n.1
no_draws whole (e ∷ added) s h = no_draws whole added s (neither (is_event_of whole s e) _ h).1

pub last_others : (whole : Past) (r : Revision) (added past : Past) (s : ℕ) → list_any (is_event_of whole s) added ≡ false → is_drawing (event.End r ∷ past) s ≡ false → is_drawing (event.End r ∷ (added ++ past)) s ≡ false
last_others whole r added past s others h = last_stays r added past s (no_draws whole added s others) h
