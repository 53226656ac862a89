-- What events of others leave: a bound since the last reply, bounds so far, and what is committed.
use Rattle.std.proofs.Common.{◌≡◌, inl, inr, ℕ, Bool, true, false, cond, not, ◌&&◌, ◌||◌, Option, Some, None, List, [], ◌∷◌, ◌++◌, is_some, refl, sym, ap, ◌∙◌}
use Rattle.std.specs.BTreeMap.{insert_entry}
use Rattle.std.specs.List.{list_any}
use Rattle.std.specs.Option.{option_map_or}
use Rattle.std.specs.Ordering.{eq_by_cmp}
use Rattle.jr_path.proofs.Maps.{lookup-insert_entry}
use Rattle.jr_rev.specs.declared.revision.Revision.{Revision}
use Rattle.jr_rev.specs.declared.vector.RevVec.{RevVec}
use Rattle.jr_rev.specs.Revisions.{revision_cmp}
use Rattle.jr_rev.specs.Vectors.{sees}
use Rattle.jr_rev.proofs.Order.{revision_total}
use Rattle.oak_doc.specs.Updates.{of_revision}
use Rattle.oak_machine.specs.declared.event.Draw.{Draw}
use Rattle.oak_machine.specs.declared.event.Event.{Event}
use Rattle.oak_machine.specs.declared.event.Event.TheVariants as event
use Rattle.oak_machine.specs.declared.event.Start.{Start}
use Rattle.oak_machine.specs.declared.event.StepKind.TheVariants as kind
use Rattle.oak_machine.specs.History.{Begin, Past}
use Rattle.oak_machine.specs.Commits.{IsSettled, committed_edits, draw_of, is_drawn, is_ended}
use Rattle.oak_machine.specs.Laws.{AreOthers, Says, Starts, is_event_of}
use Rattle.oak_machine.specs.Runs.{AreNodes, IsRunOf, is_bound}
use Rattle.oak_machine.specs.Sessions.{has_left, has_login, is_end_of_session, is_login_of, is_reply_of, since}
use Rattle.oak_machine.proofs.Induction.{neither}
use Rattle.core_begun.specs.Told.{edit_since}
use Rattle.core_begun.proofs.Sound.{found as edit_is}
use Rattle.core_clash.specs.Collecting.{IsBoundOf}
use Rattle.core_clash.proofs.Basics.{or_cases, or_left, or_right}
use Rattle.core_heads.specs.Sound.{IsGood, Seen}
use Rattle.core_heads.proofs.Later.{good_kept}
use Rattle.core_heads.proofs.Runs.{later_run}
use Rattle.core_keep.specs.From.{course_from}
use Rattle.core_keep.specs.Keeps.{edit_in, is_done}
use Rattle.core_world.proofs.Seen.{seen_stays}

-- ---- events of others

login_is : (past : Past) (q : ℕ) (e : Event) → is_event_of past q e ≡ false → is_login_of q e ≡ false
login_is past q (event.Login t v) h = h
login_is past q _ h = refl

reply_is : (past : Past) (q : ℕ) (e : Event) → is_event_of past q e ≡ false → is_reply_of q e ≡ false
reply_is past q (event.Said t i text) h = h
reply_is past q _ h = refl

end_is : (past : Past) (q : ℕ) (e : Event) → is_event_of past q e ≡ false → is_end_of_session q e ≡ false
end_is past q (event.Went t kind.End) h = h
end_is past q _ h = refl

-- what no event of some is, they leave
left_by : (past : Past) (q : ℕ) (is : ℕ → Event → Bool) → ((e : Event) → is_event_of past q e ≡ false → is q e ≡ false) → (own before : Past) → list_any (is_event_of past q) own ≡ false → list_any (is q) (own ++ before) ≡ list_any (is q) before
left_by past q is none [] before h = refl
left_by past q is none (e ∷ own) before h =
    let k = neither (is_event_of past q e) (list_any (is_event_of past q) own) h in
    ap (λ b. b || list_any (is q) (own ++ before)) (none e k.0) ∙ left_by past q is none own before k.1

pub stay_left : (q : ℕ) (own before : Past) → AreOthers q own before → has_left (own ++ before) q ≡ has_left before q
stay_left q own before others = left_by (own ++ before) q is_end_of_session (end_is (own ++ before) q) own before others

pub more : (test : Event → Bool) (own before : Past) → list_any test before ≡ true → list_any test (own ++ before) ≡ true
more test [] before h = h
more test (e ∷ own) before h = or_right (test e) (list_any test (own ++ before)) (more test own before h)

pub login_stays : (q : ℕ) (own before : Past) → has_login before q ≡ true → has_login (own ++ before) q ≡ true
login_stays q own before h = more (is_login_of q) own before h

pub neither_of : (a b : Bool) → a ≡ false → b ≡ false → (a || b) ≡ false
neither_of false b h k = k
neither_of true b h k = h

since_by : (past : Past) (q : ℕ) (own before : Past) → list_any (is_event_of past q) own ≡ false → list_any is_bound (since before q) ≡ true → list_any is_bound (since (own ++ before) q) ≡ true
since_by past q [] before h taken = taken
since_by past q (e ∷ own) before h taken =
    let k = neither (is_event_of past q e) (list_any (is_event_of past q) own) h in
    ap (λ b. list_any is_bound (cond b [] (e ∷ since (own ++ before) q))) (neither_of (is_reply_of q e) (is_login_of q e) (reply_is past q e k.0) (login_is past q e k.0))
    ∙ or_right (is_bound e) (list_any is_bound (since (own ++ before) q)) (since_by past q own before k.1 taken)

-- a bound since the session's last reply
pub since_left : (q : ℕ) (own before : Past) → AreOthers q own before → list_any is_bound (since before q) ≡ true → list_any is_bound (since (own ++ before) q) ≡ true
since_left q own before others taken = since_by (own ++ before) q own before others taken

-- one more event that is no reply and no login
pub since_one : (past : Past) (q : ℕ) (e : Event) → is_reply_of q e ≡ false → is_login_of q e ≡ false → list_any is_bound (since past q) ≡ true → list_any is_bound (since (e ∷ past) q) ≡ true
since_one past q e reply login taken = ap (λ b. list_any is_bound (cond b [] (e ∷ since past q))) (neither_of (is_reply_of q e) (is_login_of q e) reply login) ∙ or_right (is_bound e) (list_any is_bound (since past q)) taken

-- ---- bounds

pub bound_stays : (own past : Past) (m t : RevVec) → IsBoundOf past m t → IsBoundOf (own ++ past) m t
bound_stays own past m t h = record {
  bounded = λ r k. more _ own past (h.bounded r k);
  swept = λ r k. more _ own past (h.swept r k);
  below = h.below;
}

-- ---- what is committed

edit_more : (e : Event) (past : Past) (r : Revision) → is_some (edit_since past r) ≡ true → is_some (edit_since (e ∷ past) r) ≡ true
edit_more (event.Commit q) past r some = by (draw_of past q)
  where
    at : (d : Draw) (b : Bool) → is_some (cond b (Some d.edit.writes) (of_revision (committed_edits past) r)) ≡ true
    at d true = refl
    at d false = some

    by : (o : Option Draw) → is_some (of_revision (option_map_or (λ d. insert_entry revision_cmp (committed_edits past) q d.edit.writes) o (committed_edits past)) r) ≡ true
    by None = some
    by (Some d) = ap is_some (lookup-insert_entry revision_cmp revision_total r q d.edit.writes (committed_edits past)) ∙ at d (eq_by_cmp revision_cmp r q)
edit_more e past r some = some

done_once : (start : Start) (e : Event) (past : Past) (r : Revision) → is_done (course_from start past) r ≡ true → is_done (course_from start (e ∷ past)) r ≡ true
done_once start e past r done = elim (or_cases (is_some (edit_in (course_from start past) r)) (sees start.at r) done) [
  | inl h ↦ or_left (is_some (edit_in (course_from start (e ∷ past)) r)) _ (ap is_some (edit_is (e ∷ past) r) ∙ edit_more e past r (sym (ap is_some (edit_is past r)) ∙ h))
  | inr old ↦ or_right (is_some (edit_in (course_from start (e ∷ past)) r)) _ old
]

pub done_more : (start : Start) (own past : Past) (r : Revision) → is_done (course_from start past) r ≡ true → is_done (course_from start (own ++ past)) r ≡ true
done_more start [] past r done = done
done_more start (e ∷ own) past r done = done_once start e (own ++ past) r (done_more start own past r done)

-- a good vector is settled
pub settled_by : (begin : Begin) (past : Past) (v : RevVec) → IsGood begin past (Seen v) → IsSettled past v
settled_by begin past v good r drawn seen = by (is_ended past r) refl
  where
    by : (b : Bool) → is_ended past r ≡ b → b ≡ true
    by true h = refl
    by false h = absurd (good.behind r (inl (ap (λ b. is_drawn past r && not b) h ∙ (ap (λ b. b && true) drawn))) seen)

module _ (starts : Starts) (says : Says) (clusters : ℕ) (sessions : List ℕ) (begin : Begin) (nodes : AreNodes clusters sessions) where
  -- a good vector stays good
  pub good_on : (own past : Past) → IsRunOf starts says clusters sessions begin (own ++ past) → (v : RevVec) → IsGood begin past (Seen v) → IsGood begin (own ++ past) (Seen v)
  good_on [] past run v good = good
  good_on (e ∷ own) past run v good = good_kept clusters begin (own ++ past) (e ∷ own ++ past) (later_run clusters sessions nodes begin starts says e (own ++ past) run) (Seen v) (good_on own past run.1 v good)

  -- and what it sees is committed later only if it is now
  pub done_back : (start : Start) (own past : Past) → IsRunOf starts says clusters sessions begin (own ++ past) → (v : RevVec) → IsGood begin past (Seen v) → (r : Revision) → sees v r ≡ true → is_done (course_from start (own ++ past)) r ≡ true → is_done (course_from start past) r ≡ true
  done_back start [] past run v good r seen done = done
  done_back start (e ∷ own) past run v good r seen done =
      done_back start own past run.1 v good r seen
      (seen_stays starts says clusters sessions begin start e (own ++ past) run v (settled_by begin (own ++ past) v (good_on own past run.1 v good)) r seen done)
