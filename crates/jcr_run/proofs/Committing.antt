-- What each step of a commit makes of what the history tells of it.
use Rattle.std.proofs.Common.{◌≡◌, ◌⊎◌, inl, inr, ℕ, Bool, true, false, cond, not, ◌||◌, ◌&&◌, Some, [], ◌∷◌, ◌++◌, refl, sym, ap, ◌∙◌, subst, arith}
use Rattle.std.specs.Prelude.{◌==◌}
use Rattle.std.specs.List.{list_any}
use Rattle.std.specs.Option.{option_map_or}
use Rattle.std.specs.Ordering.{is_eq}
use Rattle.std.specs.Cmp.{tied_itself}
use Rattle.std.proofs.lemmas.Bool.Decides.{nat_tests}
use Rattle.jr_path.specs.declared.path.Item.{Item}
use Rattle.jr_rev.specs.declared.revision.Revision.{Revision}
use Rattle.jr_rev.specs.declared.vector.RevVec.{RevVec}
use Rattle.jr_rev.specs.Revisions.{is_same}
use Rattle.jr_rev.proofs.Order.{revision_total, same_revision}
use Rattle.oak_machine.specs.declared.event.Draw.{Draw}
use Rattle.oak_machine.specs.declared.event.Event.TheVariants as event
use Rattle.oak_machine.specs.declared.event.StepKind.{StepKind}
use Rattle.oak_machine.specs.declared.event.StepKind.TheVariants as kind
use Rattle.oak_machine.specs.History.{Past}
use Rattle.oak_machine.specs.Commits.{is_committed, is_ended, refusal_of}
use Rattle.oak_machine.specs.Sessions.{base_of, is_drawing, is_drawing_among, drawn_since, since}
use Rattle.oak_port.specs.Ports.{Awaiting, Deciding, IsFinish, Undoing, Work, Writing, WritesOn}
use Rattle.oak_commit.specs.declared.outcome.CommitEnd.{CommitEnd}
use Rattle.oak_commit.specs.declared.outcome.CommitEnd.TheVariants as commit
use Rattle.core_heads.proofs.Passing.{among_same}
use Rattle.jcr_law.specs.Since.{draw_since, is_pinning, is_unmoved, is_unpinned}
use Rattle.jcr_run.specs.Standing.{HasDrawn, IsClash, IsCommitting, IsFresh, IsToldEnd, IsUnmade}
use Rattle.jcr_run.proofs.Others.{among_more, last_stays}

pub same_itself : (r : Revision) → is_same r r ≡ true
same_itself r = ap is_eq (tied_itself revision_total r)

pub own : (s : ℕ) → (s == s) ≡ true
own s = grind (arith, nat_tests)

module _ (past : Past) (s : ℕ) (r : Revision) where
  -- events by which nothing is drawn, and the base stays
  more : (e : Past) → (is_unmoved (e ++ past) s ≡ is_unmoved past s) → (is_unpinned (e ++ past) s ≡ is_unpinned past s) →
      (draw_since (e ++ past) s ≡ draw_since past s) → (drawn_since (e ++ past) s ≡ drawn_since past s) →
      (base_of (e ++ past) s ≡ base_of past s)
      → (Rattle.oak_machine.specs.Laws.is_revision_of (e ++ past) s r ≡ Rattle.oak_machine.specs.Laws.is_revision_of past s r)
      → (is_drawing (event.End r ∷ past) s ≡ false → is_drawing (event.End r ∷ (e ++ past)) s ≡ false)
      → HasDrawn past s r → HasDrawn (e ++ past) s r
  more e unmoved unpinned draw drawn base theirs last has = record {
    unmoved = unmoved ∙ has.unmoved;
    unpinned = unpinned ∙ has.unpinned;
    made = has.made;
    revision = has.revision;
    draw = draw ∙ has.draw;
    drawn = drawn ∙ has.drawn;
    base = base ∙ has.base;
    theirs = theirs ∙ has.theirs;
    last = last has.last;
  }

  -- a step that has no event of its own
  drawn_went : (k : StepKind) → is_pinning s (event.Went s k) ≡ false → HasDrawn past s r → HasDrawn (event.Went s k ∷ past) s r
  drawn_went k still has = more (event.Went s k ∷ []) refl (ap (λ (b : Bool). not (b || list_any (is_pinning s) (since past s))) still)
      refl refl refl refl (last_stays r (event.Went s k ∷ []) past s refl) has

  -- its commit point
  drawn_commit : HasDrawn past s r → HasDrawn (event.Commit r ∷ past) s r
  drawn_commit has = more (event.Commit r ∷ []) refl refl refl refl refl refl (last_stays r (event.Commit r ∷ []) past s refl) has

  made : is_committed (event.Commit r ∷ past) r ≡ true
  made = ap (λ b. b || is_committed past r) (same_itself r)

  -- it is refused
  drawn_refuse : (item : Item) (o : Revision) → HasDrawn past s r → HasDrawn (event.Refuse r item o ∷ past) s r
  drawn_refuse item o has = more (event.Refuse r item o ∷ []) refl refl refl refl refl refl
      (last_stays r (event.Refuse r item o ∷ []) past s refl) has

  refused : (item : Item) (o : Revision) → refusal_of (event.Refuse r item o ∷ past) r ≡ Some (item, o)
  refused item o = ap (λ b. cond b (Some (item, o)) (refusal_of past r)) (same_itself r)

  ended : is_ended (event.End r ∷ past) r ≡ true
  ended = ap (λ b. b || is_ended past r) (same_itself r)

  -- it ends, and the head may move
  still_end : (e : Past) → IsFinish r e → HasDrawn past s r → is_drawing (e ++ past) s ≡ false
  still_end e (inl same) has = subst (λ (p : Past). is_drawing (p ++ past) s ≡ false) (sym same) has.last
  still_end e (inr (k, v, same)) has = subst (λ (p : Past). is_drawing (p ++ past) s ≡ false) (sym same) (among_same (event.End r ∷ past) (event.Head k v) (λ q. refl) (event.End r ∷ past) s ∙ has.last)

  ended_end : (e : Past) → IsFinish r e → is_ended (e ++ past) r ≡ true
  ended_end e (inl same) = subst (λ (p : Past). is_ended (p ++ past) r ≡ true) (sym same) ended
  ended_end e (inr (k, v, same)) = subst (λ (p : Past). is_ended (p ++ past) r ≡ true) (sym same) ended

  drawn_end : (e : Past) → IsFinish r e → HasDrawn past s r → HasDrawn (e ++ past) s r
  drawn_end e (inl same) has = subst (λ (p : Past). HasDrawn (p ++ past) s r) (sym same)
      (more (event.End r ∷ []) refl refl refl refl refl refl (last_stays r (event.End r ∷ []) past s refl) has)
  drawn_end e (inr (k, v, same)) has = subst (λ (p : Past). HasDrawn (p ++ past) s r) (sym same)
      (more (event.Head k v ∷ event.End r ∷ []) refl refl refl refl refl refl
      (last_stays r (event.Head k v ∷ event.End r ∷ []) past s refl) has)

  same_end : (e : Past) → IsFinish r e → is_committed (e ++ past) r ≡ is_committed past r
  same_end e (inl same) = subst (λ (p : Past). is_committed (p ++ past) r ≡ is_committed past r) (sym same) refl
  same_end e (inr (k, v, same)) = subst (λ (p : Past). is_committed (p ++ past) r ≡ is_committed past r) (sym same) refl

  told_end : (e : Past) (f : CommitEnd) → IsFinish r e → IsToldEnd past r f → IsToldEnd (e ++ past) r f
  told_end e (commit.Clash item o) (inl same) h = subst (λ (p : Past). refusal_of (p ++ past) r ≡ Some (item, o)) (sym same) h
  told_end e (commit.Clash item o) (inr (k, v, same)) h = subst (λ (p : Past). refusal_of (p ++ past) r ≡ Some (item, o)) (sym same) h
  told_end e commit.Memory finish h = tt
  told_end e (commit.Committed q) finish h = h

  -- the base moves, and sees it
  pub still_moved : (v : RevVec) → HasDrawn past s r → is_ended past r ≡ true → is_drawing (event.Refresh s v ∷ past) s ≡ false
  still_moved v has at = among_same past (event.Refresh s v) (λ q. refl) past s ∙ among_more (event.End r ∷ past) past (λ q. before q (is_same q r) refl) s past has.last
    where
      before : (q : Revision) (b : Bool) → is_same q r ≡ b → (b || is_ended past q) ≡ true → is_ended past q ≡ true
      before q true same h = subst (λ (x : Revision). is_ended past x ≡ true) (sym (same_revision q r same)) at
      before q false same h = h

  -- ---- the steps

  pub committing_write : (k : StepKind) (e : Past) (now : Work) → IsCommitting past s (Writing r) → WritesOn s r k e now → IsCommitting (e ++ past) s now
  committing_write k e now (has, unmade) (inl (a, same, work)) = by work
    where
      wrote : (w : Work) → IsCommitting (event.Went s kind.Write ∷ past) s w → now ≡ w → IsCommitting (e ++ past) s now
      wrote w is work = subst (λ (w : Work). IsCommitting (e ++ past) s w) (sym work) (subst (λ (p : Past). IsCommitting (p ++ past) s w) (sym same) is)

      by : (now ≡ Writing r) ⊎ (now ≡ Undoing r commit.Memory) → IsCommitting (e ++ past) s now
      by (inl work) = wrote (Writing r) (drawn_went kind.Write refl has, unmade) work
      by (inr work) = wrote (Undoing r commit.Memory) (drawn_went kind.Write refl has, unmade, tt) work
  committing_write k e now (has, unmade) (inr (inl (a, same, work))) = by work
    where
      read : (w : Work) → IsCommitting past s w → now ≡ w → IsCommitting (e ++ past) s now
      read w is work = subst (λ (w : Work). IsCommitting (e ++ past) s w) (sym work) (subst (λ (p : Past). IsCommitting (p ++ past) s w) (sym same) is)

      by : (now ≡ Writing r) ⊎ (now ≡ Undoing r commit.Memory) → IsCommitting (e ++ past) s now
      by (inl work) = read (Writing r) (has, unmade) work
      by (inr work) = read (Undoing r commit.Memory) (has, unmade, tt) work
  committing_write k e now (has, unmade) (inr (inr (inl (a, same, work)))) =
      subst (λ (w : Work). IsCommitting (e ++ past) s w) (sym work)
      (subst (λ (p : Past). IsCommitting (p ++ past) s (Writing r)) (sym same) (drawn_went kind.Mark refl has, unmade))
  committing_write k e now (has, unmade) (inr (inr (inr (inl (a, same, work))))) =
      subst (λ (w : Work). IsCommitting (e ++ past) s w) (sym work) (subst (λ (p : Past). IsCommitting (p ++ past) s (Deciding r)) (sym same) (drawn_commit has, made))
  committing_write k e now (has, unmade) (inr (inr (inr (inr (item, o, mark, same, work))))) =
      subst (λ (w : Work). IsCommitting (e ++ past) s w) (sym work) (subst (λ (p : Past). IsCommitting (p ++ past) s (Undoing r (commit.Clash item o))) (sym same) (drawn_refuse item o has, unmade, refused item o))

  pub committing_undo : (f : CommitEnd) (e : Past) (now : Work) → IsCommitting past s (Undoing r f) → (e ≡ event.Went s kind.Undo ∷ []) → now ≡ Undoing r f → IsCommitting (e ++ past) s now
  committing_undo f e now (has, unmade, told) same work =
      subst (λ (w : Work). IsCommitting (e ++ past) s w) (sym work)
      (subst (λ (p : Past). IsCommitting (p ++ past) s (Undoing r f)) (sym same) (drawn_went kind.Undo refl has, unmade, told_went f told))
    where
      told_went : (f : CommitEnd) → IsToldEnd past r f → IsToldEnd (event.Went s kind.Undo ∷ past) r f
      told_went (commit.Clash item o) h = h
      told_went commit.Memory h = tt
      told_went (commit.Committed q) h = h

  pub committing_finish : (e : Past) (now : Work) → IsCommitting past s (Deciding r) → IsFinish r e → now ≡ Awaiting r → IsCommitting (e ++ past) s now
  committing_finish e now (has, at) finish work =
      subst (λ (w : Work). IsCommitting (e ++ past) s w) (sym work) (drawn_end e finish has, same_end e finish ∙ at, ended_end e finish)

  -- it has ended, and was not made
  pub unmade_end : (e : Past) → IsFinish r e → HasDrawn past s r → is_committed past r ≡ false → IsUnmade (e ++ past) s r
  unmade_end e finish has unmade = record {
    unmoved = (drawn_end e finish has).unmoved;
    unpinned = (drawn_end e finish has).unpinned;
    drawn = (drawn_end e finish has).drawn;
    unmade = same_end e finish ∙ unmade;
    idle = still_end e finish has;
  }

  pub clash_end : (f : CommitEnd) (e : Past) → IsFinish r e → HasDrawn past s r → is_committed past r ≡ false → IsToldEnd past r f → IsClash (e ++ past) s r f
  clash_end f e finish has unmade told = record { unmade = unmade_end e finish has unmade; ended = ended_end e finish; told = told_end e f finish told }

  -- ---- its draw

  pub committing_drawn : (d : Draw) → d.session ≡ s → d.revision ≡ r → IsFresh past s → is_unmoved past s ≡ true → is_unpinned past s ≡
      true → base_of past s ≡ Some d.base → is_committed past r ≡ false → IsCommitting (event.Draw d ∷ past) s (Writing r)
  committing_drawn d session revision fresh unmoved unpinned base unmade = (
    record {
      unmoved = unmoved;
      unpinned = unpinned;
      made = d;
      revision = revision;
      draw = ap (λ b. cond b (Some d) (draw_since past s)) mine;
      drawn = ap (λ b. cond b (Some d.revision) (drawn_since past s)) mine ∙ ap (λ (x : Revision). Some x) revision;
      base = base;
      theirs = ap (λ b. option_map_or (λ f. f.session == s) (cond b (Some d) (Rattle.oak_machine.specs.Commits.draw_of past r)) false) (subst (λ (x : Revision). is_same r x ≡ true) (sym revision) (same_itself r)) ∙ mine;
      last =
          ap (λ b. (d.session == s && not b) || is_drawing_among (event.End r ∷ event.Draw d ∷ past) past s) (ap (λ b. b || is_ended past d.revision) (subst (λ (x : Revision). is_same x r ≡ true) (sym revision) (same_itself r)))
          ∙ (ap (λ b. b || is_drawing_among (event.End r ∷ event.Draw d ∷ past) past s) (nothing (d.session == s))
          ∙ among_more past (event.End r ∷ event.Draw d ∷ past) (λ q h. right (is_same q r) h) s past fresh.idle);
    },
    unmade,
  )
    where
      mine : (d.session == s) ≡ true
      mine = ap (λ n. n == s) session ∙ own s

      nothing : (b : Bool) → (b && not true) ≡ false
      nothing true = refl
      nothing false = refl

      right : (b : Bool) {c : Bool} → c ≡ true → (b || c) ≡ true
      right true h = refl
      right false h = h
