-- In a run no two commits clash unseen, so commits of which neither base sees the other are independent.
use Rattle.std.proofs.Common.{◌≡◌, ℕ, Bool, true, false, cond, not, ◌&&◌, ◌||◌, Some, None, Option, List, [], ◌∷◌, refl, sym, ap, ◌∙◌, subst, is_some}
use Rattle.std.specs.Cmp.{IsEquivalence}
use Rattle.std.specs.Option.{option_map, option_map_or, unwrap_or}
use Rattle.std.specs.Ordering.{eq_by_cmp}
use Rattle.std.specs.List.{list_any}
use Rattle.std.proofs.lemmas.Cmp.{eq_by_cmp_equiv}
use mathlib.Core.Bool.{false≢true}
use Rattle.jr_path.specs.Names.{path_cmp}
use Rattle.jr_path.proofs.Maps.{path_total}
use Rattle.jr_rev.specs.declared.revision.Revision.{Revision}
use Rattle.jr_rev.specs.Revisions.{is_before, is_same}
use Rattle.jr_rev.specs.Vectors.{sees}
use Rattle.jr_tree.specs.declared.edit.Write.{Write}
use Rattle.oak_clash.specs.declared.mark.MarkAt.{MarkAt}
use Rattle.oak_clash.specs.Clashes.{clash, clashing}
use Rattle.oak_clash.proofs.Marks.{clash-symm}
use Rattle.oak_machine.specs.declared.event.Draw.{Draw}
use Rattle.oak_machine.specs.declared.event.Event.TheVariants as event
use Rattle.oak_machine.specs.History.{Begin, Past, begin_tree}
use Rattle.oak_machine.specs.Commits.{draw_of, is_drawn, is_committed, is_ended, is_in_base, are_clashing, marks_of}
use Rattle.oak_machine.specs.Laws.{Starts, Says, StartsProper}
use Rattle.oak_machine.specs.Runs.{IsRunOf, AreNodes, MayCommit}
use Rattle.core_read.proofs.Falling.{not_both}
use Rattle.core_read.proofs.Latest.{same_revision, before_itself}
use Rattle.core_read.proofs.Told.{edit_committed}
use Rattle.core_heads.proofs.Runs.{fresh_run}
use Rattle.core_begun.specs.Told.{edit_since, start_in, IsToldSince}
use Rattle.core_begun.proofs.Committed.{committed}
use Rattle.core_begun.proofs.Runs.{told_run}
use Rattle.core_merge.specs.Independent.{MarkParents, StartsMarkingParents, AreIndependent, AreMergeable}
use Rattle.core_merge.proofs.Marks.{independent_marks}

-- ---- which of two draws is asked makes no difference

none_any : {X : Type 0} (xs : List X) → list_any (λ x. false) xs ≡ false
none_any [] = refl
none_any (x ∷ xs) = none_any xs

or_twice : (a b c d : Bool) → ((a || b) || (c || d)) ≡ ((a || c) || (b || d))
or_twice true b c d = refl
or_twice false true true d = refl
or_twice false false true d = refl
or_twice false true false d = refl
or_twice false false false d = refl

any_or : {X : Type 0} (f g : X → Bool) (xs : List X) → list_any (λ x. f x || g x) xs ≡ (list_any f xs || list_any g xs)
any_or f g [] = refl
any_or f g (x ∷ xs) = ap (λ b. (f x || g x) || b) (any_or f g xs) ∙ or_twice (f x) (g x) (list_any f xs) (list_any g xs)

any_same : {X : Type 0} (f g : X → Bool) (xs : List X) → ((x : X) → f x ≡ g x) → list_any f xs ≡ list_any g xs
any_same f g [] same = refl
any_same f g (x ∷ xs) same = ap (λ b. b || list_any f xs) (same x) ∙ ap (λ b. g x || b) (any_same f g xs same)

any_turned : {X Y : Type 0} (f : X → Y → Bool) (xs : List X) (ys : List Y) → list_any (λ x. list_any (f x) ys) xs ≡ list_any (λ y. list_any (λ x. f x y) xs) ys
any_turned f [] ys = sym (none_any ys)
any_turned f (x ∷ xs) ys = ap (λ b. list_any (f x) ys || b) (any_turned f xs ys) ∙ sym (any_or (f x) (λ y. list_any (λ x. f x y) xs) ys)

path_ties : IsEquivalence (eq_by_cmp path_cmp)
path_ties = eq_by_cmp_equiv path_total

pub clashing-symm : (ms os : List MarkAt) → clashing ms os ≡ clashing os ms
clashing-symm ms os =
    any_turned (λ (m o : MarkAt). eq_by_cmp path_cmp m.path o.path && clash m.mark o.mark) ms os
    ∙ any_same _ _ os (λ o. any_same (λ (m : MarkAt). eq_by_cmp path_cmp m.path o.path && clash m.mark o.mark) (λ (m : MarkAt). eq_by_cmp path_cmp o.path m.path && clash o.mark m.mark) ms
    (λ m. ap (λ b. b && clash m.mark o.mark) (path_ties.symm m.path o.path) ∙ ap (λ b. eq_by_cmp path_cmp o.path m.path && b) (clash-symm m.mark o.mark)))

-- ---- along a run

drawn : (b ended : Bool) → (b && not ended) ≡ true → b ≡ true
drawn true ended h = refl
drawn false ended h = h

module _ (clusters : ℕ) (sessions : List ℕ) (nodes : AreNodes clusters sessions) (begin : Begin) (starts : Starts) (says : Says) where
  committed_drawn : (past : Past) → IsRunOf starts says clusters sessions begin past → (r : Revision) → is_committed past r ≡ true → is_drawn past r ≡ true
  committed_drawn [] run r h = absurd (false≢true h)
  committed_drawn (event.Commit c ∷ past) run r h = by (is_same r c) refl h (λ k. committed_drawn past run.1 r k)
    where
      by : (b : Bool) → is_same r c ≡ b → (b || is_committed past r) ≡ true → (is_committed past r ≡ true → is_drawn past r ≡ true) → is_drawn past r ≡ true
      by true e k rest = subst (λ (x : Revision). is_drawn past x ≡ true) (sym (same_revision r c e)) (drawn (is_drawn past c) (is_ended past c) run.0.open_.in_flight)
      by false e k rest = rest k
  committed_drawn (event.Draw d ∷ past) run r h = by (is_same r d.revision) (committed_drawn past run.1 r h)
    where
      by : (b : Bool) → is_drawn past r ≡ true → is_some (cond b (Some d) (draw_of past r)) ≡ true
      by true k = refl
      by false k = k
  committed_drawn (e ∷ past) run r h = committed_drawn past run.1 r h

  -- a later draw is of another revision than what is committed
  draw_kept : (past : Past) (d : Draw) → IsRunOf starts says clusters sessions begin (event.Draw d ∷ past) → (r : Revision) → is_committed past r ≡ true → draw_of (event.Draw d ∷ past) r ≡ draw_of past r
  draw_kept past d run r h = by (is_same r d.revision) refl
    where
      by : (b : Bool) → is_same r d.revision ≡ b → cond b (Some d) (draw_of past r) ≡ draw_of past r
      by false e = refl
      by true e = absurd (false≢true (sym (ap is_some (ap (draw_of past) (same_revision r d.revision e) ∙ (fresh_run clusters sessions nodes begin starts says d past run).fresh)) ∙ committed_drawn past run.1 r h))

  -- of two commits that clash, the base of one sees the other
  pub unseen_apart : (past : Past) → IsRunOf starts says clusters sessions begin past → (r o : Revision) → is_committed past r ≡ true → is_committed past o ≡ true → (r ≡ o → ⊥)
      → is_in_base past r o ≡ false → is_in_base past o r ≡ false → are_clashing past r o ≡ false
  unseen_apart [] run r o c k other s t = absurd (false≢true c)
  unseen_apart (event.Commit x ∷ past) run r o c k other s t = by (is_same r x) refl (is_same o x) refl c k (λ c k. unseen_apart past run.1 r o c k other s t)
    where
      by : (a : Bool) → is_same r x ≡ a → (b : Bool) → is_same o x ≡ b → (a || is_committed past r) ≡ true → (b || is_committed past o) ≡ true
          → (is_committed past r ≡ true → is_committed past o ≡ true → are_clashing past r o ≡ false) → are_clashing past r o ≡ false
      by true e true f c k rest = absurd (other (same_revision r x e ∙ sym (same_revision o x f)))
      by true e false f c k rest = subst (λ (y : Revision). is_in_base past y o ≡ false → are_clashing past y o ≡ false) (sym (same_revision r x e)) (λ u. run.0.apart o k u) s
      by false e true f c k rest = clashing-symm (marks_of past r) (marks_of past o)
          ∙ subst (λ (y : Revision). is_in_base past y r ≡ false → are_clashing past y r ≡ false) (sym (same_revision o x f)) (λ u. run.0.apart r c u) t
      by false e false f c k rest = rest c k
  unseen_apart (event.Draw d ∷ past) run r o c k other s t =
      let mine : draw_of (event.Draw d ∷ past) r ≡ draw_of past r = draw_kept past d run r c in
      let theirs : draw_of (event.Draw d ∷ past) o ≡ draw_of past o = draw_kept past d run o k in
      ap (λ (x : Option Draw). clashing (option_map_or (λ d. d.marks) x []) (marks_of (event.Draw d ∷ past) o)) mine
      ∙ (ap (λ (x : Option Draw). clashing (marks_of past r) (option_map_or (λ d. d.marks) x [])) theirs
      ∙ unseen_apart past run.1 r o c k other
      (sym (ap (λ (x : Option Draw). option_map_or (λ d. sees d.base o) x false) mine) ∙ s)
      (sym (ap (λ (x : Option Draw). option_map_or (λ d. sees d.base r) x false) theirs) ∙ t))
  unseen_apart (e ∷ past) run r o c k other s t = unseen_apart past run.1 r o c k other s t

  marks_is : (past : Past) (r : Revision) (d : Draw) → draw_of past r ≡ Some d → marks_of past r ≡ d.marks
  marks_is past r d drawn = ap (λ (x : Option Draw). option_map_or (λ d. d.marks) x []) drawn

  -- each draw has marked the parents of the nodes that it adds or removes
  marked_draws : StartsMarkingParents starts → (past : Past) → IsRunOf starts says clusters sessions begin past → (r : Revision) (d : Draw) → draw_of past r ≡ Some d → MarkParents d.marks d.edit.writes
  marked_draws marking [] run r d h = absurd (false≢true (ap is_some h))
  marked_draws marking (event.Draw e ∷ past) run r d h = by (is_same r e.revision) h (λ k. marked_draws marking past run.1 r d k)
    where
      by : (b : Bool) → cond b (Some e) (draw_of past r) ≡ Some d → (draw_of past r ≡ Some d → MarkParents d.marks d.edit.writes) → MarkParents d.marks d.edit.writes
      by true k rest = subst (λ (x : Draw). MarkParents x.marks x.edit.writes) (ap (λ o. unwrap_or o e) k) (marking _ e.session e.edit e.marks run.0.lawful)
      by false k rest = rest k
  marked_draws marking (e ∷ past) run r d h = marked_draws marking past run.1 r d h

  -- the edit of what is committed is that of its draw
  pub committed_edit : (past : Past) → IsRunOf starts says clusters sessions begin past → (r : Revision) (d : Draw) → is_committed past r ≡ true → draw_of past r ≡ Some d → edit_since past r ≡ Some d.edit.writes
  committed_edit [] run r d c h = absurd (false≢true c)
  committed_edit (event.Commit x ∷ past) run r d c h = by (draw_of past x) refl (λ k. committed_edit past run.1 r d k h)
    where
      at_other : (b : Bool) → is_same r x ≡ b → (e : Draw) → draw_of past x ≡ Some e → (b || is_committed past r) ≡ true → (is_committed past r ≡ true → edit_since past r ≡ Some d.edit.writes) → cond b (Some e.edit.writes) (edit_since past r) ≡ Some d.edit.writes
      at_other true k e is c rest = ap (λ (o : Option Draw). option_map (λ (d : Draw). d.edit.writes) o) (sym is ∙ (ap (draw_of past) (sym (same_revision r x k)) ∙ h))
      at_other false k e is c rest = rest c

      by : (o : Option Draw) → draw_of past x ≡ o → (is_committed past r ≡ true → edit_since past r ≡ Some d.edit.writes) → edit_since (event.Commit x ∷ past) r ≡ Some d.edit.writes
      by None e rest = absurd (false≢true (sym (ap is_some e) ∙ drawn (is_drawn past x) (is_ended past x) run.0.open_.in_flight))
      by (Some e) is rest = committed (begin_tree begin) past x e is r ∙ at_other (is_same r x) refl e is c rest
  committed_edit (event.Draw e ∷ past) run r d c h = committed_edit past run.1 r d c (sym (draw_kept past e run r c) ∙ h)
  committed_edit (e ∷ past) run r d c h = committed_edit past run.1 r d c h

  module _ (proper : StartsProper starts) (marking : StartsMarkingParents starts) (past : Past) (run : IsRunOf starts says clusters sessions begin past) where
    told : IsToldSince (start_in clusters begin) past
    told = told_run starts says proper clusters sessions nodes begin past run

    pub committed_is : (o : Revision) (us : List Write) → edit_since past o ≡ Some us → is_committed past o ≡ true
    committed_is o us e = edit_committed past o (ap is_some e)

    -- draws that don't clash are independent
    independent : (r o : Revision) (d e : Draw) → draw_of past r ≡ Some d → draw_of past o ≡ Some e → are_clashing past r o ≡ false → AreIndependent d.edit.writes e.edit.writes
    independent r o d e h k clear = independent_marks d.marks e.marks d.edit.writes e.edit.writes (told.draws r d h).covers (told.draws o e k).covers (marked_draws marking past run r d h) (marked_draws marking past run o e k)
        (sym (ap (λ (ms : List MarkAt). clashing ms (marks_of past o)) (marks_is past r d h) ∙ ap (clashing d.marks) (marks_is past o e k)) ∙ clear)

    -- two commits of which neither base sees the other
    pub independent_commits : (r o : Revision) (d e : Draw) → is_committed past r ≡ true → is_committed past o ≡ true → draw_of past r ≡ Some d → draw_of past o ≡ Some e → (r ≡ o → ⊥)
        → is_in_base past r o ≡ false → is_in_base past o r ≡ false → AreIndependent d.edit.writes e.edit.writes
    independent_commits r o d e c k h l other s t = independent r o d e h l (unseen_apart past run r o c k other s t)

    -- what may be committed, with each commit that its base doesn't see
    pub independent_of : (r : Revision) (d : Draw) → draw_of past r ≡ Some d → MayCommit past r → (o : Revision) (us : List Write) → edit_since past o ≡ Some us → is_in_base past r o ≡ false → AreIndependent d.edit.writes us
    independent_of r d drawn may o us e unseen =
        let c = told.edits o us e in
        subst (λ (xs : List Write). AreIndependent d.edit.writes xs) c.2 (independent r o d c.0 drawn c.1 (may.apart o (committed_is o us e) unseen))

    pub mergeable : AreMergeable past
    mergeable r o ws us e f before unseen =
        let d = told.edits r ws e in
        let c = told.edits o us f in
        subst (λ (xs : List Write). AreIndependent xs us) d.2 (subst (λ (xs : List Write). AreIndependent (d.0).edit.writes xs) c.2
        (independent_commits r o d.0 c.0 (committed_is r ws e) (committed_is o us f) d.1 c.1 other unseen (unseen_back _ refl)))
      where
        other : r ≡ o → ⊥
        other same = false≢true (sym (before_itself o) ∙ subst (λ (x : Revision). is_before o x ≡ true) same before)

        -- the earlier one doesn't see the later one
        unseen_back : (b : Bool) → is_in_base past o r ≡ b → b ≡ false
        unseen_back true h = absurd (false≢true (sym (not_both o r before) ∙ (told.sound o us f).ready.rises r h))
        unseen_back false h = refl
