-- Events keep what documents keep since a start, and what is held: the last write with its Commit, draws, ends, bounds, and each other one.
use Rattle.std.proofs.Common.{◌≡◌, ◌⊎◌, inl, inr, ℕ, Bool, true, false, cond, not, ◌&&◌, ◌||◌, Some, None, Option, List, [], ◌∷◌, refl, sym, ap, ◌∙◌, subst, is_some}
use Rattle.std.specs.Option.{option_map, option_map_or, option_or, option_and_then, unwrap_or}
use Rattle.std.specs.Ordering.{eq_by_cmp}
use Rattle.std.specs.List.{filter, list_any}
use mathlib.Core.Bool.{false≢true}
use Rattle.jr_path.specs.Names.{path_cmp}
use Rattle.jr_path.specs.declared.name.Name.{Name}
use Rattle.jr_path.specs.declared.path.Path.{Path}
use Rattle.jr_path.specs.declared.path.DocId.TheVariants as id
use Rattle.jr_rev.specs.declared.revision.Revision.{Revision}
use Rattle.jr_rev.specs.declared.vector.RevVec.{RevVec}
use Rattle.jr_rev.specs.Revisions.{revision_cmp, is_before, is_same}
use Rattle.jr_rev.specs.Vectors.{sees, is_below}
use Rattle.jr_tree.specs.declared.edit.Write.{Write}
use Rattle.jr_tree.specs.Items.{here_of, put_of, written}
use Rattle.jr_tree.proofs.Pointwise.{same_path}
use Rattle.oak_clash.specs.Clashes.{commit_root}
use Rattle.oak_doc.specs.declared.document.Document.{Document}
use Rattle.oak_doc.specs.declared.update.UpdateOp.{UpdateOp}
use Rattle.oak_doc.specs.declared.update.Change.TheVariants as change
use Rattle.oak_doc.specs.Updates.{after_changes, of_revision}
use Rattle.oak_read.specs.Meaning.{Documents, commit_root_of}
use Rattle.oak_read.specs.Shown.{with_previous}
use Rattle.oak_machine.specs.declared.event.Draw.{Draw}
use Rattle.oak_machine.specs.declared.event.Event.{Event}
use Rattle.oak_machine.specs.declared.event.Event.TheVariants as event
use Rattle.oak_machine.specs.History.{Past}
use Rattle.oak_machine.specs.Commits.{draw_of, is_in_base, is_in_flight, is_drawn, is_ended}
use Rattle.oak_machine.specs.Runs.{MayCommit}
use Rattle.core_read.specs.Holds.{has_revision, here_entry, prop_entry, root_entry, is_at_path, IsSameAt, IsSameBut, IsEditWhole, IsUndone}
use Rattle.core_read.specs.Told.{IsIn}
use Rattle.core_read.specs.Committing.{IsUnwritten, IsPartly}
use Rattle.core_read.specs.World.{Progress}
use Rattle.core_read.proofs.Latest.{same_revision}
use Rattle.core_read.proofs.Reading.{sees_below}
use Rattle.core_read.proofs.Told.{is_calm}
use Rattle.core_read.proofs.Steps.{same_root}
use Rattle.core_read.proofs.Updates.{last_same, last_own, last_said}
use Rattle.core_read.proofs.Committing.{others_leave, whole_of, undone_of}
use Rattle.core_read.proofs.Found.{writes_there, here_there, put_there}
use Rattle.core_keep.specs.Standing.{all_at, HasEntryOf}
use Rattle.core_keep.specs.Keeps.{Course, edit_in, Keeps, KeepsAt, IsCourse, IsPrevious}
use Rattle.core_keep.specs.Steps.{IsMainAt}
use Rattle.oak_machine.specs.declared.event.Start.{Start}
use Rattle.core_keep.specs.From.{course_from, falling_from}
use Rattle.core_keep.specs.Journal.{is_bounded, is_swept, Separate, with_progress, is_idle, leaves_held}
use Rattle.core_begun.specs.Told.{edit_since, IsToldSince}
use Rattle.core_begun.specs.Kept.{bounded_since, swept_since, IsHeldSince, IsKeptSince, IsUsedSince}
use Rattle.core_keep.proofs.Item.{not_true, either_true}
use Rattle.core_keep.proofs.Named.{previous_in}
use Rattle.core_keep.proofs.AtPath.{listed, here_is, same_all}
use Rattle.core_keep.proofs.Main.{main_keeps, all_now, listed_kept}
use Rattle.core_keep.proofs.Courses.{IsClean, flying_keeps, bound_keeps, commit_keeps, asked_keeps, clean_undone, clean_else, with_one, gone_main, value_main}
use Rattle.core_begun.proofs.Committed.{committed, split, still_none}
use Rattle.core_begun.proofs.Course.{downward, not_old, separate_commit}
use Rattle.core_begun.proofs.Sound.{falls, found}
use Rattle.core_begun.proofs.Told.{told_commit, told_calm, pending, in_use_commit, in_use_draw, in_use_calm}
use Rattle.core_begun.proofs.World.{course, names, is_write}

module _ (start : Start) where
  or_second : (a b : Bool) → b ≡ true → (a || b) ≡ true
  or_second true b h = refl
  or_second false b h = h

  neither_first : (a b : Bool) → (a || b) ≡ false → a ≡ false
  neither_first true b h = h
  neither_first false b h = refl

  -- ---- the last write, with its Commit

  module _ (ds now : Documents) (past : Past) (done : Progress) (world : IsKeptSince start ds past done) (r : Revision) (dr : Draw) (drawn : draw_of past r ≡ Some dr) (may : MayCommit past r)
      (all : (p : Path) → list_any (is_at_path p) dr.edit.writes ≡ true → done r p ≡ true) (op : UpdateOp) (number : ℕ) (at : op.id ≡ id.Node (commit_root dr.marks)) (only : op.changes ≡ change.Revisions r ∷ [])
      (main : IsMainAt ds now (commit_root dr.marks) (after_changes (ds (id.Node (commit_root dr.marks))) op number)) where
    abbrev root : Path
    root = commit_root dr.marks

    abbrev before : Option Document
    before = ds (id.Node root)

    abbrev d : Document
    d = after_changes before op number

    abbrev ws : List Write
    ws = dr.edit.writes

    abbrev c : Course
    c = course_from start past

    abbrev later : Past
    later = event.Commit r ∷ past

    none : edit_since past r ≡ None
    none = pending start past r dr world.told may drawn

    told : IsToldSince start later
    told = told_commit start past r dr world.told may drawn

    same : IsSameBut r root before d
    same = last_same r root before op number at (names start ds past done world root) only

    own_same : IsSameAt r before d
    own_same = last_own r root before op number at (names start ds past done world root) only

    says : has_revision (Some d) r ≡ true
    says = last_said r root before op number at (names start ds past done world root) only

    whole : IsEditWhole ds r ws root
    whole = whole_of ds r ws root (done r) (world.partly r dr drawn may.open_.in_flight none) all

    edit_now : (q : Revision) → of_revision (falling_from later) q ≡ cond (eq_by_cmp revision_cmp q r) (Some ws) (edit_since past q)
    edit_now q = found later q ∙ committed start.tree past r dr drawn q

    own_edit : of_revision (falling_from later) r ≡ Some ws
    own_edit = edit_now r ∙ ap (λ o. cond (Rattle.std.specs.Ordering.is_eq o) (Some ws) (edit_since past r)) (Rattle.std.specs.Cmp.tied_itself Rattle.jr_rev.proofs.Order.revision_total r)

    other_edit : (q : Revision) → eq_by_cmp revision_cmp q r ≡ false → of_revision (falling_from later) q ≡ edit_in c q
    other_edit q h = edit_now q ∙ (ap (λ b. cond b (Some ws) (edit_since past q)) h ∙ sym (found past q))

    abbrev unasked : Course
    unasked = record c { commits = falling_from later; swept = with_one c.swept r }

    committed_first : Keeps ds unasked
    committed_first = commit_keeps ds c world.keeps r ws (falling_from later) (falls past) (falls later) (found past r ∙ none) (world.bounded.settled r may.open_.in_flight) (not_old start past world.told r may.open_.in_flight) own_edit other_edit whole.node whole.prop

    still_open : (q : Revision) → of_revision (falling_from later) q ≡ None → (eq_by_cmp revision_cmp q r ≡ false) × (edit_since past q ≡ None)
    still_open q e = still_none start.tree past r dr drawn q (sym (found later q) ∙ e)

    unasked_course : IsCourse unasked
    unasked_course = record {
      falls = falls later;
      bound_done = λ q f e. world.bounded.settled q f;
      swept_done = λ q f e. let n = still_open q e in ap (λ b. b || c.swept q) n.0 ∙ (course start ds past done world).swept_done q f (found past q ∙ n.1);
      old_bound = (course start ds past done world).old_bound;
      old_swept = λ q h. or_second (eq_by_cmp revision_cmp q r) (c.swept q) ((course start ds past done world).old_swept q h);
      old_first = λ q x us h e. let g = told.edits x us (sym (found later x) ∙ e) in (told.draws x g.0 g.1).after q h;
    }

    same_at : (q : Revision) (b : Bool) → eq_by_cmp revision_cmp q r ≡ b → IsSameAt q before d
    same_at q false h = same.at q h
    same_at q true h = subst (λ (x : Revision). IsSameAt x before d) (sym (same_revision q r h)) own_same

    written_then : Keeps now unasked
    written_then = main_keeps ds now unasked committed_first unasked_course root d main (λ q. false) (λ q h. absurd (false≢true h)) (record {
      at = λ q h. same_at q (eq_by_cmp revision_cmp q r) refl;
      said = λ q h k. by q k (eq_by_cmp revision_cmp q r) refl;
      unsaid = λ q e o k. same.said q (still_open q e).0 ∙ k;
      whole = same.whole;
      named = same.named;
    })
      where
        by : (q : Revision) → has_revision before q ≡ true → (b : Bool) → eq_by_cmp revision_cmp q r ≡ b → has_revision (Some d) q ≡ true
        by q k true h = subst (λ (x : Revision). has_revision (Some d) x ≡ true) (sym (same_revision q r h)) says
        by q k false h = same.said q h ∙ k

    -- an entry of r is a write of its edit
    writes_here : (p : Path) (o : Option Document) → here_entry o r ≡ written (here_of p) ws → ((n : Name) → prop_entry o n r ≡ written (put_of p n) ws) → (x : Document) → o ≡ Some x → HasEntryOf r x → list_any (is_at_path p) ws ≡ true
    writes_here p o node prop x e (inl h) = writes_there (here_of p) (is_at_path p) (here_there p) ws (ap is_some (sym node ∙ ap (λ o. here_entry o r) e) ∙ some_not (of_revision x.deleted r) h)
      where
        some_not : (o : Option Bool) → is_some o ≡ true → is_some (option_map not o) ≡ true
        some_not None h = h
        some_not (Some b) h = refl
    writes_here p o node prop x e (inr h) = writes_there (put_of p h.0) (is_at_path p) (put_there p h.0) ws (ap is_some (sym (prop h.0) ∙ ap (λ o. prop_entry o h.0 r) e) ∙ h.1)

    value : {X : Type 0} (x y : X) → Some x ≡ Some y → x ≡ y
    value x y h = ap (λ o. unwrap_or o x) h

    -- its commit root is the document written now
    root_now : (p : Path) (x : Document) → now (id.Node p) ≡ Some x → HasEntryOf r x → commit_root_of x r ≡ id.Node root
    root_now p x h entry = by (eq_by_cmp path_cmp p root) refl
      where
        of_root : (o : Option Document) → before ≡ o → option_map (λ d. commit_root_of d r) o ≡ Some (id.Node root) → commit_root_of d r ≡ id.Node root
        of_root None e k = absurd (false≢true (ap is_some k))
        of_root (Some old) e k = same_root old d root r (names start ds past done world root old e) same.named (own_same.root ∙ ap (λ o. root_entry o r) e) ∙ value _ _ k

        at_root : d ≡ x → commit_root_of x r ≡ id.Node root
        at_root one = ap (λ (y : Document). commit_root_of y r) (sym one)
            ∙ of_root before refl (whole.rooted root (writes_here root (Some d) (own_same.here ∙ whole.node root) (λ n. own_same.prop n ∙ whole.prop root n) d refl (subst (λ (y : Document). HasEntryOf r y) (sym one) entry)))

        by : (b : Bool) → eq_by_cmp path_cmp p root ≡ b → commit_root_of x r ≡ id.Node root
        by true k = at_root (value d x (sym main.at ∙ (ap (λ (y : Path). now (id.Node y)) (sym (same_path p root k)) ∙ h)))
        by false k =
            let e : ds (id.Node p) ≡ Some x = sym (main.elsewhere.node p k) ∙ h in
            value _ _ (sym (ap (λ o. option_map (λ d. commit_root_of d r) o) e) ∙ whole.rooted p (writes_here p (ds (id.Node p)) (whole.node p) (whole.prop p) x e entry))

    -- a previous document has no entry of r
    none_listed : (p : Path) (x : Document) → IsIn x (listed ds p (ds (id.Node p))) → HasEntryOf r x → ⊥
    none_listed p x i entry = by (ds (id.Node p)) refl i
      where
        by : (o : Option Document) → ds (id.Node p) ≡ o → IsIn x (listed ds p o) → ⊥
        by None e i = i
        by (Some old) e i =
            let g = previous_in ds p old.prev x i in
            at_entry x ((world.keeps p).previous old e g.0 g.1 x g.2) entry
          where
            at_entry : (y : Document) {k : ℕ} → IsPrevious c p old k y → HasEntryOf r y → ⊥
            at_entry y is (inl h) = false≢true (ap (λ (es : List (Revision × Bool)). is_some (of_revision es r)) (sym is.plain) ∙ h)
            at_entry y is (inr h) = false≢true (sym (ap (λ o. is_some o || sees start.at r) (found past r ∙ none) ∙ not_old start past world.told r may.open_.in_flight) ∙ is.done h.0 r h.1)

    asked : (p : Path) (x : Document) → IsIn x (all_at now p) → HasEntryOf r x → has_revision (now (commit_root_of x r)) r ≡ true
    asked p x i entry = by (eq_by_cmp path_cmp p root) refl
      where
        found : (y : Document) → now (id.Node p) ≡ Some y → y ≡ x → has_revision (now (commit_root_of x r)) r ≡ true
        found y h one = ap (λ i. has_revision (now i) r) (root_now p x (h ∙ ap (λ (z : Document). Some z) one) entry) ∙ (ap (λ o. has_revision o r) main.at ∙ says)

        at_else : (o : Option Document) → ds (id.Node p) ≡ o → now (id.Node p) ≡ ds (id.Node p) → IsIn x (option_map_or (with_previous ds p) o []) → has_revision (now (commit_root_of x r)) r ≡ true
        at_else None e k j = absurd j
        at_else (Some old) e k (inl one) = found old (k ∙ e) one
        at_else (Some old) e k (inr j) = absurd (none_listed p x (subst (λ o. IsIn x (listed ds p o)) (sym e) j) entry)

        at_root : p ≡ root → IsIn x (all_at now root) → has_revision (now (commit_root_of x r)) r ≡ true
        at_root same_p j = elim (subst (λ l. IsIn x l) (all_now ds now root d main) j) [
          | inl one ↦ found d (ap (λ (y : Path). now (id.Node y)) same_p ∙ main.at) one
          | inr k ↦ absurd (none_listed root x (subst (λ l. IsIn x l) (listed_kept ds now root d main same.whole) k) entry)
        ]

        by : (b : Bool) → eq_by_cmp path_cmp p root ≡ b → has_revision (now (commit_root_of x r)) r ≡ true
        by true k = at_root (same_path p root k) (subst (λ (y : Path). IsIn x (all_at now y)) (same_path p root k) i)
        by false k = at_else (ds (id.Node p)) refl (main.elsewhere.node p k) (subst (λ l. IsIn x l) (same_all ds now root p (main.elsewhere.node p k) (λ d e h i. main.elsewhere.previous e.number p k)) i)

    pub kept_last : IsKeptSince start now later done
    kept_last = record {
      first = world.first;
      keeps = asked_keeps now (course_from start later) r written_then asked;
      told = told;
      separate = separate_commit start past r dr world.told may drawn world.separate;
      bounded = record {
        settled = λ o f. world.bounded.settled o f;
        closed = λ o us e. split start.tree past r dr drawn (λ o us. bounded_since start past o ≡ true → (q : Revision) → is_in_base past o q ≡ true → bounded_since start past q ≡ true)
            (λ h. absurd (false≢true (sym (world.bounded.settled r may.open_.in_flight) ∙ h))) o us e (λ f. world.bounded.closed o us f);
      };
      swept = world.swept;
      partly = λ q e h f n. let k = still_none start.tree past r dr drawn q n in others_leave ds now root d (is_write start ds now root d main) q e.edit.writes (commit_root e.marks) (done q) (names start ds past done world) same.named (same.at q k.0) (world.partly q e h f k.1);
    }

  -- ---- a Draw

  flew : (b c n : Bool) (d : Draw) (o : Option Draw) → (is_some (cond b (Some d) o) && not n) ≡ false → (is_some o && not n) ≡ false
  flew true c n d None h = refl
  flew true c n d (Some e) h = h
  flew false c n d o h = h

  module _ (ds : Documents) (past : Past) (done : Progress) (world : IsKeptSince start ds past done) (d : Draw) (fresh : draw_of past d.revision ≡ None) (none : edit_since past d.revision ≡ None) (told : IsToldSince start (event.Draw d ∷ past))
      (unbounded : bounded_since start past d.revision ≡ false) (unswept : swept_since start past d.revision ≡ false) where
    calm : is_in_flight past d.revision ≡ false
    calm = ap (λ o. is_some o && not (is_ended past d.revision)) fresh

    -- the new revision isn't of the start
    fresh_old : sees start.at d.revision ≡ false
    fresh_old = neither_first (sees start.at d.revision) _ unbounded

    clean : (p : Path) → IsUnwritten (ds (id.Node p)) d.revision
    clean p =
        let at : KeepsAt ds (course_from start past) p = world.keeps p in
        let e : edit_in (course_from start past) d.revision ≡ None = found past d.revision ∙ none in
        let k : IsClean ds p d.revision = clean_else ds (course_from start past) p at d.revision e fresh_old calm in
        record {
          node = here_is (ds (id.Node p)) d.revision ∙ ap (option_map not) (sym (gone_main ds (course_from start past) p at d.revision) ∙ k.gone);
          prop = λ n. sym (value_main ds (course_from start past) p at d.revision (ap (λ o. is_some o || sees start.at d.revision) e ∙ fresh_old) n) ∙ k.value n;
          root = k.root;
        }

    edited : (q : Revision) (us : List Write) → edit_since past q ≡ Some us → eq_by_cmp revision_cmp q d.revision ≡ false
    edited q us e = not_true _ (λ h. false≢true (sym (ap is_some none) ∙ (ap (λ (x : Revision). is_some (edit_since past x)) (sym (same_revision q d.revision h)) ∙ ap is_some e)))

    base_kept : (q : Revision) → eq_by_cmp revision_cmp q d.revision ≡ false → is_in_base (event.Draw d ∷ past) q ≡ is_in_base past q
    base_kept q h = ap {B = Revision → Bool} (λ (b : Bool) (o : Revision). option_map_or (λ (e : Draw). sees e.base o) (cond b (Some d) (draw_of past q)) false) h

    pub kept_draw : IsKeptSince start ds (event.Draw d ∷ past) (with_progress done d.revision (λ p. false))
    kept_draw = record {
      first = world.first;
      keeps = flying_keeps ds (course_from start past) world.keeps (is_in_flight (event.Draw d ∷ past)) (λ p q e o f. clean_else ds (course_from start past) p (world.keeps p) q e o (flew (is_same q d.revision) true (is_ended past q) d (draw_of past q) f));
      told = told;
      separate = λ q us e. subst (λ (s : Revision → Bool). (o : Revision) (vs : List Write) → edit_since past o ≡ Some vs → is_before o q ≡ true → s o ≡ false → Separate us vs) (sym (base_kept q (edited q us e))) (world.separate q us e);
      bounded = record {
        settled = λ o. at_settled o (eq_by_cmp revision_cmp o d.revision) refl;
        closed = λ o us e. subst (λ (s : Revision → Bool). bounded_since start past o ≡ true → (x : Revision) → s x ≡ true → bounded_since start past x ≡ true) (sym (base_kept o (edited o us e))) (world.bounded.closed o us e);
      };
      swept = λ o. at_swept o (eq_by_cmp revision_cmp o d.revision) refl;
      partly = λ q e h f n. by q e n (eq_by_cmp revision_cmp q d.revision) refl h f;
    }
      where
        at_settled : (o : Revision) (b : Bool) → eq_by_cmp revision_cmp o d.revision ≡ b → (is_some (cond b (Some d) (draw_of past o)) && not (is_ended past o)) ≡ true → bounded_since start past o ≡ false
        at_settled o true h f = ap (bounded_since start past) (same_revision o d.revision h) ∙ unbounded
        at_settled o false h f = world.bounded.settled o f

        at_swept : (o : Revision) (b : Bool) → eq_by_cmp revision_cmp o d.revision ≡ b → (is_some (cond b (Some d) (draw_of past o)) && not (is_ended past o)) ≡ true → swept_since start past o ≡ false
        at_swept o true h f = ap (swept_since start past) (same_revision o d.revision h) ∙ unswept
        at_swept o false h f = world.swept o f

        by : (q : Revision) (e : Draw) → edit_since past q ≡ None → (b : Bool) → eq_by_cmp revision_cmp q d.revision ≡ b → cond b (Some d) (draw_of past q) ≡ Some e → (is_some (cond b (Some d) (draw_of past q)) && not (is_ended past q)) ≡ true → IsPartly ds q e.edit.writes (commit_root e.marks) (λ x. cond b false (done q x))
        by q e n false k h f = world.partly q e h f n
        by q e n true k h f = subst (λ (x : Revision). IsPartly ds x e.edit.writes (commit_root e.marks) (λ p. false)) (sym (same_revision q d.revision k)) (record { written_ = λ p h. absurd (false≢true h); left = λ p h. clean p })

  -- ---- an End

  still_flying : (past : Past) (r o : Revision) → is_in_flight (event.End r ∷ past) o ≡ true → is_in_flight past o ≡ true
  still_flying past r o h = by (is_drawn past o) (is_same o r) (is_ended past o) h
    where
      by : (a b c : Bool) → (a && not (b || c)) ≡ true → (a && not c) ≡ true
      by true true c h = absurd (false≢true h)
      by true false c h = h
      by false b c h = h

  -- of what is committed, or of what has nothing written any more
  pub kept_end : (ds : Documents) (past : Past) (done : Progress) → IsKeptSince start ds past done → (r : Revision) (dr : Draw) → draw_of past r ≡ Some dr → is_in_flight past r ≡ true → (edit_since past r ≡ None → (p : Path) → done r p ≡ false) → IsKeptSince start ds (event.End r ∷ past) done
  kept_end ds past done world r dr drawn flying none = record {
    first = world.first;
    keeps = flying_keeps ds (course_from start past) world.keeps (is_in_flight (event.End r ∷ past)) (λ p q e o f. by p q e o (eq_by_cmp revision_cmp q r) refl f);
    told = told_calm start past (event.End r) refl world.told;
    separate = world.separate;
    bounded = record { settled = λ o f. world.bounded.settled o (still_flying past r o f); closed = world.bounded.closed };
    swept = λ o f. world.swept o (still_flying past r o f);
    partly = λ q e h f n. world.partly q e h (still_flying past r q f) n;
  }
    where
      by : (p : Path) (q : Revision) → edit_in (course_from start past) q ≡ None → sees start.at q ≡ false → (b : Bool) → eq_by_cmp revision_cmp q r ≡ b → (is_drawn past q && not (b || is_ended past q)) ≡ false → IsClean ds p q
      by p q e o false k f = clean_else ds (course_from start past) p (world.keeps p) q e o f
      by p q e o true k f =
          let one : q ≡ r = same_revision q r k in
          let n : edit_since past r ≡ None = sym (ap (edit_since past) one) ∙ (sym (found past q) ∙ e) in
          clean_undone ds (course_from start past) p (world.keeps p) q (ap (λ x. is_some x || sees start.at q) e ∙ o)
          (subst (λ (x : Revision). IsUndone ds x) (sym one) (undone_of ds r dr.edit.writes (commit_root dr.marks) (done r) (world.partly r dr drawn flying n) (none n)))

  -- ---- a bound

  module _ (ds : Documents) (past : Past) (done : Progress) (world : IsKeptSince start ds past done) (m t : RevVec) (in_use : IsUsedSince past (sees m)) (done_below : (o : Revision) → is_in_flight past o ≡ true → sees t o ≡ false) where
    or_first : (a b : Bool) → a ≡ true → (a || b) ≡ true
    or_first true b h = refl
    or_first false b h = absurd (false≢true h)

    neither : (a b : Bool) → a ≡ false → b ≡ false → (a || b) ≡ false
    neither true b h k = absurd (false≢true (sym h))
    neither false b h k = k

    -- what was seen is seen, and what a new one sees
    more_seen : (a b c : Bool) → (a || c) ≡ true → (a || (b || c)) ≡ true
    more_seen true b c h = refl
    more_seen false b c h = or_second b c h

    seen_once : (a b c : Bool) → (a || (b || c)) ≡ true → (b ≡ true) ⊎ ((a || c) ≡ true)
    seen_once true b c h = inr refl
    seen_once false true c h = inl refl
    seen_once false false c h = inr h

    seen_new : (a b c : Bool) → b ≡ true → (a || (b || c)) ≡ true
    seen_new true b c h = refl
    seen_new false b c h = or_first b c h

    none_seen : (a b c : Bool) → b ≡ false → (a || c) ≡ false → (a || (b || c)) ≡ false
    none_seen true b c h k = k
    none_seen false b c h k = neither b c h k

    pub kept_bound : IsKeptSince start ds (event.Bound m t ∷ past) done
    kept_bound = record {
      first = world.first;
      keeps = bound_keeps ds (course_from start past) world.keeps (course start ds past done world) (bounded_since start (event.Bound m t ∷ past)) (swept_since start (event.Bound m t ∷ past))
          (λ r h. more_seen (sees start.at r) (sees m r) _ h) (λ r h. more_seen (sees start.at r) (sees t r) _ h) (λ r f e. none_seen (sees start.at r) (sees m r) _ (in_use.settled r f) (world.bounded.settled r f))
          (downward start past world.told world.separate (bounded_since start past) world.bounded.closed);
      told = told_calm start past (event.Bound m t) refl world.told;
      separate = world.separate;
      bounded = record {
        settled = λ o f. none_seen (sees start.at o) (sees m o) _ (in_use.settled o f) (world.bounded.settled o f);
        closed = λ o us e h q b. elim (seen_once (sees start.at o) (sees m o) (is_bounded past o) h) [ inl k ↦ seen_new (sees start.at q) (sees m q) _ (in_use.closed o us e k q b) | inr k ↦ more_seen (sees start.at q) (sees m q) _ (world.bounded.closed o us e k q b) ];
      };
      swept = λ o f. none_seen (sees start.at o) (sees t o) _ (done_below o f) (world.swept o f);
      partly = world.partly;
    }

  -- ---- each other event

  pub idle_calm : (e : Event) → is_idle e ≡ true → is_calm e ≡ true
  idle_calm (event.Draw d) h = h
  idle_calm (event.Commit r) h = h
  idle_calm e h = refl

  pub kept_idle : (ds : Documents) (past : Past) (done : Progress) (e : Event) → is_idle e ≡ true → IsKeptSince start ds past done → IsKeptSince start ds (e ∷ past) done
  kept_idle ds past done (event.Draw d) h world = absurd (false≢true h)
  kept_idle ds past done (event.Commit r) h world = absurd (false≢true h)
  kept_idle ds past done (event.End r) h world = absurd (false≢true h)
  kept_idle ds past done (event.Bound m t) h world = absurd (false≢true h)
  kept_idle ds past done e h world = record {
    first = world.first;
    keeps = world.keeps;
    told = told_calm start past e (idle_calm e h) world.told;
    separate = world.separate;
    bounded = record { settled = world.bounded.settled; closed = world.bounded.closed };
    swept = world.swept;
    partly = world.partly;
  }

  -- ---- what is held

  pub held_commit : (past : Past) (r : Revision) (dr : Draw) → IsToldSince start past → MayCommit past r → draw_of past r ≡ Some dr → (v t : RevVec) → IsHeldSince start past v t → IsHeldSince start (event.Commit r ∷ past) v t
  held_commit past r dr told may drawn v t held = record {
    base = in_use_commit start past r dr told may drawn v held.base;
    quiet = λ q s e. held.quiet q s (still_none start.tree past r dr drawn q e).1;
    above = held.above;
    swept = held.swept;
  }

  pub held_draw : (past : Past) (d : Draw) → IsToldSince start past → draw_of past d.revision ≡ None → (v t : RevVec) → sees v d.revision ≡ false → sees t d.revision ≡ false → IsHeldSince start past v t → IsHeldSince start (event.Draw d ∷ past) v t
  held_draw past d told fresh v t unseen unswept held = record {
    base = in_use_draw start past d told fresh v held.base unseen;
    quiet = λ q s e. by q s e (eq_by_cmp revision_cmp q d.revision) refl;
    above = held.above;
    swept = held.swept;
  }
    where
      by : (q : Revision) → sees t q ≡ true → edit_since past q ≡ None → (b : Bool) → eq_by_cmp revision_cmp q d.revision ≡ b → (is_some (cond b (Some d) (draw_of past q)) && not (is_ended past q)) ≡ false
      by q s e true h = absurd (false≢true (sym unswept ∙ (ap (sees t) (sym (same_revision q d.revision h)) ∙ s)))
      by q s e false h = held.quiet q s e

  pub held_bound : (past : Past) (m s v t : RevVec) → is_below m v ≡ true → is_below s t ≡ true → IsHeldSince start past v t → IsHeldSince start (event.Bound m s ∷ past) v t
  held_bound past m s v t below below_swept held = record {
    base = in_use_calm start past (event.Bound m s) v refl held.base;
    quiet = held.quiet;
    above = λ r h. elim (split_seen (sees start.at r) (sees m r) (is_bounded past r) h) [ inl k ↦ sees_below m v below r k | inr k ↦ held.above r k ];
    swept = λ r h. elim (split_seen (sees start.at r) (sees s r) (is_swept past r) h) [ inl k ↦ sees_below s t below_swept r k | inr k ↦ held.swept r k ];
  }
    where
      split_seen : (a b c : Bool) → (a || (b || c)) ≡ true → (b ≡ true) ⊎ ((a || c) ≡ true)
      split_seen true b c h = inr refl
      split_seen false true c h = inl refl
      split_seen false false c h = inr h

  calm_of : (e : Event) → leaves_held e ≡ true → is_calm e ≡ true
  calm_of (event.Draw d) h = h
  calm_of (event.Commit r) h = h
  calm_of e h = refl

  ended_quiet : (a b c : Bool) → (a && not c) ≡ false → (a && not (b || c)) ≡ false
  ended_quiet true true c h = refl
  ended_quiet true false c h = h
  ended_quiet false b c h = refl

  pub held_else : (past : Past) (e : Event) (v t : RevVec) → leaves_held e ≡ true → IsHeldSince start past v t → IsHeldSince start (e ∷ past) v t
  held_else past (event.Draw d) v t h held = absurd (false≢true h)
  held_else past (event.Commit r) v t h held = absurd (false≢true h)
  held_else past (event.Bound m s) v t h held = absurd (false≢true h)
  held_else past (event.End r) v t h held = record {
    base = in_use_calm start past (event.End r) v refl held.base;
    quiet = λ q s e. ended_quiet (is_drawn past q) (is_same q r) (is_ended past q) (held.quiet q s e);
    above = held.above;
    swept = held.swept;
  }
  held_else past e v t h held = record { base = in_use_calm start past e v (calm_of e h) held.base; quiet = held.quiet; above = held.above; swept = held.swept }
