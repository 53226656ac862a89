-- A draw that may follow a run may begin.
use Rattle.std.proofs.Common.{◌≡◌, ◌⊎◌, inl, inr, ℕ, Bool, true, false, cond, Option, Some, List, [], ◌∷◌, ◌++◌, refl, sym, ap, subst, ◌∙◌, fold, None}
use Rattle.std.specs.Option.{option_map_or}
use Rattle.std.specs.List.{flat_map}
use Rattle.std.specs.Map.{keys_of}
use Rattle.std.specs.BTreeMap.{insert_entry}
use Rattle.std.specs.Ordering.{is_eq, ordering_then}
use Rattle.std.specs.declared.cmp.Ordering.{Ordering}
use Rattle.std.specs.declared.cmp.Ordering.TheVariants.{Less, Equal, Greater}
use mathlib.Core.Bool.{false≢true}
use Rattle.jr_path.specs.Names.{path_cmp}
use Rattle.jr_path.specs.declared.name.Name.{Name}
use Rattle.jr_path.specs.declared.path.Path.{Path}
use Rattle.jr_path.proofs.Maps.{path_exact, name_exact}
use Rattle.jr_tree.specs.declared.edit.Edit.{Edit}
use Rattle.jr_tree.specs.declared.edit.Write.{Write}
use Rattle.jr_tree.specs.Trees.{Nodes}
use Rattle.oak_clash.specs.declared.mark.Mark.{Mark}
use Rattle.oak_clash.specs.declared.mark.Mark.TheVariants.{Exists, Guard, Touch, Prop}
use Rattle.oak_clash.specs.declared.mark.MarkAt.{MarkAt}
use Rattle.oak_machine.specs.declared.event.Draw.{Draw}
use Rattle.oak_machine.specs.declared.event.Event.TheVariants as event
use Rattle.oak_machine.specs.Commits.{draw_of, tree_at}
use Rattle.oak_machine.specs.History.{Begin, begin_at}
use Rattle.jr_rev.specs.declared.revision.Revision.{Revision}
use Rattle.jr_rev.specs.Vectors.{sees}
use Rattle.core_read.proofs.Latest.{before_itself}
use Rattle.core_begun.specs.Told.{start_in, IsGoodSince}
use Rattle.core_begun.proofs.Runs.{told_run}
use Rattle.oak_machine.specs.Laws.{Starts, Says, StartsProper, AreOfWrites, is_of_item}
use Rattle.oak_machine.specs.Marks.{Marked, mark_cmp, mark_at_cmp, marks_of_write, marks_for, with_marks}
use Rattle.oak_machine.specs.Runs.{IsRunOf, AreNodes}
use Rattle.core_heads.proofs.Begins.{begins_run}
use Rattle.core_clash.specs.Views.{In, Once, mark_at, NamesItems}
use Rattle.core_clash.specs.Core.{Core, MayDrawAnew}
use Rattle.core_clash.proofs.Basics.{In-left, In-right, In-append, is_same_self}
use Rattle.core_clash.proofs.Firsts.{In-filter, In-from_filter}
use Rattle.core_clash.proofs.Meetings.{In-insert, In-from_insert}

-- ---- marks that tie are the same

unlike : {A : Type 0} (o : Ordering) → is_eq o ≡ false → o ≡ Equal → A
unlike o h k = absurd (false≢true (sym h ∙ ap is_eq k))

mark_exact : (a b : Mark) → mark_cmp a b ≡ Equal → a ≡ b
mark_exact Exists Exists h = refl
mark_exact Exists Guard h = unlike Less refl h
mark_exact Exists Touch h = unlike Less refl h
mark_exact Exists (Prop n) h = unlike Less refl h
mark_exact Guard Exists h = unlike Greater refl h
mark_exact Guard Guard h = refl
mark_exact Guard Touch h = unlike Less refl h
mark_exact Guard (Prop n) h = unlike Less refl h
mark_exact Touch Exists h = unlike Greater refl h
mark_exact Touch Guard h = unlike Greater refl h
mark_exact Touch Touch h = refl
mark_exact Touch (Prop n) h = unlike Less refl h
mark_exact (Prop m) Exists h = unlike Greater refl h
mark_exact (Prop m) Guard h = unlike Greater refl h
mark_exact (Prop m) Touch h = unlike Greater refl h
mark_exact (Prop m) (Prop n) h = ap (λ (x : Name). Prop x) (name_exact m n h)

mark_at_exact : (a b : MarkAt) → mark_at_cmp a b ≡ Equal → a ≡ b
mark_at_exact a b h = by (path_cmp a.path b.path) refl h
  where
    by : (o : Ordering) → path_cmp a.path b.path ≡ o → ordering_then o (mark_cmp a.mark b.mark) ≡ Equal → a ≡ b
    by Equal e k = ap (λ (p : Path). record { path = p; mark = a.mark }) (path_exact a.path b.path e) ∙ ap (λ (m : Mark). record { path = b.path; mark = m }) (mark_exact a.mark b.mark k)
    by Less e k = unlike Less refl k
    by Greater e k = unlike Greater refl k

-- ---- the marks of an edit are those of its writes

with_to : (k : MarkAt) (ms : List MarkAt) (es : Marked) → In k ms ⊎ In k (keys_of es) → In k (keys_of (with_marks es ms))
with_to k [] es (inl h) = absurd h
with_to k [] es (inr h) = h
with_to k (m ∷ ms) es (inl (inl e)) = with_to k ms (insert_entry mark_at_cmp es m true) (inr (In-insert mark_at_cmp mark_at_exact es m k (inl e)))
with_to k (m ∷ ms) es (inl (inr h)) = with_to k ms (insert_entry mark_at_cmp es m true) (inl h)
with_to k (m ∷ ms) es (inr h) = with_to k ms (insert_entry mark_at_cmp es m true) (inr (In-insert mark_at_cmp mark_at_exact es m k (inr h)))

with_from : (k : MarkAt) (ms : List MarkAt) (es : Marked) → In k (keys_of (with_marks es ms)) → In k ms ⊎ In k (keys_of es)
with_from k [] es h = inr h
with_from k (m ∷ ms) es h = by (with_from k ms (insert_entry mark_at_cmp es m true) h)
  where
    last : (k ≡ m) ⊎ In k (keys_of es) → In k (m ∷ ms) ⊎ In k (keys_of es)
    last (inl e) = inl (inl e)
    last (inr i) = inr i

    by : In k ms ⊎ In k (keys_of (insert_entry mark_at_cmp es m true)) → In k (m ∷ ms) ⊎ In k (keys_of es)
    by (inl i) = inl (inr i)
    by (inr i) = last (In-from_insert mark_at_cmp es m k i)

writes_to : (k : MarkAt) (ws : List Write) (es : Marked) → In k (flat_map marks_of_write ws) ⊎ In k (keys_of es) → In k (keys_of (fold (λ es w. with_marks es (marks_of_write w)) es ws))
writes_to k [] es (inl h) = absurd h
writes_to k [] es (inr h) = h
writes_to k (w ∷ ws) es (inl h) = writes_to k ws (with_marks es (marks_of_write w)) (by (In-append k (marks_of_write w) (flat_map marks_of_write ws) h))
  where
    by : In k (marks_of_write w) ⊎ In k (flat_map marks_of_write ws) → In k (flat_map marks_of_write ws) ⊎ In k (keys_of (with_marks es (marks_of_write w)))
    by (inl i) = inr (with_to k (marks_of_write w) es (inl i))
    by (inr i) = inl i
writes_to k (w ∷ ws) es (inr h) = writes_to k ws (with_marks es (marks_of_write w)) (inr (with_to k (marks_of_write w) es (inr h)))

writes_from : (k : MarkAt) (ws : List Write) (es : Marked) → In k (keys_of (fold (λ es w. with_marks es (marks_of_write w)) es ws)) → In k (flat_map marks_of_write ws) ⊎ In k (keys_of es)
writes_from k [] es h = inr h
writes_from k (w ∷ ws) es h = by (writes_from k ws (with_marks es (marks_of_write w)) h)
  where
    last : In k (marks_of_write w) ⊎ In k (keys_of es) → In k (marks_of_write w ++ flat_map marks_of_write ws) ⊎ In k (keys_of es)
    last (inl i) = inl (In-left k (marks_of_write w) _ i)
    last (inr i) = inr i

    by : In k (flat_map marks_of_write ws) ⊎ In k (keys_of (with_marks es (marks_of_write w))) → In k (marks_of_write w ++ flat_map marks_of_write ws) ⊎ In k (keys_of es)
    by (inl i) = inl (In-right k (marks_of_write w) _ i)
    by (inr i) = last (with_from k (marks_of_write w) es i)

-- marks whose Exists and Props are those of the edit name just its items
pub names_items : (t : Nodes) (edit : Edit) (ms : List MarkAt) → AreOfWrites t edit ms → NamesItems ms edit.writes
names_items t edit ms are k item = (to, from)
  where
    there : In k (flat_map marks_of_write edit.writes) ⊎ In k [] → In k (flat_map marks_of_write edit.writes)
    there (inl h) = h
    there (inr h) = absurd h

    to : In k ms → In k (flat_map marks_of_write edit.writes)
    to h = there (writes_from k edit.writes [] (In-from_filter is_of_item k (marks_for t edit.writes) (subst (λ (xs : List MarkAt). In k xs) are (In-filter is_of_item k ms h item))).0)

    from : In k (flat_map marks_of_write edit.writes) → In k ms
    from h = (In-from_filter is_of_item k ms (subst (λ (xs : List MarkAt). In k xs) (sym are) (In-filter is_of_item k (marks_for t edit.writes) (writes_to k edit.writes [] (inl h)) item))).0

pub may_begin : (clusters : ℕ) (sessions : List ℕ) → AreNodes clusters sessions → (starts : Starts) (says : Says) → StartsProper starts → (s : Core) (begin : Begin) (d : Draw) (left : List Path) → ((o : Revision) → s.old o ≡ true → sees (begin_at clusters begin) o ≡ true) → IsRunOf starts says clusters sessions begin (event.Draw d ∷ s.past) → ((p : Path) (m : Mark) → In (mark_at p m) d.marks → In p left) → Once left → MayDrawAnew s d left
may_begin clusters sessions nodes starts says proper s begin d left known run covers once = record {
  begins = begins_run clusters sessions nodes begin starts says d s.past run;
  sees_old = λ o old. sym (ap (λ (x : Option Draw). option_map_or (λ (e : Draw). sees e.base o) x false) here) ∙ good.begins o (known o old);
  new = by (s.old d.revision) refl;
  covers = covers;
  once = once;
  entries = names_items (tree_at begin s.past d.base) d.edit d.marks (proper _ d.session d.edit d.marks d.base run.0.base run.0.lawful).1;
}
  where
    here : draw_of (event.Draw d ∷ s.past) d.revision ≡ Some d
    here = ap (λ b. cond b (Some d) (draw_of s.past d.revision)) (is_same_self d.revision)

    good : IsGoodSince (start_in clusters begin) (event.Draw d ∷ s.past) d.revision d
    good = (told_run starts says proper clusters sessions nodes begin (event.Draw d ∷ s.past) run).draws d.revision d here

    by : (b : Bool) → s.old d.revision ≡ b → b ≡ false
    by true old = absurd (false≢true (sym (before_itself d.revision) ∙ good.after d.revision (known d.revision old)))
    by false old = refl
