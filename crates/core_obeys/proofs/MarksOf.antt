-- The marks of a proper edit of a tree mark what the theorems want.
use Rattle.std.proofs.Common.{◌≡◌, ◌⊎◌, inl, inr, ℕ, Bool, true, false, cond, ◌&&◌, ◌||◌, ◌==◌, not, Some, None, Option, List, [], ◌∷◌, ◌++◌, arith, refl, sym, ap, ◌∙◌, subst, is_some}
use Rattle.std.specs.Option.{option_map_or, unwrap_or}
use Rattle.std.specs.List.{filter_map, find, flat_map, list_any}
use Rattle.std.specs.Map.{keys_of}
use Rattle.std.specs.Ordering.{eq_by_cmp}
use Rattle.std.proofs.lemmas.Bool.Decides.{nat_tests}
use mathlib.Core.Bool.{false≢true}
use Rattle.jr_path.specs.Names.{name_cmp, path_cmp, parent_of}
use Rattle.jr_path.specs.declared.name.Name.{Name}
use Rattle.jr_path.specs.declared.path.Path.{Path}
use Rattle.jr_path.proofs.Parts.{parent_of-child}
use Rattle.jr_value.specs.declared.value.Property.{Property}
use Rattle.jr_tree.specs.declared.edit.Write.{Write}
use Rattle.jr_tree.specs.declared.edit.Write.TheVariants.{Here, Gone, Put, Unset}
use Rattle.jr_tree.specs.Trees.{Nodes, node_at, property_at}
use Rattle.jr_tree.specs.Edits.{applied}
use Rattle.jr_tree.specs.Items.{here_of, put_of, written}
use Rattle.jr_tree.proofs.Pointwise.{same_path}
use Rattle.jr_tree.proofs.Proper.{same_name as name_same}
use Rattle.jr_items.specs.Names.{primary_type, mixin_types, lock_owner, uuid}
use Rattle.jr_items.specs.Items.{child_path, values_in, reference_in, upward}
use Rattle.jcr_ref.specs.References.{target_of, is_target, references_at}
use Rattle.oak_clash.specs.declared.mark.Mark.TheVariants.{Exists, Guard, Touch, Prop}
use Rattle.oak_clash.specs.declared.mark.MarkAt.{MarkAt}
use Rattle.jcr_marks.specs.Marks.{mark_each, moved_by, prop_marks, is_type_name, retyped_by, stays, retyped, locks_anew, is_frozen_anew, is_deepened, is_covered_anew, newly_covered, new_references, marks_of}
use Rattle.core_obeys.proofs.Views.{View, view_of, after, has_stays, prop_stays, some_or_none}
use Rattle.core_obeys.proofs.Clash.{IsStrong, IsMarked, any_in}
use Rattle.core_obeys.proofs.Steps.{Covers, Guards, IsFit, IsLocked, below, is_deep}
use Rattle.core_obeys.proofs.Locks.{true_or_false}
use Rattle.core_obeys.proofs.References.{refers, is_named, IsTarget}
use Rattle.core_obeys.proofs.Paths.{in_upward}
use Rattle.core_obeys.proofs.Covering.{anew, frozen_anew, found}
use Rattle.jcr_marks.proofs.Membership.{Has, IsIn, by_write, in_filter, in_filter_map, in_first, in_flat, in_map, in_order, in_second, moves, passes, some_of}

pub same_number : (a b : ℕ) → (a == b) ≡ true → a ≡ b
same_number a b h = grind (arith, nat_tests)

pub in_any : (id : ℕ) (ks : List ℕ) → list_any (λ k. k == id) ks ≡ true → IsIn id ks
in_any id [] h = absurd (false≢true h)
in_any id (k ∷ ks) h = by (k == id) refl h (in_any id ks)
  where
    by : (b : Bool) → (k == id) ≡ b → (b || list_any (λ k. k == id) ks) ≡ true → (list_any (λ k. k == id) ks ≡ true → IsIn id ks) → IsIn id (k ∷ ks)
    by true e l rest = inl (same_number k id e)
    by false e l rest = inr (rest l)

pub in_keys : (t : Nodes) (p : Path) → is_some (node_at t p) ≡ true → IsIn p (keys_of t)
in_keys [] p h = absurd (false≢true h)
in_keys (e ∷ t) p h =
    (elim (eq_by_cmp path_cmp p e.0) as (λ b. eq_by_cmp path_cmp p e.0 ≡ b → is_some (cond b (Some e.1) (node_at t p)) ≡ true → IsIn p (keys_of (e ∷ t))) [
      | true ↦ λ k s. inl (sym (same_path p e.0 k))
      | false ↦ λ k s. inr (in_keys t p s)
    ]) refl h

pub found_some : (test : Path → Bool) (ps : List Path) (p : Path) → IsIn p ps → test p ≡ true → (q : Path) × (find test ps ≡ Some q)
found_some test [] p i h = absurd i
found_some test (q ∷ ps) p i h = by (test q) refl (λ j. found_some test ps p j h)
  where
    by : (b : Bool) → test q ≡ b → (IsIn p ps → (r : Path) × (find test ps ≡ Some r)) → (r : Path) × (cond b (Some q) (find test ps) ≡ Some r)
    by true e rest = (q, refl)
    by false e rest = elim i [ inl k ↦ absurd (false≢true (sym e ∙ (ap test k ∙ h))) | inr j ↦ rest j ]

-- ---- what writes mark

both_same : (p q : Path) (n m : Name) → (eq_by_cmp path_cmp p q && eq_by_cmp name_cmp n m) ≡ true → (p ≡ q) × (n ≡ m)
both_same p q n m h = (same_path p q (first _ _ h), name_same n m (second _ _ h))
  where
    first : (a b : Bool) → (a && b) ≡ true → a ≡ true
    first true b h = refl
    first false b h = h

    second : (a b : Bool) → (a && b) ≡ true → b ≡ true
    second true b h = h
    second false b h = absurd (false≢true h)

retypes : (p : Path) (n : Name) (o : Option Property) → is_type_name n ≡ true → (w : Write) → put_of p n w ≡ Some o → IsIn p (retyped_by w)
retypes p n o t (Here q) h = absurd (false≢true (ap is_some h))
retypes p n o t (Gone q) h = absurd (false≢true (ap is_some h))
retypes p n o t (Put q m x) h = let same = both_same p q n m (passes _ (Some x) o h) in subst (λ b. IsIn p (cond b (q ∷ []) [])) (sym (ap is_type_name (sym same.1) ∙ t)) (inl (sym same.0))
retypes p n o t (Unset q m) h = let same = both_same p q n m (passes _ None o h) in subst (λ b. IsIn p (cond b (q ∷ []) [])) (sym (ap is_type_name (sym same.1) ∙ t)) (inl (sym same.0))

props : (p : Path) (n : Name) (o : Option Property) (w : Write) → put_of p n w ≡ Some o → Has p (Prop n) (prop_marks w)
props p n o (Here q) h = absurd (false≢true (ap is_some h))
props p n o (Gone q) h = absurd (false≢true (ap is_some h))
props p n o (Put q m x) h = let same = both_same p q n m (passes _ (Some x) o h) in inl (ap (λ (r : Path). record { path = r; mark = Prop m }) (sym same.0) ∙ ap (λ (k : Name). record { path = p; mark = Prop k }) (sym same.1))
props p n o (Unset q m) h = let same = both_same p q n m (passes _ None o h) in inl (ap (λ (r : Path). record { path = r; mark = Prop m }) (sym same.0) ∙ ap (λ (k : Name). record { path = p; mark = Prop k }) (sym same.1))

true_both : (a b : Bool) → a ≡ true → b ≡ true → (a && b) ≡ true
true_both true b h k = k
true_both false b h k = absurd (false≢true h)

or_left : (a b : Bool) → a ≡ true → (a || b) ≡ true
or_left true b h = refl
or_left false b h = absurd (false≢true h)

or_right : (a b : Bool) → b ≡ true → (a || b) ≡ true
or_right true b h = refl
or_right false b h = h

module _ (t : Nodes) (ws : List Write) (fit : IsFit (view_of t) ws) (same : view_of (applied None t ws) ≡ after (view_of t) ws) where
  abbrev u : Nodes
  u = applied None t ws

  abbrev moved : List Path
  moved = flat_map moved_by ws

  abbrev types : List Path
  types = retyped t u ws

  abbrev targets : List Path
  targets = filter_map (target_of u) (flat_map (new_references t) ws)

  -- the four kinds, one after another
  as_exists : (p : Path) → IsIn p moved → Has p Exists (marks_of t ws)
  as_exists p i = in_order _ _ [] (inl (in_first _ (mark_each Exists moved ++ mark_each Guard (types ++ newly_covered t u) ++ mark_each Touch (filter_map parent_of (moved ++ types) ++ targets)) (flat_map prop_marks ws)
      (in_first _ (mark_each Exists moved ++ mark_each Guard (types ++ newly_covered t u)) _ (in_first _ (mark_each Exists moved) _ (in_map Exists p moved i)))))

  as_guard : (p : Path) → IsIn p (types ++ newly_covered t u) → Has p Guard (marks_of t ws)
  as_guard p i = in_order _ _ [] (inl (in_first _ (mark_each Exists moved ++ mark_each Guard (types ++ newly_covered t u) ++ mark_each Touch (filter_map parent_of (moved ++ types) ++ targets)) (flat_map prop_marks ws)
      (in_first _ (mark_each Exists moved ++ mark_each Guard (types ++ newly_covered t u)) _ (in_second _ (mark_each Exists moved) _ (in_map Guard p _ i)))))

  as_touch : (p : Path) → IsIn p (filter_map parent_of (moved ++ types) ++ targets) → Has p Touch (marks_of t ws)
  as_touch p i = in_order _ _ [] (inl (in_first _ (mark_each Exists moved ++ mark_each Guard (types ++ newly_covered t u) ++ mark_each Touch (filter_map parent_of (moved ++ types) ++ targets)) (flat_map prop_marks ws)
      (in_second _ (mark_each Exists moved ++ mark_each Guard (types ++ newly_covered t u)) _ (in_map Touch p _ i))))

  as_prop : (k : MarkAt) → IsIn k (flat_map prop_marks ws) → IsIn k (marks_of t ws)
  as_prop k i = in_order _ _ [] (inl (in_second _ (mark_each Exists moved ++ mark_each Guard (types ++ newly_covered t u) ++ mark_each Touch (filter_map parent_of (moved ++ types) ++ targets)) (flat_map prop_marks ws) i))

  is_moved : (p : Path) → is_some (written (here_of p) ws) ≡ true → IsIn p moved
  is_moved p h = let b = some_of _ h in let w = by_write (here_of p) ws b.0 b.1 in in_flat moved_by w.0 p ws w.1 (moves p b.0 w.0 w.2)

  -- before and after, as they are seen
  has_after_is : (p : Path) → is_some (node_at u p) ≡ (after (view_of t) ws).has p
  has_after_is p = ap (λ (v : View). v.has p) same

  prop_after_is : (p : Path) (n : Name) → property_at u p n ≡ (after (view_of t) ws).prop p n
  prop_after_is p n = ap (λ (v : View). v.prop p n) same

  -- a node whose property is written is there before or after
  there : (p : Path) (n : Name) → is_some (written (put_of p n) ws) ≡ true → written (here_of p) ws ≡ None → (is_some (node_at t p) ≡ true) × (is_some (node_at u p) ≡ true)
  there p n h silent = by (true_or_false (is_some (node_at t p)))
    where
      stays_so : is_some (node_at u p) ≡ is_some (node_at t p)
      stays_so = has_after_is p ∙ has_stays (view_of t) ws p silent

      by : (is_some (node_at t p) ≡ true) ⊎ (is_some (node_at t p) ≡ false) → (is_some (node_at t p) ≡ true) × (is_some (node_at u p) ≡ true)
      by (inl e) = (e, stays_so ∙ e)
      by (inr e) = let o = some_of _ h in
          let none : o.0 ≡ None = sym (ap (λ (w : Option (Option Property)). unwrap_or w (property_at t p n)) o.1) ∙ fit.later.bare p n (sym (has_after_is p) ∙ (stays_so ∙ e)) in
          absurd (fit.change.prop p n o.0 o.1 (fit.before.bare p n e ∙ sym none))

  is_retyped : (p : Path) (n : Name) → is_type_name n ≡ true → is_some (written (put_of p n) ws) ≡ true → IsIn p moved ⊎ IsIn p types
  is_retyped p n k h = elim (some_or_none (written (here_of p) ws)) [
    | inl w ↦ inl (is_moved p w)
    | inr w ↦
        let o = some_of _ h in
        let write = by_write (put_of p n) ws o.0 o.1 in
        let both = there p n h w in
        inr (in_filter (stays t u) p (flat_map retyped_by ws) (in_flat retyped_by write.0 p ws write.1 (retypes p n o.0 k write.0 write.2)) (true_both _ _ both.0 both.1))
  ]

  types_strong : (p : Path) (n : Name) → is_type_name n ≡ true → is_some (written (put_of p n) ws) ≡ true → IsStrong p (marks_of t ws)
  types_strong p n k h = elim (is_retyped p n k h) [ inl i ↦ inl (as_exists p i) | inr i ↦ inr (as_guard p (in_first p types _ i)) ]

  parent_touched : (p : Path) (n : Name) → IsIn (child_path p n) moved ⊎ IsIn (child_path p n) types → IsMarked p (marks_of t ws)
  parent_touched p n h = (Touch, as_touch p (in_first p _ targets (in_filter_map parent_of (child_path p n) p (moved ++ types) (elim h [ inl i ↦ in_first _ moved types i | inr i ↦ in_second _ moved types i ]) (parent_of-child p n))))

  covered_guard : (p : Path) → is_some (node_at t p) ≡ true → is_some (node_at u p) ≡ true → is_covered_anew t u p ≡ true → IsStrong p (marks_of t ws)
  covered_guard p h k c = inr (as_guard p (in_second p types _ (in_filter (λ p. stays t u p && is_covered_anew t u p) p (keys_of u) (in_keys u p k) (true_both (stays t u p) _ (true_both _ _ h k) c))))

  locked_guard : (a : Path) (x : Property) (rest : List Name) → is_some (node_at t (below a rest)) ≡ true → is_some (node_at u (below a rest)) ≡ true → IsLocked (view_of u) a x rest → (IsLocked (view_of t) a x rest → ⊥) → IsStrong (below a rest) (marks_of t ws)
  locked_guard a x rest h k later before = covered_guard (below a rest) h k
      (or_left (list_any (locks_anew t u (below a rest)) (upward (below a rest)) || is_frozen_anew t u (below a rest)) _ (or_left _ _ (any_in (locks_anew t u (below a rest)) a (upward (below a rest)) (in_upward a rest) (anew t u a x rest later before))))

  pub covers_marks : Covers ws (marks_of t ws)
  covers_marks = record {
    node = λ p h. inl (as_exists p (is_moved p h));
    above = λ p n h. parent_touched p n (inl (is_moved (child_path p n) h));
    primary = λ p h. types_strong p primary_type refl h;
    mixins = λ p h. types_strong p mixin_types refl h;
    primary_above = λ p n h. parent_touched p n (is_retyped (child_path p n) primary_type refl h);
    mixins_above = λ p n h. parent_touched p n (is_retyped (child_path p n) mixin_types refl h);
    prop = λ p n h. let o = some_of _ h in let w = by_write (put_of p n) ws o.0 o.1 in as_prop _ (in_flat prop_marks w.0 _ ws w.1 (props p n o.0 w.0 w.2));
    owner = λ p x h. elim (some_or_none (written (here_of p) ws)) [
      | inl w ↦ inl (as_exists p (is_moved p w))
      | inr w ↦ let both = there p lock_owner (ap is_some h) w in
          locked_guard p x [] both.0 both.1 (prop_after_is p lock_owner ∙ ap (λ (w : Option (Option Property)). unwrap_or w (property_at t p lock_owner)) h) (λ k. fit.change.prop p lock_owner (Some x) h k)
    ];
  }

  pub guards_marks : Guards (view_of t) (view_of u) (marks_of t ws)
  guards_marks = record {
    locked = λ a x rest h k later before. locked_guard a x rest h k later before;
    deepened = λ a x h k own deep flat. covered_guard a h k (or_right (list_any (locks_anew t u a) (upward a) || is_frozen_anew t u a) (is_deepened t u a)
        (true_both _ _ (true_both _ _ (ap is_some own) deep) (flat_lock a flat)));
    frozen = λ a rest h k later before. covered_guard (below a rest) h k
        (or_left (list_any (locks_anew t u (below a rest)) (upward (below a rest)) || is_frozen_anew t u (below a rest)) _ (or_right (list_any (locks_anew t u (below a rest)) (upward (below a rest))) _ (frozen_anew t u a rest later before)));
  }
    where
      flat_and : (b c : Bool) → c ≡ false → not (b && c) ≡ true
      flat_and true c e = ap not e
      flat_and false c e = refl

      flat_lock : (a : Path) → is_deep (view_of t) a ≡ false → not (is_some (property_at t a lock_owner) && is_deep (view_of t) a) ≡ true
      flat_lock a e = flat_and (is_some (property_at t a lock_owner)) _ e

  -- the target of a new reference is touched
  pub target_marked : (p : Path) (n : Name) (id : ℕ) → refers id (property_at u p n) ≡ true → refers id (property_at t p n) ≡ false → (q : Path) → IsTarget (view_of u) id q → (q : Path) × IsTarget (view_of u) id q × IsMarked q (marks_of t ws)
  target_marked p n id h k q is = by (some_or_none (written (put_of p n) ws))
    where
      new_of : (x : Property) (w : Write) → put_of p n w ≡ Some (Some x) → refers id (Some x) ≡ true → IsIn id (new_references t w)
      new_of x (Here r) e l = absurd (false≢true (ap is_some e))
      new_of x (Gone r) e l = absurd (false≢true (ap is_some e))
      new_of x (Unset r m) e l = absurd (unset (eq_by_cmp path_cmp p r && eq_by_cmp name_cmp n m) e)
        where
          unset : (b : Bool) → cond b (Some None) None ≡ Some (Some x) → ⊥
          unset true f = false≢true (ap (λ (y : Option (Option Property)). option_map_or is_some y false) f)
          unset false f = false≢true (ap is_some f)
      new_of x (Put r m y) e l =
          let here = both_same p r n m (passes _ (Some y) (Some x) e) in
          let value : y ≡ x = written_value (eq_by_cmp path_cmp p r && eq_by_cmp name_cmp n m) e in
          in_filter (λ id. not (list_any (λ old. old == id) (references_at t r m))) id (filter_map reference_in (values_in y))
          (in_any id _ (ap (λ (z : Property). refers id (Some z)) value ∙ l))
          (ap not (ap (refers id) (ap (λ (z : Path). property_at t z m) (sym here.0) ∙ ap (property_at t p) (sym here.1)) ∙ k))
        where
          written_value : (b : Bool) → cond b (Some (Some y)) None ≡ Some (Some x) → y ≡ x
          written_value true f = ap (λ (z : Option (Option Property)). unwrap_or (unwrap_or z None) y) f
          written_value false f = absurd (false≢true (ap is_some f))

      q_there : is_some (node_at u q) ≡ true
      q_there = elim (true_or_false (is_some (node_at u q))) [
        | inl e ↦ e
        | inr e ↦ absurd (false≢true (sym (ap (is_named id) (prop_after_is q uuid ∙ fit.later.bare q uuid (sym (has_after_is q) ∙ e))) ∙ is))
      ]

      one : (q : Path) × (find (is_target u id) (keys_of u) ≡ Some q)
      one = found_some (is_target u id) (keys_of u) q (in_keys u q q_there) is

      at : (o : Option Property) → written (put_of p n) ws ≡ Some o → refers id o ≡ true → (q : Path) × IsTarget (view_of u) id q × IsMarked q (marks_of t ws)
      at None w l = absurd (false≢true l)
      at (Some x) w l =
          let write = by_write (put_of p n) ws (Some x) w in (
            one.0,
            found (is_target u id) (keys_of u) one.0 one.1,
            (Touch, as_touch one.0 (in_second _ (filter_map parent_of (moved ++ types)) targets (in_filter_map (target_of u) id one.0 (flat_map (new_references t) ws) (in_flat (new_references t) write.0 id ws write.1 (new_of x write.0 write.2 l)) one.1))),
          )

      by : (is_some (written (put_of p n) ws) ≡ true) ⊎ (written (put_of p n) ws ≡ None) → (q : Path) × IsTarget (view_of u) id q × IsMarked q (marks_of t ws)
      by (inr w) = absurd (false≢true (sym k ∙ (ap (refers id) (sym (prop_after_is p n ∙ prop_stays (view_of t) ws p n w)) ∙ h)))
      by (inl w) = let o = some_of _ w in at o.0 o.1 (sym (ap (refers id) (prop_after_is p n ∙ ap (λ (z : Option (Option Property)). unwrap_or z (property_at t p n)) o.1)) ∙ h)
