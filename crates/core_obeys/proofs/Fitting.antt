-- What a proper edit of a tree is, item by item.
use Rattle.std.proofs.Common.{◌≡◌, inl, inr, Bool, true, false, cond, ◌&&◌, not, Some, None, Option, List, [], ◌∷◌, refl, sym, ap, ◌∙◌, subst, is_some}
use Rattle.std.specs.Prelude.{is_none, option_and_then}
use Rattle.std.specs.Option.{option_map_or, unwrap_or}
use Rattle.std.specs.List.{list_all}
use Rattle.std.specs.Map.{lookup}
use Rattle.std.specs.BTreeMap.{is_at}
use Rattle.std.specs.Ordering.{eq_by_cmp}
use mathlib.Core.Bool.{false≢true}
use Rattle.jr_path.specs.Names.{name_cmp, path_cmp}
use Rattle.jr_path.specs.declared.name.Name.{Name}
use Rattle.jr_path.specs.declared.path.Path.{Path}
use Rattle.jr_path.proofs.Parts.{parent_of-child}
use Rattle.jr_rev.specs.declared.revision.Revision.{Revision}
use Rattle.jr_value.specs.declared.value.Property.{Property}
use Rattle.jr_value.specs.Values.{same_property}
use Rattle.jr_value.specs.Equality.{same_property_decides}
use Rattle.jr_tree.specs.declared.tree.Node.{Node}
use Rattle.jr_tree.specs.declared.edit.Write.{Write}
use Rattle.jr_tree.specs.declared.edit.Write.TheVariants.{Here, Gone, Put, Unset}
use Rattle.jr_tree.specs.Trees.{Nodes, node_at, property_at, has_parent, IsTree}
use Rattle.jr_tree.specs.Edits.{applied, is_change, IsProper}
use Rattle.jr_tree.specs.Items.{here_of, put_of}
use Rattle.jr_tree.proofs.EditLaw.{has_applied, property_fitted, Orderly-all}
use Rattle.jr_tree.proofs.Pointwise.{same_path}
use Rattle.jr_tree.proofs.Proper.{same_name, proper_fits}
use Rattle.jr_items.specs.Items.{child_path}
use Rattle.jcr_marks.proofs.Membership.{IsIn, by_write}
use Rattle.core_obeys.proofs.Views.{View, view_of, after}
use Rattle.core_obeys.proofs.Steps.{IsWhole, IsFit}

first : (a b : Bool) → (a && b) ≡ true → a ≡ true
first true b h = refl
first false b h = h

second : (a b : Bool) → (a && b) ≡ true → b ≡ true
second true b h = h
second false b h = absurd (false≢true h)

-- views that agree everywhere are one
pub same_view : (v w : View) → ((p : Path) → v.has p ≡ w.has p) → ((p : Path) (n : Name) → v.prop p n ≡ w.prop p n) → v ≡ w
same_view v w h k = λ i. record { has = λ p. h p i; prop = λ p n. k p n i }

each : (test : Write → Bool) (ws : List Write) → list_all test ws ≡ true → (w : Write) → IsIn w ws → test w ≡ true
each test [] h w i = absurd i
each test (x ∷ ws) h w i = elim i [ inl e ↦ ap test (sym e) ∙ first _ _ h | inr j ↦ each test ws (second _ _ h) w j ]

-- ---- a tree

found_passes : (test : Path → Bool) (p : Path) (t : Nodes) → list_all (λ e. test e.0) t ≡ true → is_some (node_at t p) ≡ true → test p ≡ true
found_passes test p [] h e = absurd (false≢true e)
found_passes test p (x ∷ t) h e =
    (elim (eq_by_cmp path_cmp p x.0) as (λ b. eq_by_cmp path_cmp p x.0 ≡ b → is_some (cond b (Some x.1) (node_at t p)) ≡ true → test p ≡ true) [
      | true ↦ λ k s. subst (λ (q : Path). test q ≡ true) (sym (same_path p x.0 k)) (first _ _ h)
      | false ↦ λ k s. found_passes test p t (second _ _ h) s
    ]) refl e

pub whole : (t : Nodes) → IsTree t → IsWhole (view_of t)
whole t tree = record {
  parent = λ p n h. sym (ap (λ (o : Option Path). option_map_or (λ q. is_some (node_at t q)) o true) (parent_of-child p n)) ∙ found_passes (has_parent t) (child_path p n) t tree.parents h;
  bare = λ p n h. by n (node_at t p) h;
}
  where
    by : (n : Name) (o : Option Node) → is_some o ≡ false → option_and_then (λ node. lookup (is_at (name_cmp n)) node.props) o ≡ None
    by n None h = refl
    by n (Some node) h = absurd (false≢true (sym h))

-- ---- an edit

node_changes : (t u : Nodes) (p : Path) (b : Bool) (w : Write) → is_change t u w ≡ true → here_of p w ≡ Some b → is_some (node_at t p) ≡ b → ⊥
node_changes t u p b (Here q) c h k = by (eq_by_cmp path_cmp p q) refl h
  where
    none : (o : Option Node) → is_none o ≡ true → is_some o ≡ false
    none None e = refl
    none (Some x) e = absurd (false≢true e)

    by : (s : Bool) → eq_by_cmp path_cmp p q ≡ s → cond s (Some true) None ≡ Some b → ⊥
    by false e l = false≢true (ap is_some l)
    by true e l = false≢true (sym (none (node_at t q) (first (is_none (node_at t q)) _ c)) ∙ (ap (λ r. is_some (node_at t r)) (sym (same_path p q e)) ∙ (k ∙ sym (ap (λ o. unwrap_or o b) l))))
node_changes t u p b (Gone q) c h k = by (eq_by_cmp path_cmp p q) refl h
  where
    by : (s : Bool) → eq_by_cmp path_cmp p q ≡ s → cond s (Some false) None ≡ Some b → ⊥
    by false e l = false≢true (ap is_some l)
    by true e l = false≢true (ap (λ o. unwrap_or o b) l ∙ (sym k ∙ (ap (λ r. is_some (node_at t r)) (same_path p q e) ∙ first (is_some (node_at t q)) _ c)))
node_changes t u p b (Put q m x) c h k = false≢true (ap is_some h)
node_changes t u p b (Unset q m) c h k = false≢true (ap is_some h)

prop_changes : (t u : Nodes) (p : Path) (n : Name) (o : Option Property) (w : Write) → is_change t u w ≡ true → put_of p n w ≡ Some o → property_at t p n ≡ o → ⊥
prop_changes t u p n o (Here q) c h k = false≢true (ap is_some h)
prop_changes t u p n o (Gone q) c h k = false≢true (ap is_some h)
prop_changes t u p n o (Put q m x) c h k = by (eq_by_cmp path_cmp p q && eq_by_cmp name_cmp n m) refl h
  where
    by : (s : Bool) → (eq_by_cmp path_cmp p q && eq_by_cmp name_cmp n m) ≡ s → cond s (Some (Some x)) None ≡ Some o → ⊥
    by false e l = false≢true (ap is_some l)
    by true e l =
        let here : property_at t q m ≡ Some x =
        ap (λ r. property_at t r m) (sym (same_path p q (first _ _ e))) ∙ (ap (property_at t p) (sym (same_name n m (second _ _ e))) ∙ (k ∙ sym (ap (λ (y : Option (Option Property)). unwrap_or y None) l))) in
        false≢true (sym (ap not (ap (λ (y : Option Property). option_map_or (same_property x) y false) here ∙ (same_property_decides x x).1 refl)) ∙ first (not (option_map_or (same_property x) (property_at t q m) false)) _ c)
prop_changes t u p n o (Unset q m) c h k = by (eq_by_cmp path_cmp p q && eq_by_cmp name_cmp n m) refl h
  where
    by : (s : Bool) → (eq_by_cmp path_cmp p q && eq_by_cmp name_cmp n m) ≡ s → cond s (Some None) None ≡ Some o → ⊥
    by false e l = false≢true (ap is_some l)
    by true e l =
        let here : property_at t q m ≡ None =
        ap (λ r. property_at t r m) (sym (same_path p q (first _ _ e))) ∙ (ap (property_at t p) (sym (same_name n m (second _ _ e))) ∙ (k ∙ sym (ap (λ (y : Option (Option Property)). unwrap_or y None) l))) in
        false≢true (sym (ap is_some here) ∙ first (is_some (property_at t q m)) _ c)

module _ (t : Nodes) (ws : List Write) (tree : IsTree t) (proper : IsProper t ws) where
  pub applied_view : (born : Option Revision) → view_of (applied born t ws) ≡ after (view_of t) ws
  applied_view born = same_view (view_of (applied born t ws)) (after (view_of t) ws)
      (λ p. has_applied born t ws tree.paths p)
      (λ p n. property_fitted born t ws tree.paths (Orderly-all t tree.names) (proper_fits t ws tree.paths proper) p n)

  pub fit : IsFit (view_of t) ws
  fit = record {
    before = whole t tree;
    later = subst IsWhole (applied_view None) (whole (applied None t ws) proper.tree);
    change = record {
      node = λ p b h k. let w = by_write (here_of p) ws b h in node_changes t (applied None t ws) p b w.0 (each (is_change t (applied None t ws)) ws proper.changing w.0 w.1) w.2 k;
      prop = λ p n o h k. let w = by_write (put_of p n) ws o h in prop_changes t (applied None t ws) p n o w.0 (each (is_change t (applied None t ws)) ws proper.changing w.0 w.1) w.2 k;
    };
  }
