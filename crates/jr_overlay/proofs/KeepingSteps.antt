-- Steps that keep a tree: none, one node more, a subtree that goes, and one that moves.
use Rattle.std.proofs.Common.{◌≡◌, ◌⊎◌, inl, inr, Bool, true, false, cond, [], ◌∷◌, ◌++◌, Option, None, Some, is_some, refl, sym, ap, ◌∙◌, append_assoc}
use Rattle.std.specs.Option.{unwrap_or}
use Rattle.std.specs.Ordering.{eq_by_cmp}
use Rattle.std.specs.List.{fold}
use Rattle.std.specs.FinMap.{is_sorted}
use mathlib.Core.Bool.{false≢true}
use Rattle.basics.proofs.Options.{none_unless}
use Rattle.jr_path.specs.Names.{is_under, name_cmp, parent_of, path_cmp}
use Rattle.jr_path.specs.declared.name.Name.{Name}
use Rattle.jr_path.specs.declared.path.Path.{Path}
use Rattle.jr_path.proofs.Maps.{path_total, lookup-insert_entry}
use Rattle.jr_path.proofs.Parts.{below_is_prefix, parent_of-child}
use Rattle.jr_tree.specs.declared.tree.Node.{Node}
use Rattle.jr_tree.specs.Trees.{IsTree, Nodes, node_at, subtree_of}
use Rattle.jr_tree.proofs.Entries.{sorted_insert}
use Rattle.jr_tree.proofs.Pointwise.{same_path}
use Rattle.jr_overlay.specs.Overlays.{whole_view}
use Rattle.jr_overlay.specs.Drafts.{Steps, drafted, with_step}
use Rattle.jr_overlay.specs.Views.{KeepTree, step_at}
use Rattle.jr_overlay.proofs.Below.{at_under}
use Rattle.jr_overlay.proofs.Children.{ends}

-- ---- no steps, and one step more

pub nothing_keeps : (v : Nodes) → IsTree v → KeepTree (whole_view v) []
nothing_keeps v tree = record {
  paths = refl;
  names = λ p node h. absurd (false≢true (ap is_some h));
  root = tree.root;
  above = λ p q node h above. absurd (false≢true (ap is_some h));
  below = λ p q h above. absurd (false≢true (ap is_some h));
}

pub at_step : (steps : Steps) (p : Path) (o : Option Node) (q : Path) → step_at (with_step steps p o) q ≡ cond (eq_by_cmp path_cmp q p) (Some o) (step_at steps q)
at_step steps p o q = lookup-insert_entry path_cmp path_total q p o steps

-- what is drafted after one step more
pub after_step : (v : Nodes) (steps : Steps) (p : Path) (o : Option Node) (q : Path)
    → drafted (whole_view v) (with_step steps p o) q ≡ cond (eq_by_cmp path_cmp q p) o (drafted (whole_view v) steps q)
after_step v steps p o q = ap (λ (x : Option (Option Node)). unwrap_or x (node_at v q)) (at_step steps p o q) ∙ by (eq_by_cmp path_cmp q p)
  where
    by : (b : Bool) → unwrap_or (cond b (Some o) (step_at steps q)) (node_at v q) ≡ cond b o (drafted (whole_view v) steps q)
    by true = refl
    by false = refl

module _ (v : Nodes) (steps : Steps) (p : Path) (node : Node) (keep : KeepTree (whole_view v) steps) where
  abbrev more : Steps
  more = with_step steps p (Some node)

  after_more : (q : Path) → drafted (whole_view v) more q ≡ cond (eq_by_cmp path_cmp q p) (Some node) (drafted (whole_view v) steps q)
  after_more = after_step v steps p (Some node)

  stays_there : (q : Path) → is_some (drafted (whole_view v) steps q) ≡ true → is_some (drafted (whole_view v) more q) ≡ true
  stays_there q h = ap is_some (after_more q) ∙ by (eq_by_cmp path_cmp q p)
    where
      by : (b : Bool) → is_some (cond b (Some node) (drafted (whole_view v) steps q)) ≡ true
      by true = refl
      by false = h

  of_both : (new : Node) → ◌≡◌ {A = Option (Option Node)} (Some (Some node)) (Some (Some new)) → node ≡ new
  of_both new e = ap (λ (o : Option (Option Node)). unwrap_or (unwrap_or o None) node) e

  pub one_more_keeps : is_sorted name_cmp node.props ≡ true → ((q : Path) → parent_of p ≡ Some q → is_some (drafted (whole_view v) steps q) ≡ true) → KeepTree (whole_view v) more
  one_more_keeps sorted parent = record {
    paths = sorted_insert path_cmp path_total p (Some node) steps keep.paths;
    names = λ r new is. names r new (eq_by_cmp path_cmp r p) refl (sym (at_step steps p (Some node) r) ∙ is);
    root = stays_there [] keep.root;
    above = λ r q new is up. above r q new up (eq_by_cmp path_cmp r p) refl (sym (at_step steps p (Some node) r) ∙ is);
    below = λ r q is up. below r q up (eq_by_cmp path_cmp r p) refl (sym (at_step steps p (Some node) r) ∙ is);
  }
    where
      names : (r : Path) (new : Node) (b : Bool) → eq_by_cmp path_cmp r p ≡ b → cond b (Some (Some node)) (step_at steps r) ≡ Some (Some new) → is_sorted name_cmp new.props ≡ true
      names r new true same is = ap (λ (n : Node). is_sorted name_cmp n.props) (sym (of_both new is)) ∙ sorted
      names r new false same is = keep.names r new is

      above : (r q : Path) (new : Node) → parent_of r ≡ Some q → (b : Bool) → eq_by_cmp path_cmp r p ≡ b → cond b (Some (Some node)) (step_at steps r) ≡ Some (Some new) → is_some (drafted (whole_view v) more q) ≡ true
      above r q new up true same is = stays_there q (parent q (ap parent_of (sym (same_path r p same)) ∙ up))
      above r q new up false same is = stays_there q (keep.above r q new is up)

      apart : (r q : Path) → parent_of q ≡ Some r → step_at steps r ≡ Some None → (b : Bool) → eq_by_cmp path_cmp q p ≡ b → cond b (Some node) (drafted (whole_view v) steps q) ≡ None
      apart r q up is false other = keep.below r q is up
      apart r q up is true same =
          absurd (false≢true (ap (λ (o : Option (Option Node)). is_some (unwrap_or o (node_at v r))) (sym is) ∙ parent r (ap parent_of (sym (same_path q p same)) ∙ up)))

      below : (r q : Path) → parent_of q ≡ Some r → (b : Bool) → eq_by_cmp path_cmp r p ≡ b → cond b (Some (Some node)) (step_at steps r) ≡ Some None → drafted (whole_view v) more q ≡ None
      below r q up true same is = absurd (false≢true (sym (ap (λ (o : Option (Option Node)). is_some (unwrap_or o None)) is)))
      below r q up false same is = after_more q ∙ apart r q up is (eq_by_cmp path_cmp q p) refl

-- ---- paths below others

-- what has a path above it is that path with one name more
pub below_parent : (q r : Path) → parent_of q ≡ Some r → (n : Name) × (q ≡ r ++ n ∷ [])
below_parent q r up = by (ends q)
  where
    by : (q ≡ []) ⊎ ((above : Path) × (n : Name) × (q ≡ above ++ n ∷ [])) → (n : Name) × (q ≡ r ++ n ∷ [])
    by (inl e) = absurd (false≢true (ap (λ (x : Path). is_some (parent_of x)) (sym e) ∙ ap is_some up))
    by (inr s) =
        let same : s.0 ≡ r = ap (λ (o : Option Path). unwrap_or o s.0) (sym (parent_of-child s.0 s.1) ∙ (ap parent_of (sym s.2) ∙ up)) in
        (s.1, s.2 ∙ ap (λ (x : Path). x ++ s.1 ∷ []) same)

pub under_more : (r p k : Path) → is_under r p ≡ true → is_under (r ++ k) p ≡ true
under_more r p k h =
    let b = (below_is_prefix r p).0 h in
    (below_is_prefix (r ++ k) p).1 (b.0 ++ k, ap (λ (x : Path). x ++ k) b.1 ∙ append_assoc p b.0 k)

root_apart : (p : Path) → (p ≡ [] → ⊥) → is_under [] p ≡ false
root_apart [] h = absurd (h refl)
root_apart (n ∷ p) h = refl

-- ---- a subtree goes

abbrev pub gone : Steps → Nodes → Steps
gone steps nodes = fold (λ s e. with_step s e.0 None) steps nodes

sorted-gone : (steps : Steps) (nodes : Nodes) → is_sorted path_cmp steps ≡ true → is_sorted path_cmp (gone steps nodes) ≡ true
sorted-gone steps [] s = s
sorted-gone steps (e ∷ nodes) s = sorted-gone (with_step steps e.0 None) nodes (sorted_insert path_cmp path_total e.0 None steps s)

step_at-gone : (steps : Steps) (nodes : Nodes) (q : Path) → step_at (gone steps nodes) q ≡ cond (is_some (node_at nodes q)) (Some None) (step_at steps q)
step_at-gone steps [] q = refl
step_at-gone steps (e ∷ nodes) q =
    step_at-gone (with_step steps e.0 None) nodes q
    ∙ (ap (λ (o : Option (Option Node)). cond (is_some (node_at nodes q)) (Some None) o) (at_step steps e.0 None q)
    ∙ by (eq_by_cmp path_cmp q e.0) (node_at nodes q))
  where
    by : (b : Bool) (n : Option Node) → cond (is_some n) (Some None) (cond b (Some None) (step_at steps q)) ≡ cond (is_some (cond b (Some e.1) n)) (Some None) (step_at steps q)
    by true None = refl
    by true (Some x) = refl
    by false n = refl

-- what is drafted where the nodes of v below p go: none where one of them stood
pub after_gone : (v : Nodes) (steps : Steps) (p q : Path)
    → drafted (whole_view v) (gone steps (subtree_of v p)) q
    ≡ cond (is_some (cond (is_under q p) (node_at v q) None)) None (drafted (whole_view v) steps q)
after_gone v steps p q =
    ap (λ (o : Option (Option Node)). unwrap_or o (node_at v q)) (step_at-gone steps (subtree_of v p) q)
    ∙ (ap (λ (o : Option Node). unwrap_or (cond (is_some o) (Some None) (step_at steps q)) (node_at v q)) (at_under p q v)
    ∙ by (is_some (cond (is_under q p) (node_at v q) None)))
  where
    by : (b : Bool) → unwrap_or (cond b (Some None) (step_at steps q)) (node_at v q) ≡ cond b None (drafted (whole_view v) steps q)
    by true = refl
    by false = refl

-- where nothing is drafted below p but nodes of v, these may go from what keeps a tree
module _ (v : Nodes) (steps : Steps) (p : Path) (keep : KeepTree (whole_view v) steps) (below_root : p ≡ [] → ⊥)
    (stood : (q : Path) → is_under q p ≡ true → is_some (drafted (whole_view v) steps q) ≡ true → is_some (node_at v q) ≡ true) where
  abbrev away : Steps
  away = gone steps (subtree_of v p)

  after_away : (q : Path) → drafted (whole_view v) away q ≡ cond (is_under q p) None (drafted (whole_view v) steps q)
  after_away q = after_gone v steps p q ∙ by (is_under q p) refl (node_at v q) refl
    where
      by : (b : Bool) → is_under q p ≡ b → (o : Option Node) → node_at v q ≡ o
          → cond (is_some (cond b o None)) None (drafted (whole_view v) steps q) ≡ cond b None (drafted (whole_view v) steps q)
      by false h o is = refl
      by true h (Some x) is = refl
      by true h None is = none_unless _ (λ there. false≢true (sym (ap is_some is) ∙ stood q h there))

  -- a node that is put still isn't below p
  put_out : (q : Path) (node : Node) → step_at away q ≡ Some (Some node) → (is_under q p ≡ false) × (step_at steps q ≡ Some (Some node))
  put_out q node is =
      by (is_under q p) refl
      (ap (λ (o : Option Node). cond (is_some o) (Some None) (step_at steps q)) (sym (at_under p q v)) ∙ (sym (step_at-gone steps (subtree_of v p) q) ∙ is))
    where
      put : (b : Bool) → cond b (Some None) (step_at steps q) ≡ Some (Some node) → (b ≡ false) × (step_at steps q ≡ Some (Some node))
      put true e = absurd (false≢true (ap (λ (o : Option (Option Node)). is_some (unwrap_or o None)) e))
      put false e = (refl, e)

      by : (b : Bool) → is_under q p ≡ b → cond (is_some (cond b (node_at v q) None)) (Some None) (step_at steps q) ≡ Some (Some node)
          → (b ≡ false) × (step_at steps q ≡ Some (Some node))
      by false h e = (refl, e)
      by true h e =
          let at = put (is_some (node_at v q)) e in
          absurd (false≢true (sym at.0 ∙ stood q h (ap (λ (o : Option (Option Node)). is_some (unwrap_or o (node_at v q))) at.1)))

  -- the node above what isn't below p isn't below p
  out_above : (q r : Path) → parent_of q ≡ Some r → is_under q p ≡ false → is_under r p ≡ false
  out_above q r up out = by (is_under r p) refl
    where
      by : (b : Bool) → is_under r p ≡ b → b ≡ false
      by false h = refl
      by true h =
          let b = below_parent q r up in
          sym (under_more r p (b.0 ∷ []) h) ∙ (ap (λ (x : Path). is_under x p) (sym b.1) ∙ out)

  -- where the node above what isn't below p was taken, it was before
  taken_out : (r : Path) → is_under r p ≡ false → step_at away r ≡ Some None → step_at steps r ≡ Some None
  taken_out r out is =
      ap (λ b. cond (is_some (cond b (node_at v r) None)) (Some None) (step_at steps r)) (sym out)
      ∙ (ap (λ (o : Option Node). cond (is_some o) (Some None) (step_at steps r)) (sym (at_under p r v)) ∙ (sym (step_at-gone steps (subtree_of v p) r) ∙ is))

  pub more_gone_keeps : KeepTree (whole_view v) away
  more_gone_keeps = record {
    paths = sorted-gone steps (subtree_of v p) keep.paths;
    names = λ q node is. keep.names q node (put_out q node is).1;
    root = ap is_some (after_away []) ∙ (ap (λ b. is_some (cond b None (drafted (whole_view v) steps []))) (root_apart p below_root) ∙ keep.root);
    above = λ q r node is up.
        let out = put_out q node is in
        ap is_some (after_away r) ∙ (ap (λ b. is_some (cond b None (drafted (whole_view v) steps r))) (out_above q r up out.0) ∙ keep.above q r node out.1 up);
    below = λ r q is up. after_away q ∙ below r q is up (is_under q p) refl;
  }
    where
      below : (r q : Path) → step_at away r ≡ Some None → parent_of q ≡ Some r → (b : Bool) → is_under q p ≡ b → cond b None (drafted (whole_view v) steps q) ≡ None
      below r q is up true h = refl
      below r q is up false h = keep.below r q (taken_out r (out_above q r up h) is) up

pub gone_keeps : (v : Nodes) → IsTree v → (p : Path) → (p ≡ [] → ⊥) → KeepTree (whole_view v) (gone [] (subtree_of v p))
gone_keeps v tree p below_root = more_gone_keeps v [] p (nothing_keeps v tree) below_root (λ q under there. there)
