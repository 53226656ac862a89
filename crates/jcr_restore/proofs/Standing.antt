-- Which nodes stand at and below a path after a restore, and what they come from.
use Rattle.std.proofs.Common.{◌≡◌, Bool, true, false, cond, ◌++◌, Some, None, Option, List, [], ◌∷◌, drop, length, refl, sym, ap, ◌∙◌, subst, append_assoc, append-nil}
use Rattle.std.specs.Prelude.{is_some}
use Rattle.std.specs.Ordering.{eq_by_cmp, is_eq, ordering_then}
use Rattle.std.specs.Option.{option_and_then, option_map_or, option_or}
use Rattle.std.specs.List.{fold, list_all}
use Rattle.std.specs.BTreeMap.{is_at}
use Rattle.std.proofs.Math.Seq.{drop-append_seam}
use Rattle.std.proofs.lemmas.Bool.{and_from, and_parts, false≢true}
use Rattle.std.proofs.lemmas.Cmp.{nat_list_cmp_total, tied_itself}
use Rattle.std.proofs.lemmas.Map.Entries.{lookup-filter-keys}
use Rattle.jr_path.specs.Names.{is_under, path_cmp}
use Rattle.jr_path.specs.declared.name.Name.{Name}
use Rattle.jr_path.specs.declared.path.Path.{Path}
use Rattle.jr_path.proofs.Maps.{path_exact, path_total}
use Rattle.jr_path.proofs.Parts.{below_is_prefix, parent_of-child}
use Rattle.jr_tree.specs.declared.tree.Node.{Node}
use Rattle.jr_tree.specs.Trees.{IsTree, Nodes, has_parent, node_at, subtree_of}
use Rattle.jr_tree.proofs.Entries.{sorted_filter}
use Rattle.jr_tree.proofs.Pointwise.{same_path}
use Rattle.jr_types.specs.declared.TypeDef.{TypeDef}
use Rattle.jcr_frozen.specs.Frozen.{frozen_copy, frozen_tree, is_frozen_down, is_frozen_with}
use Rattle.jcr_restore.specs.Restored.{brought, fate_below, is_brought, is_staying, place_of, restored, with_staying}
use Rattle.jcr_restore.proofs.Folded.{found_folded, found_mapped, if_passed}
use Rattle.jcr_restore.proofs.PropertiesBack.{or_none}

-- ---- paths below a path

pub under_itself : (p ns : Path) → is_under (p ++ ns) p ≡ true
under_itself p ns = (below_is_prefix (p ++ ns) p).1 (ns, refl)

-- behind one path two paths differ as without it
pub same_front : (p a b : Path) → eq_by_cmp path_cmp (p ++ a) (p ++ b) ≡ eq_by_cmp path_cmp a b
same_front [] a b = refl
same_front (n ∷ p) a b = ap (λ o. is_eq (ordering_then o (path_cmp (p ++ a) (p ++ b)))) (tied_itself nat_list_cmp_total n) ∙ same_front p a b

-- a path below f is f with these names where its place at p is p with them
alike_below : (p f ns : Path) (q : Path) → is_under q f ≡ true → eq_by_cmp path_cmp (p ++ ns) (place_of p f q) ≡ eq_by_cmp path_cmp (f ++ ns) q
alike_below p f ns q h =
    let more = (below_is_prefix q f).0 h in
    let rest : drop (length f) q ≡ more.0 = ap (drop (length f)) more.1 ∙ drop-append_seam f more.0 in
    ap (λ (r : Path). eq_by_cmp path_cmp (p ++ ns) (p ++ r)) rest
    ∙ (same_front p ns more.0 ∙ (sym (same_front f ns more.0) ∙ sym (ap (λ (r : Path). eq_by_cmp path_cmp (f ++ ns) r) more.1)))

-- ---- the nodes at and below a path

pub node_below : (t : Nodes) (p ns : Path) → node_at (subtree_of t p) (p ++ ns) ≡ node_at t (p ++ ns)
node_below t p ns = lookup-filter-keys (is_at (path_cmp (p ++ ns))) (λ q. is_under q p) true (λ q h. subst (λ (r : Path). is_under r p ≡ true) (same_path (p ++ ns) q h) (under_itself p ns)) t

pub all_below : (p : Path) (t : Nodes) → list_all (λ e. is_under e.0 p) (subtree_of t p) ≡ true
all_below p [] = refl
all_below p (e ∷ t) = by (is_under e.0 p) refl (all_below p t)
  where
    by : (b : Bool) → is_under e.0 p ≡ b → list_all (λ e. is_under e.0 p) (subtree_of t p) ≡ true → list_all (λ e. is_under e.0 p) (cond b (e ∷ subtree_of t p) (subtree_of t p)) ≡ true
    by true h rest = and_from _ _ h rest
    by false h rest = rest

-- what all paths of a tree pass, a path that is found passes
pub found_passes : (test : Path → Bool) (p : Path) (t : Nodes) → list_all (λ e. test e.0) t ≡ true → is_some (node_at t p) ≡ true → test p ≡ true
found_passes test p [] h e = absurd (false≢true e)
found_passes test p (x ∷ t) h e =
    (elim (eq_by_cmp path_cmp p x.0) as (λ b. eq_by_cmp path_cmp p x.0 ≡ b → is_some (cond b (Some x.1) (node_at t p)) ≡ true → test p ≡ true) [
      | true ↦ λ k s. subst (λ (q : Path). test q ≡ true) (sym (same_path p x.0 k)) (and_parts _ _ h).0
      | false ↦ λ k s. found_passes test p t (and_parts _ _ h).1 s
    ]) refl e

parent_there : (t : Nodes) → IsTree t → (p : Path) (n : Name) → is_some (node_at t (p ++ n ∷ [])) ≡ true → is_some (node_at t p) ≡ true
parent_there t tree p n h =
    sym (ap (λ (o : Option Path). option_map_or (λ q. is_some (node_at t q)) o true) (parent_of-child p n)) ∙ found_passes (has_parent t) (p ++ n ∷ []) t tree.parents h

-- above a node that is there each node is there
pub above_there : (t : Nodes) → IsTree t → (p ns : Path) → is_some (node_at t (p ++ ns)) ≡ true → is_some (node_at t p) ≡ true
above_there t tree p [] h = subst (λ (q : Path). is_some (node_at t q) ≡ true) (append-nil p) h
above_there t tree p (n ∷ ns) h =
    parent_there t tree p n (above_there t tree (p ++ n ∷ []) ns (subst (λ (q : Path). is_some (node_at t q) ≡ true) (sym (append_assoc p (n ∷ []) ns)) h))

-- ---- the frozen nodes of p

pub frozen_below : (types : List TypeDef) (t : Nodes) (p f ns : Path) → IsTree t
    → node_at (frozen_tree types t p f) (f ++ ns) ≡ option_and_then (λ node. cond (is_frozen_down types t p ns) (Some (frozen_copy types node)) None) (node_at t (p ++ ns))
frozen_below types t p f ns tree =
    found_mapped path_cmp path_cmp path_total path_total path_exact (λ e. is_frozen_with types t p e.0) (λ q. f ++ drop (length p) q) (λ e. frozen_copy types e.1) (f ++ ns) (p ++ ns) (λ e. is_under e.0 p)
    (λ e h. alike_below f p ns e.0 h) (subtree_of t p) (sorted_filter path_cmp _ t tree.paths) (all_below p t)
    ∙ (ap (if_passed (λ e. is_frozen_with types t p e.0) (λ e. frozen_copy types e.1) (p ++ ns)) (node_below t p ns)
    ∙ ap (λ (ms : Path). option_and_then (λ node. cond (is_frozen_down types t p ms) (Some (frozen_copy types node)) None) (node_at t (p ++ ns))) (drop-append_seam p ns))

-- ---- the nodes after a restore

staying_below : (types : List TypeDef) (t : Nodes) (p f ns : Path) → IsTree t
    → node_at (fold (with_staying types t p f) [] (subtree_of t p)) (p ++ ns) ≡ option_and_then (λ node. cond (is_staying (fate_below types t p f ns)) (Some node) None) (node_at t (p ++ ns))
staying_below types t p f ns tree =
    found_folded path_cmp path_cmp path_total path_total path_exact (λ e. is_staying (fate_below types t p f (drop (length p) e.0))) (λ q. q) (λ e. e.1) (p ++ ns) (p ++ ns) (λ e. is_under e.0 p)
    (λ e h. refl) (subtree_of t p) [] (sorted_filter path_cmp _ t tree.paths) (all_below p t)
    ∙ (or_none _
    ∙ (ap (if_passed (λ e. is_staying (fate_below types t p f (drop (length p) e.0))) (λ e. e.1) (p ++ ns)) (node_below t p ns)
    ∙ ap (λ (ms : Path). option_and_then (λ node. cond (is_staying (fate_below types t p f ms)) (Some node) None) (node_at t (p ++ ns))) (drop-append_seam p ns)))

-- a node stands after a restore where it is brought to its frozen node, or stays
pub restored_below : (types : List TypeDef) (t : Nodes) (p f ns : Path) → IsTree t
    → node_at (restored types t p f) (p ++ ns)
    ≡ option_or (option_and_then (λ frozen. cond (is_brought (fate_below types t p f ns)) (Some (brought types t (p ++ ns) frozen)) None) (node_at t (f ++ ns)))
    (option_and_then (λ node. cond (is_staying (fate_below types t p f ns)) (Some node) None) (node_at t (p ++ ns)))
restored_below types t p f ns tree =
    found_folded path_cmp path_cmp path_total path_total path_exact (λ e. is_brought (fate_below types t p f (drop (length f) e.0))) (place_of p f) (λ e. brought types t (place_of p f e.0) e.1) (p ++ ns) (f ++ ns) (λ e. is_under e.0 f)
    (λ e h. alike_below p f ns e.0 h) (subtree_of t f) (fold (with_staying types t p f) [] (subtree_of t p)) (sorted_filter path_cmp _ t tree.paths) (all_below f t)
    ∙ (ap (option_or (if_passed (λ e. is_brought (fate_below types t p f (drop (length f) e.0))) (λ e. brought types t (place_of p f e.0) e.1) (f ++ ns) (node_at (subtree_of t f) (f ++ ns)))) (staying_below types t p f ns tree)
    ∙ ap (λ (o : Option Node). option_or o (option_and_then (λ node. cond (is_staying (fate_below types t p f ns)) (Some node) None) (node_at t (p ++ ns))))
    (ap (if_passed (λ e. is_brought (fate_below types t p f (drop (length f) e.0))) (λ e. brought types t (place_of p f e.0) e.1) (f ++ ns)) (node_below t f ns)
    ∙ ap (λ (ms : Path). option_and_then (λ frozen. cond (is_brought (fate_below types t p f ms)) (Some (brought types t (p ++ ms) frozen)) None) (node_at t (f ++ ns))) (drop-append_seam f ns)))
