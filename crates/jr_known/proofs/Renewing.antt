-- What is known of an earlier tree becomes what is known of the new one, a told path at a time.
use Rattle.std.proofs.Common.{◌≡◌, zero, suc, Bool, true, false, cond, Some, None, Option, List, [], ◌∷◌, ◌++◌, is_some, refl, sym, ap, ◌∙◌, subst, arith}
use Rattle.std.specs.Prelude.{Contains}
use Rattle.std.specs.BTreeMap.{is_at}
use Rattle.std.specs.FinMap.{is_sorted}
use Rattle.std.specs.List.{fold}
use Rattle.std.specs.Map.{lookup}
use Rattle.std.specs.Option.{unwrap_or}
use Rattle.std.specs.Ordering.{eq_by_cmp}
use Rattle.std.proofs.lemmas.Bool.{false≢true}
use Rattle.std.proofs.lemmas.Cmp.{eq_by_cmp_equiv, nat_list_cmp_total}
use Rattle.jr_path.specs.Names.{name_cmp, path_cmp}
use Rattle.jr_path.specs.declared.name.Name.{Name}
use Rattle.jr_path.specs.declared.path.Path.{Path}
use Rattle.jr_path.proofs.Maps.{lookup-insert_entry, name_exact, path_total}
use Rattle.jr_tree.specs.declared.tree.Node.{Node}
use Rattle.jr_tree.specs.Trees.{IsTree, Nodes, dated_children_of, node_at}
use Rattle.jr_tree.proofs.Entries.{lookup-remove, same_lists}
use Rattle.jr_tree.proofs.Pointwise.{same_path}
use Rattle.jr_part.specs.Parts.{AgreesWith, ChildNames, HaveRisingNames, Knowledge, is_absent, list_at, with_children, with_node}
use Rattle.jr_part.proofs.Children.{children_sorted}
use Rattle.jr_part.proofs.Named.{named_child, none_without}
use Rattle.jr_part.proofs.Puts.{children_agree}
use Rattle.jr_known.specs.Earlier.{SameButAt}
use Rattle.jr_known.specs.Renewal.{IsRenewedBut, ListsChild, born_in, with_list_begun}

none_of : {X : Type 0} (o : Option X) → is_some o ≡ false → o ≡ None
none_of None h = refl
none_of (Some x) h = absurd (false≢true (sym h))

-- ---- paths that are left

out_of_both : (p q : Path) (left : List Path) → eq_by_cmp path_cmp q p ≡ false → (Contains left q → ⊥) → Contains (p ∷ left) q → ⊥
out_of_both p q left apart out (zero, within, is) =
    false≢true (sym apart ∙ (ap (λ (x : Path). eq_by_cmp path_cmp q x) is ∙ (eq_by_cmp_equiv path_total).refl q))
out_of_both p q left apart out (suc i, within, is) = out (i, omega arith, is)

pub none_left : (q : Path) → Contains {X = Path} [] q → ⊥
none_left q c = absurd (let within = c.1 in omega arith)

-- ---- at the start

module _ (old : Nodes) (tree : IsTree old) where
  begun_one : (k : Knowledge) (p : Path) → k.nodes ≡ old → AgreesWith old k → ((with_list_begun k p).nodes ≡ old) × AgreesWith old (with_list_begun k p)
  begun_one k p same agrees = by (is_some (node_at k.nodes p)) refl
    where
      by : (b : Bool) → is_some (node_at k.nodes p) ≡ b → ((cond b k (with_children k p [])).nodes ≡ old) × AgreesWith old (cond b k (with_children k p []))
      by true h = (same, agrees)
      by false h =
          let none : node_at old p ≡ None = ap (λ (es : Nodes). node_at es p) (sym same) ∙ none_of (node_at k.nodes p) h in
          (same, subst (λ (ns : ChildNames). AgreesWith old (with_children k p ns)) (none_without p old tree none) (children_agree old k p agrees))

  pub begun_all : (ps : List Path) (k : Knowledge) → k.nodes ≡ old → AgreesWith old k → ((fold with_list_begun k ps).nodes ≡ old) × AgreesWith old (fold with_list_begun k ps)
  begun_all [] k same agrees = (same, agrees)
  begun_all (p ∷ ps) k same agrees = let one = begun_one k p same agrees in begun_all ps (with_list_begun k p) one.0 one.1

pub starts : (told : List Path) (old t : Nodes) (k : Knowledge) → k.nodes ≡ old → AgreesWith old k → SameButAt told old t → IsRenewedBut t told k
starts told old t k nodes agrees same = record {
  nodes = λ p out. ap (λ (es : Nodes). node_at es p) nodes ∙ sym (same p out);
  named = λ p n names known out.
      ap (lookup (is_at (name_cmp n))) (agrees.lists p names known) ∙ (named_child p n old ∙ ap born_in (sym (same (p ++ n ∷ []) out)));
}

-- ---- a step

pub node_put : (k : Knowledge) (p q : Path) (o : Option Node) → is_sorted path_cmp k.nodes ≡ true → node_at (with_node k p o).nodes q ≡ cond (eq_by_cmp path_cmp q p) o (node_at k.nodes q)
node_put k p q (Some node) sorted = lookup-insert_entry path_cmp path_total q p node k.nodes
node_put k p q None sorted = lookup-remove path_cmp path_total q p k.nodes sorted

pub lists_put : (k : Knowledge) (p : Path) (o : Option Node) → (with_node k p o).lists ≡ k.lists
lists_put k p (Some node) = refl
lists_put k p None = refl

module _ (t : Nodes) (p : Path) (o : Option Node) (is : o ≡ node_at t p) (left : List Path) where
  pub renews : (k listed : Knowledge) → ListsChild k listed p (born_in o) → is_sorted path_cmp listed.nodes ≡ true → IsRenewedBut t (p ∷ left) k → IsRenewedBut t left (with_node listed p o)
  renews k listed lists sorted was = record {
    nodes = λ q out. node_put listed p q o sorted ∙ node q out (eq_by_cmp path_cmp q p) refl;
    named = λ q n names known out.
        let now : list_at listed q ≡ Some names = ap (lookup (is_at (path_cmp q))) (sym (lists_put listed p o)) ∙ known in
        name q n names now out (list_at k q) refl;
  }
    where
      node : (q : Path) → (Contains left q → ⊥) → (b : Bool) → eq_by_cmp path_cmp q p ≡ b → cond b o (node_at listed.nodes q) ≡ node_at t q
      node q out true same = is ∙ ap (node_at t) (sym (same_path q p same))
      node q out false apart = ap (λ (es : Nodes). node_at es q) lists.nodes ∙ was.nodes q (out_of_both p q left apart out)

      born : (q : Path) (n : Name) (before : ChildNames) → list_at k q ≡ Some before → (Contains left (q ++ n ∷ []) → ⊥) → (b : Bool) → eq_by_cmp path_cmp (q ++ n ∷ []) p ≡ b
          → cond b (born_in o) (lookup (is_at (name_cmp n)) before) ≡ born_in (node_at t (q ++ n ∷ []))
      born q n before h out true same = ap born_in (is ∙ ap (node_at t) (sym (same_path (q ++ n ∷ []) p same)))
      born q n before h out false apart = was.named q n before h (out_of_both p (q ++ n ∷ []) left apart out)

      name : (q : Path) (n : Name) (names : ChildNames) → list_at listed q ≡ Some names → (Contains left (q ++ n ∷ []) → ⊥) → (x : Option ChildNames) → list_at k q ≡ x
          → lookup (is_at (name_cmp n)) names ≡ born_in (node_at t (q ++ n ∷ []))
      name q n names now out None h = absurd (false≢true (ap is_some (sym h) ∙ (sym (lists.known q) ∙ ap is_some now)))
      name q n names now out (Some before) h =
          lists.named q n before names h now ∙ born q n before h out (eq_by_cmp path_cmp (q ++ n ∷ []) p) refl

-- ---- at the end

answered : (o : Option Node) (b : Bool) (answer : Option Node) → cond (is_some o) (Some o) (cond b (Some None) None) ≡ Some answer → answer ≡ o
answered None true answer h = sym (ap (λ x. unwrap_or x None) h)
answered None false answer h = absurd (false≢true (ap is_some h))
answered (Some x) b answer h = sym (ap (λ y. unwrap_or y None) h)

pub renewed : (t : Nodes) (k : Knowledge) → IsTree t → HaveRisingNames k.lists → IsRenewedBut t [] k → AgreesWith t k
renewed t k tree rising now = record {
  nodes = λ p answer h. answered (node_at k.nodes p) (is_absent k p) answer h ∙ now.nodes p (none_left p);
  lists = λ p names h.
      same_lists name_cmp nat_list_cmp_total name_exact names (dated_children_of t p) (rising p names h) (children_sorted p t tree.paths)
      (λ n. now.named p n names h (none_left (p ++ n ∷ [])) ∙ sym (named_child p n t));
}
