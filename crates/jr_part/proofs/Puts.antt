-- What the tree answers is put, and the part agrees with the tree as before.
use Rattle.std.proofs.Common.{◌≡◌, Bool, true, false, cond, Some, None, Option, List, [], ◌∷◌, is_some, refl, sym, ap, ◌∙◌, subst}
use Rattle.std.specs.Prelude.{Result, Ok, Err, OnOk, OnErr}
use Rattle.std.specs.Ordering.{eq_by_cmp}
use Rattle.std.specs.Option.{unwrap_or}
use Rattle.std.specs.Map.{lookup, remove_entry}
use Rattle.std.specs.BTreeMap.{is_at, insert_entry}
use Rattle.std.specs.FinMap.{is_sorted}
use mathlib.Core.Bool.{false≢true}
use Rattle.jr_path.specs.Names.{name_cmp, path_cmp}
use Rattle.jr_path.specs.declared.path.Path.{Path}
use Rattle.jr_path.proofs.Maps.{lookup-insert_entry, path_total}
use Rattle.jr_tree.specs.declared.tree.Node.{Node}
use Rattle.jr_tree.specs.Trees.{Nodes, dated_children_of, node_at}
use Rattle.jr_tree.proofs.Pointwise.{same_path}
use Rattle.jr_part.specs.Parts.{AgreesWith, HaveRisingNames, Knowledge, ChildNames, is_absent, known_at, list_at, nothing_known, with_children, with_node}
use Rattle.jr_part.proofs.Ways.{there_known}

-- nothing stands at a key: its removal changes nothing
pub nothing_removed : {K X : Type 0} (test : K → Bool) (es : List (K × X)) → lookup test es ≡ None → remove_entry test es ≡ es
nothing_removed test [] h = refl
nothing_removed {K = K} {X = X} test (e ∷ es) h = by (test e.0) h (nothing_removed test es)
  where
    by : (b : Bool) → cond b (Some e.1) (lookup test es) ≡ None → (lookup test es ≡ None → remove_entry test es ≡ es) → cond b es (e ∷ remove_entry test es) ≡ e ∷ es
    by true k rest = absurd (false≢true (sym (ap is_some k)))
    by false k rest = ap (λ (l : List (K × X)). e ∷ l) (rest k)

-- what is found after a removal was there before
left_found : {K X : Type 0} (test out : K → Bool) (es : List (K × X)) → is_some (lookup test (remove_entry out es)) ≡ true → is_some (lookup test es) ≡ true
left_found test out [] h = h
left_found test out (e ∷ es) h = by (out e.0) (test e.0) refl h (left_found test out es)
  where
    by : (a b : Bool) → test e.0 ≡ b → is_some (lookup test (cond a es (e ∷ remove_entry out es))) ≡ true → (is_some (lookup test (remove_entry out es)) ≡ true → is_some (lookup test es) ≡ true) → is_some (cond b (Some e.1) (lookup test es)) ≡ true
    by true true is k rest = refl
    by true false is k rest = k
    by false true is k rest = refl
    by false false is k rest = rest (ap (λ b. is_some (cond b (Some e.1) (lookup test (remove_entry out es)))) (sym is) ∙ k)

abbrev answer_of : Option Node → Bool → Option (Option Node)
answer_of o b = cond (is_some o) (Some o) (cond b (Some None) None)

-- fewer paths at which no node is give no other answers
fewer : (o answer : Option Node) (a b : Bool) → (a ≡ true → b ≡ true) → answer_of o a ≡ Some answer → answer_of o b ≡ Some answer
fewer (Some x) answer a b more h = h
fewer None answer true b more h = ap (λ c. answer_of None c) (more refl) ∙ h
fewer None answer false b more h = absurd (false≢true (ap is_some h))

of_answer : (x answer : Option Node) → Some x ≡ Some answer → answer ≡ x
of_answer x answer h = sym (ap (λ o. unwrap_or o x) h)

pub nothing_agrees : (t : Nodes) → AgreesWith t nothing_known
nothing_agrees t = record {
  nodes = λ p answer h. absurd (false≢true (ap is_some h));
  lists = λ p names h. absurd (false≢true (ap is_some h));
}

module _ (t : Nodes) (k : Knowledge) (p : Path) (agrees : AgreesWith t k) where
  there : (node : Node) → node_at t p ≡ Some node → AgreesWith t (with_node k p (Some node))
  there node is = record { nodes = λ q answer h. by q answer (eq_by_cmp path_cmp q p) refl (sym (now q) ∙ h); lists = agrees.lists }
    where
      gone : Path → Bool
      gone q = is_absent (with_node k p (Some node)) q

      now : (q : Path) → known_at (with_node k p (Some node)) q ≡ answer_of (cond (eq_by_cmp path_cmp q p) (Some node) (node_at k.nodes q)) (gone q)
      now q = ap (λ o. answer_of o (gone q)) (lookup-insert_entry path_cmp path_total q p node k.nodes)

      by : (q : Path) (answer : Option Node) (b : Bool) → eq_by_cmp path_cmp q p ≡ b → answer_of (cond b (Some node) (node_at k.nodes q)) (gone q) ≡ Some answer → answer ≡ node_at t q
      by q answer true same h = of_answer (Some node) answer h ∙ (sym is ∙ ap (node_at t) (sym (same_path q p same)))
      by q answer false same h = agrees.nodes q answer (fewer (node_at k.nodes q) answer (gone q) (is_absent k q) (left_found (is_at (path_cmp q)) (is_at (path_cmp p)) k.absent) h)

  none_before : node_at t p ≡ None → (o : Option Node) → node_at k.nodes p ≡ o → o ≡ None
  none_before is None known = refl
  none_before is (Some x) known = sym known ∙ (agrees.nodes p (node_at k.nodes p) (there_known k p (ap is_some known)) ∙ is)

  absent : node_at t p ≡ None → AgreesWith t (with_node k p None)
  absent is = record { nodes = λ q answer h. by q answer (eq_by_cmp path_cmp q p) refl (sym (now q) ∙ h); lists = agrees.lists }
    where
      before : node_at k.nodes p ≡ None
      before = none_before is (node_at k.nodes p) refl

      now : (q : Path) → known_at (with_node k p None) q ≡ answer_of (node_at k.nodes q) (is_some (cond (eq_by_cmp path_cmp q p) (Some tt) (lookup (is_at (path_cmp q)) k.absent)))
      now q =
          ap (λ (es : Nodes). answer_of (node_at es q) (is_absent (with_node k p None) q)) (nothing_removed (is_at (path_cmp p)) k.nodes before)
          ∙ ap (λ o. answer_of (node_at k.nodes q) (is_some o)) (lookup-insert_entry path_cmp path_total q p tt k.absent)

      by : (q : Path) (answer : Option Node) (b : Bool) → eq_by_cmp path_cmp q p ≡ b → answer_of (node_at k.nodes q) (is_some (cond b (Some tt) (lookup (is_at (path_cmp q)) k.absent))) ≡ Some answer → answer ≡ node_at t q
      by q answer true same h =
          let here : q ≡ p = same_path q p same in
          of_answer None answer (ap (λ o. answer_of o true) (sym (ap (node_at k.nodes) here ∙ before)) ∙ h)
          ∙ (sym is ∙ ap (node_at t) (sym here))
      by q answer false same h = agrees.nodes q answer h

  pub node_agrees : (o : Option Node) → node_at t p ≡ o → AgreesWith t (with_node k p o)
  node_agrees (Some node) is = there node is
  node_agrees None is = absent is

-- what is listed at q once names are put at p
listed : (k : Knowledge) (p q : Path) (names : ChildNames) → list_at (with_children k p names) q ≡ cond (eq_by_cmp path_cmp q p) (Some names) (list_at k q)
listed k p q names = lookup-insert_entry path_cmp path_total q p names k.lists

of_list : (x names : ChildNames) → Some x ≡ Some names → names ≡ x
of_list x names h = sym (ap (λ o. unwrap_or o x) h)

pub children_agree : (t : Nodes) (k : Knowledge) (p : Path) → AgreesWith t k → AgreesWith t (with_children k p (dated_children_of t p))
children_agree t k p agrees = record { nodes = agrees.nodes; lists = λ q names h. by q names (eq_by_cmp path_cmp q p) refl (sym (listed k p q (dated_children_of t p)) ∙ h) }
  where
    by : (q : Path) (names : ChildNames) (b : Bool) → eq_by_cmp path_cmp q p ≡ b → cond b (Some (dated_children_of t p)) (list_at k q) ≡ Some names → names ≡ dated_children_of t q
    by q names true same h = of_list (dated_children_of t p) names h ∙ ap (dated_children_of t) (sym (same_path q p same))
    by q names false same h = agrees.lists q names h

pub rising_put : (lists : List (Path × ChildNames)) (p : Path) (names : ChildNames) → is_sorted name_cmp names ≡ true → HaveRisingNames lists → HaveRisingNames (insert_entry path_cmp lists p names)
rising_put lists p names sorted rising = λ q ns h. by q ns (eq_by_cmp path_cmp q p) (sym (lookup-insert_entry path_cmp path_total q p names lists) ∙ h)
  where
    by : (q : Path) (ns : ChildNames) (b : Bool) → cond b (Some names) (lookup (is_at (path_cmp q)) lists) ≡ Some ns → is_sorted name_cmp ns ≡ true
    by q ns true h = ap (is_sorted name_cmp) (of_list names ns h) ∙ sorted
    by q ns false h = rising q ns h

-- ---- what a call that may be refused leaves

pub rising_either : {A E : Type 0} (lists : List (Path × ChildNames)) (key : Path) (names : ChildNames) (new : List (Path × ChildNames)) (r : Result A E) → OnOk r (new ≡ insert_entry path_cmp lists key names) → OnErr r (new ≡ lists)
    → is_sorted name_cmp names ≡ true → HaveRisingNames lists → HaveRisingNames new
rising_either lists key names new (Ok x) ok err sorted rising = subst (λ (ls : List (Path × ChildNames)). HaveRisingNames ls) (sym ok) (rising_put lists key names sorted rising)
rising_either lists key names new (Err e) ok err sorted rising = subst (λ (ls : List (Path × ChildNames)). HaveRisingNames ls) (sym err) rising

none_from : {X : Type 0} (o : Option X) → is_some o ≡ false → o ≡ None
none_from None h = refl
none_from (Some x) h = absurd (false≢true (sym h))

-- no node was there
pub absent_put : {A E : Type 0} (k now : Knowledge) (p key : Path) (new : List (Path × Unit {0})) (r : Result A E) → k ≡ now → key ≡ p → is_some (node_at k.nodes p) ≡ false
    → OnOk r (new ≡ insert_entry path_cmp k.absent key tt) → OnOk r (record k { absent = new } ≡ with_node now p None)
absent_put k now p key new (Err e) same is none put = tt
absent_put k now p key new (Ok x) same is none put =
    ap (λ (es : List (Path × Unit {0})). record k { absent = es }) put
    ∙ (ap (λ (q : Path). record k { absent = insert_entry path_cmp k.absent q tt }) is
    ∙ (ap (λ (es : Nodes). record k { nodes = es; absent = insert_entry path_cmp k.absent p tt }) (sym (nothing_removed (is_at (path_cmp p)) k.nodes (none_from (node_at k.nodes p) none)))
    ∙ ap (λ (x : Knowledge). with_node x p None) same))
