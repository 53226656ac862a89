-- Each round of loading learns one answer, and what was known is known still.
use Rattle.std.proofs.Common.{◌≡◌, ◌≢◌, ◌∙◌, Bool, true, false, cond, List, [], ◌∷◌, Option, None, Some, is_some, refl, sym, ap, arith}
use Rattle.std.specs.List.{All, AllPairs}
use Rattle.std.specs.Map.{lookup, remove_entry}
use Rattle.std.specs.Ordering.{eq_by_cmp}
use Rattle.std.specs.BTreeMap.{insert_entry, is_at}
use Rattle.std.proofs.lemmas.Cmp.{eq_by_cmp_equiv}
use Rattle.std.proofs.lemmas.List.Elements.{All-cons, All-nil}
use Rattle.std.proofs.lemmas.List.Kept.{AllPairs-cons}
use mathlib.Core.Bool.{false≢true}
use Rattle.jr_path.specs.Names.{path_cmp}
use Rattle.jr_path.specs.declared.path.Path.{Path}
use Rattle.jr_path.proofs.Maps.{lookup-insert_entry, path_total}
use Rattle.jr_tree.specs.declared.tree.Node.{Node}
use Rattle.jr_tree.specs.Trees.{Nodes, dated_children_of, node_at}
use Rattle.jr_tree.proofs.Pointwise.{same_path}
use Rattle.jr_part.specs.Parts.{AsksOf, AsksBelow, ChildNames, IsFirstLacking, Knowledge, is_absent, knows, with_children, with_node}
use Rattle.jr_part.specs.declared.need.Need.{Need}
use Rattle.jr_part.specs.declared.need.Need.TheVariants as need
use Rattle.jcr_view.specs.Rounds.{AreLoads, need_answered, is_of_one_node}

-- ---- what lacks is one node or the children of one

one_below : (k : Knowledge) (p : Path) (asked : Need) → AsksBelow k p asked → is_of_one_node asked ≡ true
one_below k p (need.Node q) a = refl
one_below k p (need.Children q) a = refl
one_below k p (need.Subtree q) a = absurd a
one_below k p need.All a = absurd a

one_asked : (k : Knowledge) (wanted asked : Need) → AsksOf k wanted asked → is_of_one_node asked ≡ true
one_asked k (need.Node p) asked a = ap is_of_one_node a
one_asked k (need.Children p) asked a = ap is_of_one_node a
one_asked k (need.Subtree p) asked a = one_below k p asked a
one_asked k need.All asked a = one_below k [] asked a

pub one_lacks : (k : Knowledge) (wanted lacking : Need) → IsFirstLacking k wanted lacking
    → (is_of_one_node lacking ≡ true) × (knows k lacking ≡ false)
one_lacks k wanted lacking first = (one_asked k wanted lacking first.asked, first.unknown)

-- ---- what is known after a put

-- whether the node at a path is known, by what stands there and whether none is known to
abbrev is_answered : Option Node → Bool → Bool
is_answered o none = is_some (cond (is_some o) (Some o) (cond none (Some None) None))

none_answers : (o : Option Node) → is_answered o true ≡ true
none_answers None = refl
none_answers (Some node) = refl

itself : (p : Path) → eq_by_cmp path_cmp p p ≡ true
itself p = (eq_by_cmp_equiv path_total).refl p

-- what is found at one path is there still when the entry of another goes
left_other : {X : Type 0} (q p : Path) → eq_by_cmp path_cmp q p ≡ false → (es : List (Path × X))
    → lookup (is_at (path_cmp q)) (remove_entry (is_at (path_cmp p)) es) ≡ lookup (is_at (path_cmp q)) es
left_other q p apart [] = refl
left_other {X = X} q p apart (e ∷ es) = by (eq_by_cmp path_cmp p e.0) refl (left_other q p apart es)
  where
    by : (b : Bool) → eq_by_cmp path_cmp p e.0 ≡ b
        → lookup (is_at (path_cmp q)) (remove_entry (is_at (path_cmp p)) es) ≡ lookup (is_at (path_cmp q)) es
        → lookup (is_at (path_cmp q)) (cond b es (e ∷ remove_entry (is_at (path_cmp p)) es)) ≡ lookup (is_at (path_cmp q)) (e ∷ es)
    by true same rest =
        sym (ap (λ b. cond b (Some e.1) (lookup (is_at (path_cmp q)) es))
        (ap (λ (r : Path). eq_by_cmp path_cmp q r) (sym (same_path p e.0 same)) ∙ apart))
    by false same rest = ap (cond (eq_by_cmp path_cmp q e.0) (Some e.1)) rest

-- what is found at q once x is put at p
found_put : {X : Type 0} (q p : Path) (x : X) (es : List (Path × X)) (b : Bool) → eq_by_cmp path_cmp q p ≡ b
    → lookup (is_at (path_cmp q)) (insert_entry path_cmp es p x) ≡ cond b (Some x) (lookup (is_at (path_cmp q)) es)
found_put q p x es b is =
    lookup-insert_entry path_cmp path_total q p x es ∙ ap (λ c. cond c (Some x) (lookup (is_at (path_cmp q)) es)) is

module _ (k : Knowledge) (p : Path) where
  pub node_known : (answer : Option Node) → knows (with_node k p answer) (need.Node p) ≡ true
  node_known (Some node) =
      ap (λ o. is_answered o (is_absent (with_node k p (Some node)) p)) (found_put p p node k.nodes true (itself p))
  node_known None =
      ap (λ o. is_answered (node_at (with_node k p None).nodes p) (is_some o)) (found_put p p tt k.absent true (itself p))
      ∙ none_answers (node_at (with_node k p None).nodes p)

  pub children_known : (names : ChildNames) → knows (with_children k p names) (need.Children p) ≡ true
  children_known names = ap is_some (found_put p p names k.lists true (itself p))

  there_kept : (node : Node) (q : Path) → knows k (need.Node q) ≡ true → (b : Bool) → eq_by_cmp path_cmp q p ≡ b
      → knows (with_node k p (Some node)) (need.Node q) ≡ true
  there_kept node q h true same =
      ap (λ o. is_answered o (is_absent (with_node k p (Some node)) q)) (found_put q p node k.nodes true same)
  there_kept node q h false apart =
      ap (λ o. is_answered o (is_absent (with_node k p (Some node)) q)) (found_put q p node k.nodes false apart)
      ∙ (ap (λ o. is_answered (node_at k.nodes q) (is_some o)) (left_other q p apart k.absent) ∙ h)

  absent_kept : (q : Path) → knows k (need.Node q) ≡ true → (b : Bool) → eq_by_cmp path_cmp q p ≡ b
      → knows (with_node k p None) (need.Node q) ≡ true
  absent_kept q h true same =
      ap (λ o. is_answered (node_at (with_node k p None).nodes q) (is_some o)) (found_put q p tt k.absent true same)
      ∙ none_answers (node_at (with_node k p None).nodes q)
  absent_kept q h false apart =
      ap (λ o. is_answered (node_at (with_node k p None).nodes q) (is_some o)) (found_put q p tt k.absent false apart)
      ∙ (ap (λ o. is_answered o (is_absent k q)) (left_other q p apart k.nodes) ∙ h)

  pub node_keeps : (answer : Option Node) (other : Need) → knows k other ≡ true → knows (with_node k p answer) other ≡ true
  node_keeps (Some node) (need.Node q) h = there_kept node q h (eq_by_cmp path_cmp q p) refl
  node_keeps None (need.Node q) h = absent_kept q h (eq_by_cmp path_cmp q p) refl
  node_keeps (Some node) (need.Children q) h = h
  node_keeps None (need.Children q) h = h
  node_keeps answer (need.Subtree q) h = refl
  node_keeps answer need.All h = refl

  pub children_keep : (names : ChildNames) (other : Need) → knows k other ≡ true → knows (with_children k p names) other ≡ true
  children_keep names (need.Node q) h = h
  children_keep names (need.Children q) h = by (eq_by_cmp path_cmp q p) refl
    where
      by : (b : Bool) → eq_by_cmp path_cmp q p ≡ b → knows (with_children k p names) (need.Children q) ≡ true
      by true same = ap is_some (found_put q p names k.lists true same)
      by false apart = ap is_some (found_put q p names k.lists false apart) ∙ h
  children_keep names (need.Subtree q) h = refl
  children_keep names need.All h = refl

-- ---- rounds one after another

module _ (t : Nodes) where
  pub answer_known : (k : Knowledge) (load : Need) → is_of_one_node load ≡ true → knows (need_answered t k load) load ≡ true
  answer_known k (need.Node p) one = node_known k p (node_at t p)
  answer_known k (need.Children p) one = children_known k p (dated_children_of t p)
  answer_known k (need.Subtree p) one = absurd (false≢true one)
  answer_known k need.All one = absurd (false≢true one)

  pub answer_keeps : (k : Knowledge) (load other : Need) → knows k other ≡ true → knows (need_answered t k load) other ≡ true
  answer_keeps k (need.Node p) other h = node_keeps k p (node_at t p) other h
  answer_keeps k (need.Children p) other h = children_keep k p (dated_children_of t p) other h
  answer_keeps k (need.Subtree p) other h = h
  answer_keeps k need.All other h = h

  -- what is known is never loaded again
  never_again : (k : Knowledge) (known : Need) (loads : List Need) → knows k known ≡ true → AreLoads t k loads
      → All (λ load. known ≢ load) loads
  never_again k known [] h rounds = All-nil (λ load. known ≢ load)
  never_again k known (load ∷ loads) h rounds =
      let lacked = one_lacks k rounds.0 load rounds.1 in
      All-cons (λ load. known ≢ load) load loads
      (λ same. false≢true (sym lacked.1 ∙ (ap (knows k) (sym same) ∙ h)))
      (never_again (need_answered t k load) known loads (answer_keeps k load known h) rounds.2)

  pub loaded_once : (k : Knowledge) (loads : List Need) → AreLoads t k loads → AllPairs (λ a b. a ≢ b) loads
  loaded_once k [] rounds = λ i j d before within. absurd (omega arith)
  loaded_once k (load ∷ loads) rounds =
      let lacked = one_lacks k rounds.0 load rounds.1 in
      AllPairs-cons (λ a b. a ≢ b) load loads
      (never_again (need_answered t k load) load loads (answer_known k load lacked.0) rounds.2)
      (loaded_once (need_answered t k load) loads rounds.2)
