-- What commands come to is the same of two views that are alike where they read.
use Rattle.std.proofs.Common.{◌≡◌, ℕ, Bool, true, false, cond, List, [], ◌∷◌, ◌++◌, Option, None, Some, is_some, refl, ap, sym, subst, ◌∙◌}
use Rattle.std.specs.Prelude.{option_and_then, Result}
use Rattle.std.specs.List.{All}
use Rattle.std.specs.Option.{IfSome, option_map_or}
use Rattle.std.proofs.lemmas.Bool.{false≢true, or_right}
use Rattle.std.proofs.lemmas.List.Elements.{All-head, All-tail}
use Rattle.jr_path.specs.Ids.{path_text}
use Rattle.jr_path.specs.Names.{last_name, parent_of}
use Rattle.jr_path.specs.declared.name.Name.{Name}
use Rattle.jr_path.specs.declared.path.Path.{Path}
use Rattle.jr_path.proofs.Parts.{below_is_prefix}
use Rattle.jr_value.specs.declared.value.Property.{Property}
use Rattle.jr_tree.specs.Trees.{Nodes, node_at}
use Rattle.jr_tree.specs.declared.shared.Refusal.{Refusal}
use Rattle.jr_tree.specs.declared.shared.Who.{Who}
use Rattle.jr_tree.specs.declared.tree.Node.{Node}
use Rattle.jr_items.specs.Refusals.{limit_refusal, no_identifier, no_item}
use Rattle.jr_items.specs.Items.{property_of, same_name}
use Rattle.jr_items.specs.Names.{version_storage, versionable}
use Rattle.jr_part.specs.Parts.{ChildNames, Knowledge, LacksNothing, known_at, list_at}
use Rattle.jr_part.specs.declared.need.Need.{Need}
use Rattle.jr_part.specs.declared.need.Need.TheVariants as need
use Rattle.jr_part.proofs.Whole.{tree_whole}
use Rattle.jr_overlay.specs.Overlays.{Changed, View, change_at, known_view, seen, view_of, whole_view}
use Rattle.jr_overlay.proofs.Below.{seen_under, subtree_known}
use Rattle.jr_overlay.proofs.Children.{children_known}
use Rattle.jr_overlay.proofs.Commits.{known_seen}
use Rattle.jr_overlay.proofs.Views.{node_at-view}
use Rattle.jr_types.specs.declared.TypeDef.{TypeDef}
use Rattle.jcr_ref.specs.References.{node_by_id, referrers}
use Rattle.jcr_trans.specs.Answers.{Answer, ShowsItems, ShowsNames, ShowsProperties, ShowsProperty, ShowsText}
use Rattle.jcr_trans.specs.declared.command.Command.{Command}
use Rattle.jcr_trans.specs.declared.command.Command.TheVariants as command
use Rattle.jcr_trans.specs.declared.command.TreeNode.{TreeNode}
use Rattle.jr_order.specs.Order.{ordered}
use Rattle.jcr_write.specs.Places.{above}
use Rattle.jcr_write.proofs.Reading.{move_reads, order_reads, remove_reads, set_reads, unset_reads}
use Rattle.jr_overlay.specs.Drafts.{Steps}
use Rattle.jcr_fill.specs.Makings.{Making, making}
use Rattle.jcr_make.specs.AlikeViews.{AreAlikeFrom}
use Rattle.jcr_mixin.specs.Histories.{due_history}
use Rattle.jcr_make.specs.Subtrees.{makes_histories}
use Rattle.jcr_make.proofs.ReadBelow.{add_same, here, mixin_same, type_same, unmixin_same}
use Rattle.jcr_make.proofs.ReadTrees.{tree_same}
use Rattle.jcr_view.specs.Needs.{children_needs, history_needs, listing_needs, needs_of, parent_needs, storage_needs, versionable_needs}
use Rattle.jcr_view.specs.Outcomes.{drawing_none, made_outcome, outcome, shown_outcome}
use Rattle.jcr_view.specs.Parts.{IsPartOf}
use Rattle.jcr_read.specs.Reading.{answer_at, by_id_answer, get_answer, list_answer, node_identifier, refs_answer, refused, refused_or, versions_answer}

-- of a node that both have
at_same : (u w : View) (p : Path) (shows : Node → Answer) → u.node p ≡ w.node p
    → answer_at u p shows ≡ answer_at w p shows
at_same u w p shows e =
    ap (λ (o : Option Node). refused_or (limit_refusal p) (option_map_or shows o (refused (no_item p)))) e

named_by : View → Path → Option Path → Option Property
named_by v p o = option_and_then (λ q. option_and_then (λ n.
    option_and_then (λ node. property_of node n) (v.node q)) (last_name p)) o

named_same : (u w : View) (p : Path) (o : Option Path) → ((q : Path) → o ≡ Some q → u.node q ≡ w.node q)
    → named_by u p o ≡ named_by w p o
unfolding named_by
named_same u w p None h = refl
named_same u w p (Some q) h = ap (λ (o : Option Node). option_and_then (λ n.
    option_and_then (λ node. property_of node n) o) (last_name p)) (h q refl)

get_same : (u w : View) (p : Path) → ((q : Path) → parent_of p ≡ Some q → u.node q ≡ w.node q)
    → get_answer u p ≡ get_answer w p
unfolding named_by
get_same u w p h = ap (λ (o : Option Property). refused_or (limit_refusal p)
    (option_map_or ShowsProperty o (refused (no_item p)))) (named_same u w p (parent_of p) h)

list_same : (types : List TypeDef) (u w : View) (p : Path) → u.node p ≡ w.node p
    → u.children p ≡ w.children p → list_answer types u p ≡ list_answer types w p
list_same types u w p e f =
    at_same u w p (λ node. ShowsNames (ordered types node (u.children p))) e
    ∙ ap (λ (names : ChildNames). answer_at w p (λ node. ShowsNames (ordered types node names))) f

by_id_same : (u w : View) (id : List ℕ) → u.below [] ≡ w.below [] → by_id_answer u id ≡ by_id_answer w id
by_id_same u w id e = ap (λ (t : Nodes). option_map_or (λ p. ShowsText (path_text p)) (node_by_id t id)
    (refused (no_identifier id))) e

refs_same : (u w : View) (p : Path) → u.node p ≡ w.node p → u.below [] ≡ w.below []
    → refs_answer u p ≡ refs_answer w p
refs_same u w p e f =
    at_same u w p (λ node. ShowsItems (referrers (u.below []) (node_identifier node p))) e
    ∙ ap (λ (t : Nodes). answer_at w p (λ node. ShowsItems (referrers t (node_identifier node p)))) f

-- a node that is known is seen as it is
pub node_same : (t : Nodes) (k : Knowledge) (c : Changed) (p : Path) → IsPartOf t k c
    → LacksNothing k (need.Node p) → (known_view k c).node p ≡ (whole_view (view_of t c)).node p
node_same t k c p part nothing =
    known_seen t k c p part.agrees part.over
    (or_right (is_some (change_at c p)) (is_some (known_at k p)) (nothing (need.Node p) refl))
    ∙ sym (node_at-view t c part.tree.paths part.over.paths p)

-- the children of a node are seen as they are where they are known, if a node is there
pub children_same : (t : Nodes) (k : Knowledge) (c : Changed) (p : Path) → IsPartOf t k c
    → LacksNothing k (need.Node p) → All (LacksNothing k) (children_needs (known_at k p) p)
    → (known_view k c).children p ≡ (whole_view (view_of t c)).children p
children_same t k c p part nothing rest =
    children_known p t k c part.tree part.agrees
    (by (known_at k p) refl (nothing (need.Node p) refl) rest)
  where
    by : (o : Option (Option Node)) → known_at k p ≡ o → is_some o ≡ true
        → All (LacksNothing k) (children_needs o p)
        → is_some (node_at t p) ≡ true → is_some (list_at k p) ≡ true
    by None is known more there = cc
    by (Some None) is known more there =
        let gone : None ≡ node_at t p = part.agrees.nodes p None is in
        cc (ap (λ (x : Option Node). is_some x) gone)
    by (Some (Some node)) is known more there =
        All-head (LacksNothing k) (need.Children p) [] more (need.Children p) refl

-- where nothing lacks all nodes are seen as they are
pub below_same : (t : Nodes) (k : Knowledge) (c : Changed) → IsPartOf t k c → LacksNothing k need.All
    → (known_view k c).below [] ≡ (whole_view (view_of t c)).below []
below_same t k c part nothing =
    subtree_known t part.tree k part.order part.agrees [] nothing c part.over.paths

-- what stands at and below a path of which nothing lacks is seen as it is
alike : (t : Nodes) (k : Knowledge) (c : Changed) (p : Path) → IsPartOf t k c → LacksNothing k (need.Subtree p) → AreAlikeFrom (known_view k c) (whole_view (view_of t c)) p
alike t k c p part nothing = record {
  nodes = λ more. seen_under t part.tree k part.order part.agrees p nothing c (p ++ more) ((below_is_prefix (p ++ more) p).1 (more, refl))
      ∙ sym (node_at-view t c part.tree.paths part.over.paths (p ++ more));
}

above_same : (t : Nodes) (k : Knowledge) (c : Changed) (p : Path) → IsPartOf t k c
    → All (LacksNothing k) (parent_needs p)
    → (q : Path) → parent_of p ≡ Some q → (known_view k c).node q ≡ (whole_view (view_of t c)).node q
above_same t k c p part all q is =
    node_same t k c q part (All-head (LacksNothing k) (need.Node q) []
    (subst (λ (o : Option Path). All (LacksNothing k) (option_map_or (λ r. need.Node r ∷ []) o [])) is all))

-- the nodes at and below a path of which nothing lacks, and the one at it
pub below_known : (t : Nodes) (k : Knowledge) (c : Changed) (p : Path) → IsPartOf t k c
    → LacksNothing k (need.Subtree p) → (known_view k c).below p ≡ (whole_view (view_of t c)).below p
below_known t k c p part nothing =
    subtree_known t part.tree k part.order part.agrees p nothing c part.over.paths

top_same : (t : Nodes) (k : Knowledge) (c : Changed) (p : Path) → IsPartOf t k c
    → LacksNothing k (need.Subtree p) → (known_view k c).node p ≡ (whole_view (view_of t c)).node p
top_same t k c p part nothing = here (known_view k c) (whole_view (view_of t c)) p (alike t k c p part nothing)

-- of several needs each is met
pub first_met : (k : Knowledge) (n : Need) (ns : List Need) → All (LacksNothing k) (n ∷ ns) → LacksNothing k n
first_met k n ns all = All-head (LacksNothing k) n ns all

pub rest_met : (k : Knowledge) (n : Need) (ns : List Need) → All (LacksNothing k) (n ∷ ns) → All (LacksNothing k) ns
rest_met k n ns all = All-tail (LacksNothing k) n ns all

-- of the history that stands at a path nothing lacks
history_met : (k : Knowledge) (history : Option Path) → All (LacksNothing k) (history_needs history) → IfSome history (λ h. LacksNothing k (need.Subtree h))
history_met k None all = tt
history_met k (Some h) all = first_met k (need.Subtree h) [] all

-- what a mixin asks for is met: what stands at and below its node, and with `mix:versionable` the history that is due
pub mixin_met : (who : Who) (k : Knowledge) (c : Changed) (p : Path) (n : Name) → All (LacksNothing k) (needs_of who k c (command.Mixin p n))
    → LacksNothing k (need.Subtree p) × (same_name versionable n ≡ true → IfSome (due_history who who.ids (seen k.nodes c p)) (λ h. LacksNothing k (need.Subtree h)))
mixin_met who k c p n all = by (same_name versionable n) refl all
  where
    history : Option Path
    history = due_history who who.ids (seen k.nodes c p)

    at : (o : Option (Option Node)) → known_at k p ≡ o → All (LacksNothing k) (versionable_needs o p history)
        → LacksNothing k (need.Subtree p) × (same_name versionable n ≡ true → IfSome history (λ h. LacksNothing k (need.Subtree h)))
    at None unknown met = absurd (false≢true (sym (ap (λ (o : Option (Option Node)). is_some o) unknown) ∙ first_met k (need.Node p) [] met (need.Node p) refl))
    at (Some node) known met = (first_met k (need.Subtree p) (history_needs history) met, λ h. history_met k history (rest_met k (need.Subtree p) (history_needs history) met))

    by : (b : Bool) → same_name versionable n ≡ b → All (LacksNothing k) (cond b (versionable_needs (known_at k p) p history) (need.Subtree p ∷ []))
        → LacksNothing k (need.Subtree p) × (same_name versionable n ≡ true → IfSome history (λ h. LacksNothing k (need.Subtree h)))
    by false e met = (first_met k (need.Subtree p) [] met, λ h. absurd (false≢true (sym e ∙ h)))
    by true e met = at (known_at k p) refl met

-- what adding a tree asks for is met
pub tree_met : (k : Knowledge) (p : Path) (parts : List TreeNode) → All (LacksNothing k) (need.Subtree p ∷ need.Node (above p) ∷ storage_needs parts)
    → LacksNothing k (need.Subtree p) × LacksNothing k (need.Node (above p)) × (makes_histories parts ≡ true → LacksNothing k (need.Subtree version_storage))
tree_met k p parts all = (
  first_met k (need.Subtree p) (need.Node (above p) ∷ storage_needs parts) all,
  first_met k (need.Node (above p)) (storage_needs parts) (rest_met k (need.Subtree p) (need.Node (above p) ∷ storage_needs parts) all),
  λ h. by (makes_histories parts) h (rest_met k (need.Node (above p)) (storage_needs parts) (rest_met k (need.Subtree p) (need.Node (above p) ∷ storage_needs parts) all)),
)
  where
    by : (b : Bool) → b ≡ true → All (LacksNothing k) (cond b (need.Subtree version_storage ∷ []) []) → LacksNothing k (need.Subtree version_storage)
    by true h met = first_met k (need.Subtree version_storage) [] met
    by false h met = absurd (false≢true h)

-- steps without identifiers come to the same
pub drawn_same : (ids : ℕ) (a b : Result Steps Refusal) → a ≡ b
    → made_outcome ids (drawing_none ids a) ≡ made_outcome ids (drawing_none ids b)
drawn_same ids a b e = ap (λ (due : Result Steps Refusal). made_outcome ids (drawing_none ids due)) e

-- what is made comes to the same
made_same : (ids : ℕ) (a b : Result Making Refusal) → a ≡ b → made_outcome ids a ≡ made_outcome ids b
made_same ids a b e = ap (made_outcome ids) e

-- what holds of a history where nothing of it lacks
history_alike : (t : Nodes) (k : Knowledge) (c : Changed) → IsPartOf t k c → (history : Option Path) → IfSome history (λ h. LacksNothing k (need.Subtree h))
    → IfSome history (AreAlikeFrom (known_view k c) (whole_view (view_of t c)))
history_alike t k c part None met = tt
history_alike t k c part (Some h) met = alike t k c h part met

-- what a command comes to on what is known it comes to on the whole
pub outcome_same : (types : List TypeDef) (who : Who) (t : Nodes) (k : Knowledge) (c : Changed) (command : Command)
    → IsPartOf t k c → All (LacksNothing k) (needs_of who k c command)
    → outcome types who (known_view k c) k.nodes command ≡ outcome types who (whole_view (view_of t c)) t command
outcome_same types who t k c (command.Get p) part all =
    ap (shown_outcome who.ids) (get_same (known_view k c) (whole_view (view_of t c)) p (above_same t k c p part all))
outcome_same types who t k c (command.List p) part all =
    let first : LacksNothing k (need.Node p) = first_met k (need.Node p) (children_needs (known_at k p) p) all in
    ap (shown_outcome who.ids) (list_same types (known_view k c) (whole_view (view_of t c)) p (node_same t k c p part first)
    (children_same t k c p part first (rest_met k (need.Node p) (children_needs (known_at k p) p) all)))
outcome_same types who t k c (command.Props p) part all =
    ap (shown_outcome who.ids) (at_same (known_view k c) (whole_view (view_of t c)) p (λ node. ShowsProperties node.props)
    (node_same t k c p part (first_met k (need.Node p) [] all)))
outcome_same types who t k c (command.Id p) part all =
    ap (shown_outcome who.ids) (at_same (known_view k c) (whole_view (view_of t c)) p (λ node. ShowsText (node_identifier node p))
    (node_same t k c p part (first_met k (need.Node p) [] all)))
outcome_same types who t k c (command.ById id) part all =
    ap (shown_outcome who.ids) (by_id_same (known_view k c) (whole_view (view_of t c)) id (below_same t k c part (first_met k need.All [] all)))
outcome_same types who t k c (command.Refs p) part all =
    let nothing : LacksNothing k need.All = first_met k need.All [] all in
    ap (shown_outcome who.ids) (refs_same (known_view k c) (whole_view (view_of t c)) p ((alike t k c [] part nothing).nodes p) (below_same t k c part nothing))
outcome_same types who t k c (command.Versions p) part all =
    ap (λ (base : Nodes). shown_outcome who.ids (versions_answer base p))
    (tree_whole k part.order (first_met k need.All [] all) t part.tree part.agrees)
outcome_same types who t k c (command.Set p n x) part all =
    drawn_same who.ids _ _ (set_reads types (known_view k c) (whole_view (view_of t c)) [] p n x (node_same t k c p part (first_met k (need.Node p) [] all)))
outcome_same types who t k c (command.Unset p n) part all =
    drawn_same who.ids _ _ (unset_reads types (known_view k c) (whole_view (view_of t c)) [] p n (node_same t k c p part (first_met k (need.Node p) [] all)))
outcome_same types who t k c (command.Unmixin p n) part all =
    drawn_same who.ids _ _ (unmixin_same types (known_view k c) (whole_view (view_of t c)) p n [] (node_same t k c p part (first_met k (need.Node p) [] all)))
outcome_same types who t k c (command.Remove p) part all =
    let down : LacksNothing k (need.Subtree p) = first_met k (need.Subtree p) (need.Node (above p) ∷ []) all in
    let up : LacksNothing k (need.Node (above p)) = first_met k (need.Node (above p)) []
    (rest_met k (need.Subtree p) (need.Node (above p) ∷ []) all) in
    drawn_same who.ids _ _ (remove_reads types (known_view k c) (whole_view (view_of t c)) [] p (top_same t k c p part down)
    (node_same t k c (above p) part up) (below_known t k c p part down))
outcome_same types who t k c (command.Move p q) part all =
    let from : LacksNothing k (need.Subtree p) = first_met k (need.Subtree p) (need.Subtree q ∷ need.Node (above q) ∷ []) all in
    let two : All (LacksNothing k) (need.Subtree q ∷ need.Node (above q) ∷ []) = rest_met k (need.Subtree p) (need.Subtree q ∷ need.Node (above q) ∷ []) all in
    let to : LacksNothing k (need.Subtree q) = first_met k (need.Subtree q) (need.Node (above q) ∷ []) two in
    let up : LacksNothing k (need.Node (above q)) = first_met k (need.Node (above q)) []
    (rest_met k (need.Subtree q) (need.Node (above q) ∷ []) two) in
    drawn_same who.ids _ _ (move_reads (known_view k c) (whole_view (view_of t c)) [] p q (top_same t k c p part from)
    (node_same t k c (above q) part up) (top_same t k c q part to) (below_known t k c p part from))
outcome_same types who t k c (command.OrderBefore p before) part all =
    let two : All (LacksNothing k) (listing_needs k (above p)) = rest_met k (need.Node p) (listing_needs k (above p)) all in
    let up : LacksNothing k (need.Node (above p)) = first_met k (need.Node (above p)) (children_needs (known_at k (above p)) (above p)) two in
    drawn_same who.ids _ _ (order_reads types (known_view k c) (whole_view (view_of t c)) [] p before
    (node_same t k c p part (first_met k (need.Node p) (listing_needs k (above p)) all)) (node_same t k c (above p) part up)
    (children_same t k c (above p) part up (rest_met k (need.Node (above p)) (children_needs (known_at k (above p)) (above p)) two)))
outcome_same types who t k c (command.Add p type) part all =
    made_same who.ids _ _ (add_same types who (known_view k c) (whole_view (view_of t c)) p type (making [] who.ids)
    (alike t k c p part (first_met k (need.Subtree p) (need.Node (above p) ∷ []) all))
    (node_same t k c (above p) part (first_met k (need.Node (above p)) [] (rest_met k (need.Subtree p) (need.Node (above p) ∷ []) all))))
outcome_same types who t k c (command.Tree p parts) part all =
    let met = tree_met k p parts all in
    made_same who.ids _ _ (tree_same types who (known_view k c) (whole_view (view_of t c)) p parts (making [] who.ids)
    (alike t k c p part met.0) (node_same t k c (above p) part met.1) (λ h. alike t k c version_storage part (met.2 h)))
outcome_same types who t k c (command.Mixin p n) part all =
    let met = mixin_met who k c p n all in
    made_same who.ids _ _ (mixin_same types who (known_view k c) (whole_view (view_of t c)) p n (making [] who.ids)
    (alike t k c p part met.0)
    (λ h. history_alike t k c part (due_history who who.ids (seen k.nodes c p)) (met.1 h)))
outcome_same types who t k c (command.SetType p n) part all =
    made_same who.ids _ _ (type_same types who (known_view k c) (whole_view (view_of t c)) p n (making [] who.ids)
    (alike t k c p part (first_met k (need.Subtree p) [] all)))
outcome_same types who t k c _ part all = refl
