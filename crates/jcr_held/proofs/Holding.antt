-- What is held is what the law says still, while it changes.
use Rattle.std.proofs.Common.{◌≡◌, Bool, true, false, cond, List, [], ◌∷◌, Option, None, Some, IfSome, is_some, refl, sym, ap, ◌∙◌, subst}
use Rattle.std.specs.Prelude.{slice_get}
use Rattle.std.specs.Option.{unwrap_or}
use Rattle.std.specs.List.{All}
use Rattle.std.proofs.lemmas.Bool.{false≢true}
use Rattle.std.proofs.lemmas.List.Elements.{All-head}
use Rattle.std.specs.FinMap.{is_sorted}
use Rattle.jr_path.specs.Names.{path_cmp}
use Rattle.jr_path.specs.declared.path.Path.{Path}
use Rattle.jr_rev.specs.declared.vector.RevVec.{RevVec}
use Rattle.jr_tree.specs.declared.edit.Write.{Write}
use Rattle.jr_tree.specs.declared.shared.Who.{Who}
use Rattle.jr_tree.specs.declared.tree.Node.{Node}
use Rattle.jr_tree.specs.Edits.{changes}
use Rattle.jr_tree.specs.Trees.{IsTree, Nodes, dated_children_of, node_at}
use Rattle.jr_known.specs.Earlier.{Earlier, SameButAt}
use Rattle.jr_part.specs.Parts.{AgreesWith, ChildNames, Knowledge, LacksNothing, nothing_known, with_children, with_node}
use Rattle.jr_part.specs.declared.need.Need.{Need}
use Rattle.jr_part.specs.declared.need.Need.TheVariants as need
use Rattle.jr_part.proofs.Puts.{children_agree, node_agrees, nothing_agrees}
use Rattle.jr_overlay.specs.Overlays.{AreOver, Changed, edit_of, view_of}
use Rattle.jr_overlay.proofs.Commits.{nothing_over}
use Rattle.jr_overlay.proofs.EditsOf.{edit_exact}
use Rattle.jcr_ref.specs.References.{ReferencesOk, dangling}
use Rattle.jr_types.specs.Rules.{TypesOk}
use Rattle.jcr_trans.specs.declared.command.Command.{Command}
use Rattle.jcr_trans.specs.declared.command.Command.TheVariants as command
use Rattle.jcr_view.specs.Needs.{needs_of, needs_to_rebase}
use Rattle.jcr_view.specs.Outcomes.{is_viewed}
use Rattle.jcr_view.specs.Parts.{IsPartOf}
use Rattle.jcr_view.specs.Rebases.{rebased, tree_again}
use Rattle.jcr_law.specs.State.{Call}
use Rattle.jcr_plan.proofs.Touching.{as_assured}
use Rattle.jcr_law.specs.Calls.{call_moved}
use Rattle.jcr_call.specs.Footings.{RefusesAlike}
use Rattle.jcr_held.specs.declared.held.Held.{Held}
use Rattle.jcr_held.specs.Alike.{AreAlike, moved_to}
use Rattle.jcr_held.specs.Holds.{Holds, HoldsEarlier, HoldsView, IsReady, asks_for}
use Rattle.jcr_held.specs.References.{HoldsReferences, are_named, references_by}
use Rattle.jcr_held.specs.declared.references.References.{References}
use Rattle.jcr_held.specs.declared.references.References.TheVariants as references
use Rattle.jcr_held.proofs.Dangling.{named_ok, told_so}

-- what is alike is held alike
pub holds_alike : (c : Call) (x y : Held) → AreAlike x y → Holds c x → Holds c y
holds_alike c x y a h = record {
  types = a.types ∙ h.types;
  who = a.who ∙ h.who;
  ids = h.ids;
  tokens = a.tokens ∙ h.tokens;
  cursor = a.cursor ∙ h.cursor;
  view = subst (λ (k : Knowledge). HoldsView c k y.pending y.is_kept) (sym a.part)
      (subst (λ (p : Changed). HoldsView c x.part p y.is_kept) (sym a.pending)
      (subst (λ (b : Bool). HoldsView c x.part x.pending b) (sym a.is_kept) h.view));
  earlier = subst (HoldsEarlier c.base) (sym a.earlier) h.earlier;
  references = subst (HoldsReferences c.base) (sym a.references) h.references;
}

-- ---- the base moves

nothing_part : (t : Nodes) → IsTree t → IsPartOf t nothing_known []
nothing_part t tree = record {
  tree = tree;
  order = refl;
  agrees = nothing_agrees t;
  over = nothing_over t;
}

-- the view, where nothing is kept
pub view_settled : (c : Call) (x : Held) → x.is_kept ≡ false → Holds c x → HoldsView c x.part x.pending false
view_settled c x settled h = subst (λ (b : Bool). HoldsView c x.part x.pending b) settled h.view

-- what is pending comes to the changes from the tree at the base to the view
pub pending_changes : (c : Call) (x : Held) → x.is_kept ≡ false → Holds c x → edit_of x.pending ≡ changes c.base c.state.view
pending_changes c x settled h =
    let v : HoldsView c x.part x.pending false = view_settled c x settled h in
    edit_exact c.base x.pending v.0.tree v.0.over ∙ ap (changes c.base) v.1

pub holds_moved : (c : Call) (x : Held) (v : RevVec) (t : Nodes) → Holds c x → x.is_kept ≡ false → IsTree t
    → Holds (call_moved c v t) (moved_to x v)
holds_moved c x v t h settled tree = record {
  types = h.types;
  who = ap (λ (w : Who). record w { base = v }) h.who;
  ids = h.ids;
  tokens = h.tokens;
  cursor = h.cursor;
  view = (nothing_part t tree, ap (tree_again t) (pending_changes c x settled h));
  earlier = tt;
  references = tt;
}

-- what is taken along is the whole tree at the earlier base, with the paths that were told
earlier_holds : (c : Call) (x : Held) (t : Nodes) (told : Option (List Path)) (e : Option Earlier) → Holds c x → x.is_kept ≡ false
    → IfSome e (λ e. e.part ≡ x.part) → IfSome e (λ e. told ≡ Some e.told) → IfSome told (λ ps. SameButAt ps c.base t) → HoldsEarlier t e
earlier_holds c x t told None h settled part is same = tt
earlier_holds c x t told (Some e) h settled part is same =
    let v : HoldsView c x.part x.pending false = view_settled c x settled h in
    record {
      old = c.base;
      tree = v.0.tree;
      agrees = subst (λ (k : Knowledge). AgreesWith c.base k) (sym part) v.0.agrees;
      same = subst (λ (o : Option (List Path)). IfSome o (λ ps. SameButAt ps c.base t)) is same;
    }

pub holds_along : (c : Call) (x : Held) (v : RevVec) (t : Nodes) (told : Option (List Path)) (e : Option Earlier) → Holds c x → x.is_kept ≡ false → IsTree t
    → IfSome e (λ e. e.part ≡ x.part) → IfSome e (λ e. told ≡ Some e.told) → IfSome told (λ ps. SameButAt ps c.base t)
    → Holds (call_moved c v t) (record (moved_to x v) { earlier = e })
holds_along c x v t told e h settled tree part is same =
    let moved = holds_moved c x v t h settled tree in
    record {
      types = moved.types;
      who = moved.who;
      ids = moved.ids;
      tokens = moved.tokens;
      cursor = moved.cursor;
      view = moved.view;
      earlier = earlier_holds c x t told e h settled part is same;
      references = moved.references;
    }

-- what is known of the tree that the base moves to, of which each REFERENCE names a node
pub holds_moved_knowing : (c : Call) (x : Held) (v : RevVec) (t : Nodes) (k : Knowledge) → Holds c x → x.is_kept ≡ false → IsTree t → is_sorted path_cmp k.nodes ≡ true → (AgreesWith c.base x.part → AgreesWith t k) → ReferencesOk t
    → Holds (call_moved c v t) (record (moved_to x v) { part = k; references = references.Named })
holds_moved_knowing c x v t k h settled tree order agrees refers =
    let moved = holds_moved c x v t h settled tree in
    record {
      types = moved.types;
      who = moved.who;
      ids = moved.ids;
      tokens = moved.tokens;
      cursor = moved.cursor;
      view = (record { tree = tree; order = order; agrees = agrees (view_settled c x settled h).0.agrees; over = nothing_over t }, moved.view.1);
      earlier = tt;
      references = refers;
    }

-- the tree of a call that something is held of is one
pub base_tree : (c : Call) (x : Held) → Holds c x → IsTree c.base
base_tree c x h = by x.is_kept h.view
  where
    by : (b : Bool) → HoldsView c x.part x.pending b → IsTree c.base
    by false v = v.0.tree
    by true v = v.0.tree

-- ---- more is known of the tree at the base

part_known : (t : Nodes) (k more : Knowledge) (p : Changed) → is_sorted path_cmp more.nodes ≡ true
    → (AgreesWith t k → AgreesWith t more) → IsPartOf t k p → IsPartOf t more p
part_known t k more p order agrees part =
    record { tree = part.tree; order = order; agrees = agrees part.agrees; over = part.over }

view_known : (c : Call) (k more : Knowledge) (p : Changed) (b : Bool) → is_sorted path_cmp more.nodes ≡ true
    → (AgreesWith c.base k → AgreesWith c.base more) → HoldsView c k p b → HoldsView c more p b
view_known c k more p false order agrees h = (part_known c.base k more p order agrees h.0, h.1)
view_known c k more p true order agrees h = (part_known c.base k more [] order agrees h.0, h.1)

holds_known : (c : Call) (x : Held) (more : Knowledge) → is_sorted path_cmp more.nodes ≡ true
    → (AgreesWith c.base x.part → AgreesWith c.base more) → Holds c x → Holds c (record x { part = more })
holds_known c x more order agrees h = record {
  types = h.types;
  who = h.who;
  ids = h.ids;
  tokens = h.tokens;
  cursor = h.cursor;
  view = view_known c x.part more x.pending x.is_kept order agrees h.view;
  earlier = h.earlier;
  references = h.references;
}

pub holds_node : (c : Call) (x : Held) (p : Path) (node : Option Node)
    → is_sorted path_cmp (with_node x.part p node).nodes ≡ true → node ≡ node_at c.base p → Holds c x
    → Holds c (record x { part = with_node x.part p node })
holds_node c x p node order is h =
    holds_known c x (with_node x.part p node) order (λ agrees. node_agrees c.base x.part p agrees node (sym is)) h

pub holds_children : (c : Call) (x : Held) (p : Path) (names : ChildNames)
    → is_sorted path_cmp (with_children x.part p names).nodes ≡ true → names ≡ dated_children_of c.base p → Holds c x
    → Holds c (record x { part = with_children x.part p names })
holds_children c x p names order is h =
    holds_known c x (with_children x.part p names) order
    (λ agrees. subst (λ (ns : ChildNames). AgreesWith c.base (with_children x.part p ns)) (sym is) (children_agree c.base x.part p agrees)) h

-- ---- what is kept is made again

module _ (over : (t : Nodes) (k : Knowledge) (ws : List Write) → IsPartOf t k [] → All (LacksNothing k) (needs_to_rebase ws) → AreOver t (rebased k ws))
    (view : (t : Nodes) (k : Knowledge) (ws : List Write) → IsPartOf t k [] → All (LacksNothing k) (needs_to_rebase ws) → view_of t (rebased k ws) ≡ tree_again t ws) where
  view_again : (c : Call) (k : Knowledge) (p : Changed) (b : Bool) → b ≡ true → All (LacksNothing k) (needs_to_rebase (edit_of p))
      → HoldsView c k p b → HoldsView c k (rebased k (edit_of p)) false
  view_again c k p b kept known h =
      let v : HoldsView c k p true = subst (λ (b : Bool). HoldsView c k p b) kept h in
      let part : IsPartOf c.base k [] = v.0 in (
        record { tree = part.tree; order = part.order; agrees = part.agrees; over = over c.base k (edit_of p) part known },
        view c.base k (edit_of p) part known ∙ v.1,
      )

  pub holds_again : (c : Call) (x : Held) → x.is_kept ≡ true → All (LacksNothing x.part) (needs_to_rebase (edit_of x.pending))
      → Holds c x → Holds c (record x { pending = rebased x.part (edit_of x.pending); is_kept = false })
  holds_again c x kept known h = record {
    types = h.types;
    who = h.who;
    ids = h.ids;
    tokens = h.tokens;
    cursor = h.cursor;
    view = view_again c x.part x.pending x.is_kept kept known h.view;
    earlier = h.earlier;
    references = h.references;
  }

-- ---- what a command asks for

-- a command of the view asks for what it needs of the view
pub asks_of_view : (x : Held) (m : Command) → is_viewed m ≡ true → asks_for x m ≡ needs_of x.who x.part x.pending m
asks_of_view x command.Head h = absurd (false≢true h)
asks_of_view x (command.Refresh keep) h = absurd (false≢true h)
asks_of_view x (command.Attach id) h = absurd (false≢true h)
asks_of_view x command.Detach h = absurd (false≢true h)
asks_of_view x (command.Observe p deep mask) h = absurd (false≢true h)
asks_of_view x command.Events h = absurd (false≢true h)
asks_of_view x (command.Split p) h = absurd (false≢true h)
asks_of_view x m h = ap (λ b. cond b (needs_of x.who x.part x.pending m) (need.All ∷ [])) h

pub view_known_of : (x : Held) (m : Command) → is_viewed m ≡ true → All (LacksNothing x.part) (asks_for x m)
    → All (LacksNothing x.part) (needs_of x.who x.part x.pending m)
view_known_of x m h known = subst (All (LacksNothing x.part)) (asks_of_view x m h) known

pub all_known_of : (k : Knowledge) (needs : List Need) → needs ≡ need.All ∷ [] → All (LacksNothing k) needs → LacksNothing k need.All
all_known_of k needs is known = All-head (LacksNothing k) need.All [] (subst (All (LacksNothing k)) is known)

-- nothing lacks of the first of some needs of which nothing lacks
pub first_known : (k : Knowledge) (needs : List Need) (n : Need) → Some n ≡ slice_get needs 0 → All (LacksNothing k) needs → LacksNothing k n
first_known k [] n is known = absurd (false≢true (sym (ap is_some is)))
first_known k (x ∷ xs) n is known =
    let same : n ≡ x = ap (λ o. unwrap_or o n) is in
    subst (λ (m : Need). LacksNothing k m) (sym same) (All-head (LacksNothing k) x xs known)

-- ---- a command is ready

asks_alike : (x y : Held) (m : Command) → AreAlike x y → asks_for y m ≡ asks_for x m
asks_alike x y command.Head a = refl
asks_alike x y (command.Refresh keep) a = refl
asks_alike x y (command.Attach id) a = refl
asks_alike x y command.Detach a = refl
asks_alike x y (command.Observe p deep mask) a = refl
asks_alike x y command.Events a = refl
asks_alike x y (command.Split p) a = refl
asks_alike x y m a =
    ap (λ (w : Who). cond (is_viewed m) (needs_of w y.part y.pending m) (need.All ∷ [])) a.who
    ∙ ap (λ (k : Knowledge). cond (is_viewed m) (needs_of x.who k y.pending m) (need.All ∷ [])) a.part
    ∙ ap (λ (p : Changed). cond (is_viewed m) (needs_of x.who x.part p m) (need.All ∷ [])) a.pending

pub ready_alike : (x y : Held) (m : Command) (needs : List Need) → AreAlike x y → x.is_kept ≡ false → needs ≡ asks_for x m
    → All (LacksNothing y.part) needs → IsReady y m
ready_alike x y m needs a settled is known = record {
  settled = a.is_kept ∙ settled;
  known = subst (All (LacksNothing y.part)) (is ∙ sym (asks_alike x y m a)) known;
}

pub again_known : (x y : Held) (needs : List Need) → AreAlike x y → needs ≡ needs_to_rebase (edit_of x.pending)
    → All (LacksNothing y.part) needs → All (LacksNothing y.part) (needs_to_rebase (edit_of y.pending))
again_known x y needs a is known =
    subst (All (LacksNothing y.part)) (is ∙ ap (λ (p : Changed). needs_to_rebase (edit_of p)) (sym a.pending)) known

-- ---- what is assured of the tree at the base

-- by the types, and by the references where they are known, an edit is refused as on the whole tree
pub refused_alike : (c : Call) (x : Held) → Holds c x → x.is_kept ≡ false → TypesOk c.types c.base
    → RefusesAlike (record { typed = true; referring = are_named x.references }) c
refused_alike c x h settled typed tokens ws =
    as_assured (record { typed = true; referring = are_named x.references }) c.types c.base tokens ws (view_settled c x settled h).0.tree
    (record { typed = λ is. typed; referring = named_ok c.base x.references h.references })

-- ---- whether a reference dangles is asked

-- what the whole tree at the base tells of its references is so
pub holds_asked : (c : Call) (x : Held) (u : Nodes) (r : References) → x.is_kept ≡ false
    → ((t : Nodes) → IsTree t → AgreesWith t x.part → u ≡ t) → r ≡ references_by (dangling u) → Holds c x
    → Holds c (record x { references = r })
holds_asked c x u r settled whole told h =
    let v : HoldsView c x.part x.pending false = view_settled c x settled h in
    let is : r ≡ references_by (dangling c.base) =
    told ∙ ap (λ (t : Nodes). references_by (dangling t)) (whole c.base v.0.tree v.0.agrees) in
    record {
      types = h.types;
      who = h.who;
      ids = h.ids;
      tokens = h.tokens;
      cursor = h.cursor;
      view = h.view;
      earlier = h.earlier;
      references = subst (HoldsReferences c.base) (sym is) (told_so c.base (dangling c.base) refl);
    }

asks_apart : (x : Held) (r : References) (m : Command) → asks_for (record x { references = r }) m ≡ asks_for x m
asks_apart x r command.Head = refl
asks_apart x r (command.Refresh keep) = refl
asks_apart x r (command.Attach id) = refl
asks_apart x r command.Detach = refl
asks_apart x r (command.Observe p deep mask) = refl
asks_apart x r command.Events = refl
asks_apart x r (command.Split p) = refl
asks_apart x r m = refl

-- a command is ready still, whatever is known of the references
pub ready_asked : (x : Held) (r : References) (m : Command) → IsReady x m → IsReady (record x { references = r }) m
ready_asked x r m h = record {
  settled = h.settled;
  known = subst (All (LacksNothing x.part)) (sym (asks_apart x r m)) h.known;
}
