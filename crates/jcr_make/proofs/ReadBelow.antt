-- What is made reads no other nodes of a view.
use Rattle.std.proofs.Common.{◌≡◌, ℕ, zero, suc, Bool, true, false, cond, Option, None, Some, List, [], ◌∷◌, ◌++◌, refl, sym, ap, ◌∙◌, append_assoc, subst, is_some}
use Rattle.std.specs.Prelude.{Result, Ok, Err}
use Rattle.std.specs.List.{AllByRecursion, flat_map}
use Rattle.std.specs.Map.{lookup}
use Rattle.std.specs.BTreeMap.{insert_entry, is_at}
use Rattle.std.specs.Option.{IfSome, option_and_then, option_map_or, unwrap_or}
use Rattle.std.proofs.lemmas.List.{append-nil}
use Rattle.std.proofs.lemmas.Result.{IfOk-at_ok}
use Rattle.jr_path.specs.Names.{path_cmp}
use Rattle.jr_path.specs.declared.name.Name.{Name}
use Rattle.jr_path.specs.declared.path.Path.{Path}
use Rattle.jr_tree.specs.declared.shared.Refusal.{Refusal}
use Rattle.jr_tree.specs.declared.shared.Who.{Who}
use Rattle.jr_tree.specs.declared.tree.Node.{Node}
use Rattle.jr_tree.specs.Trees.{Nodes, node_of_type}
use Rattle.jr_items.specs.Items.{child_path, property_of, same_name}
use Rattle.jr_items.specs.Names.{root_version, uuid, versionable}
use Rattle.jr_items.specs.Refusals.{taken, when}
use Rattle.jr_types.specs.declared.ChildDef.{ChildDef}
use Rattle.jr_types.specs.declared.TypeDef.{TypeDef}
use Rattle.jr_overlay.specs.Drafts.{Steps, drafted, with_step}
use Rattle.jr_overlay.specs.Overlays.{View}
use Rattle.jcr_ref.specs.Histories.{root_of}
use Rattle.jcr_write.specs.Places.{above, at_place, types_of_node, of_node, path_refusal, unless_refused}
use Rattle.jcr_fill.specs.declared.completing.MissingChild.{MissingChild}
use Rattle.jcr_make.specs.Commands.{add_made, added_type, chosen_type, completed_new}
use Rattle.jcr_mixin.specs.Commands.{completed_node, node_retyped, type_made, unmixin_made}
use Rattle.jcr_mixin.specs.Histories.{begun_among, begun_by, counting, due_history, mixin_given, mixin_made, named_history, place_mixing, with_history, with_own_history, with_seen}
use Rattle.jcr_fill.specs.Makings.{Making, absent_child, child_refusal, completed, missing_child, put_filled, with_made_child, with_made_children, with_own_child}
use Rattle.jcr_make.specs.AlikeViews.{AreAlikeFrom}
use Rattle.jcr_fill.specs.Steps.{and_then, each}
use Rattle.jcr_fill.specs.Kept.{IsPutWith}
use Rattle.jcr_fill.proofs.Children.{by_missing}
use Rattle.jcr_fill.proofs.Touched.{all_have, completed_here, missing_path}
use Rattle.jcr_make.proofs.Counted.{IsMixingAt, first_named, mixed_due, own_history, placed}

-- the same node is seen at the path itself
pub here : (u v : View) (p : Path) → AreAlikeFrom u v p → u.node p ≡ v.node p
here u v p alike = ap u.node (sym (append-nil p)) ∙ (alike.nodes [] ∙ ap v.node (append-nil p))

-- and at each place below, and below that
pub below_alike : (u v : View) (p more : Path) → AreAlikeFrom u v p → AreAlikeFrom u v (p ++ more)
below_alike u v p more alike = record {
  nodes = λ rest. ap u.node (append_assoc p more rest) ∙ (alike.nodes (more ++ rest) ∙ ap v.node (sym (append_assoc p more rest)));
}

pub drafted_same : (u v : View) (steps : Steps) (q : Path) → u.node q ≡ v.node q → drafted u steps q ≡ drafted v steps q
drafted_same u v steps q h = ap (unwrap_or (lookup (is_at (path_cmp q)) steps)) h

-- steps that make the same go the same way
pub each_same : {X S : Type 0} (f g : X → S → Result S Refusal) (xs : List X) → AllByRecursion (λ x. (s : S) → f x s ≡ g x s) xs → (s : S) → each f xs s ≡ each g xs s
each_same f g [] same s = refl
each_same f g (x ∷ xs) same s = ap (λ r. and_then r (each f xs)) (same.0 s) ∙ by (g x s) (each_same f g xs same.1)
  where
    by : (r : Result _ Refusal) → ((t : _) → each f xs t ≡ each g xs t) → and_then r (each f xs) ≡ and_then r (each g xs)
    by (Ok t) rest = rest t
    by (Err e) rest = refl

pub then_same : {A B : Type 0} (r : Result A Refusal) (f g : A → Result B Refusal) → ((a : A) → r ≡ Ok a → f a ≡ g a) → and_then r f ≡ and_then r g
then_same (Ok a) f g same = same a refl
then_same (Err e) f g same = refl

missing_same : (u v : View) (steps : Steps) (p : Path) (d : ChildDef) → AreAlikeFrom u v p → missing_child u steps p d ≡ missing_child v steps p d
missing_same u v steps p d alike = by d.autocreated d.name d.default_type
  where
    by : (b : Bool) (o t : Option Name) → cond b (option_and_then (λ n. option_and_then (absent_child u steps p n) t) o) None ≡ cond b (option_and_then (λ n. option_and_then (absent_child v steps p n) t) o) None
    by false o t = refl
    by true None t = refl
    by true (Some n) None = refl
    by true (Some n) (Some t) = ap (λ (o : Option Node). cond (is_some o) None (Some (record { path = child_path p n; node_type = t })))
        (drafted_same u v steps (child_path p n) (alike.nodes (n ∷ [])))

-- a child that is missing stands below
missing_below : (u v : View) (steps : Steps) (p : Path) (d : ChildDef) (c : MissingChild) → AreAlikeFrom u v p → missing_child v steps p d ≡ Some c → AreAlikeFrom u v c.path
missing_below u v steps p d c alike h =
    let at = missing_path v steps p d c h in
    subst (AreAlikeFrom u v) (sym at.1) (below_alike u v p (at.0 ∷ []) alike)

-- what makes nodes whole makes the same
pub completed_same : (levels : ℕ) (types : List TypeDef) (who : Who) (u v : View) (p : Path) (node : Node) (m : Making) → AreAlikeFrom u v p
    → completed levels types who u p node m ≡ completed levels types who v p node m
unfolding completed
completed_same zero types who u v p node m alike = refl
completed_same (suc k) types who u v p node m alike = by (λ q. completed_same k types who u v q)
  where
    by : ((q : Path) (n : Node) (l : Making) → AreAlikeFrom u v q → completed k types who u q n l ≡ completed k types who v q n l)
        → and_then (put_filled types who p node m) (with_made_children (completed k types who u) types u p (types_of_node types node))
        ≡ and_then (put_filled types who p node m) (with_made_children (completed k types who v) types v p (types_of_node types node))
    by rest = then_same (put_filled types who p node m) _ _ (λ l e. each_same (with_own_child (completed k types who u) types u p) (with_own_child (completed k types who v) types v p) (flat_map (λ d. d.children) (types_of_node types node))
        (all_have (λ d. (j : Making) → with_own_child (completed k types who u) types u p d j ≡ with_own_child (completed k types who v) types v p d j) child (flat_map (λ d. d.children) (types_of_node types node))) l)
      where
        made : (c : MissingChild) (l : Making) → AreAlikeFrom u v c.path → with_made_child (completed k types who u) types c.path c.node_type l ≡ with_made_child (completed k types who v) types c.path c.node_type l
        made c l from = ap (unless_refused (child_refusal types c.path c.node_type)) (rest c.path (node_of_type c.node_type) l from)

        child : (d : ChildDef) (l : Making) → with_own_child (completed k types who u) types u p d l ≡ with_own_child (completed k types who v) types v p d l
        child d l = ap (by_missing (completed k types who u) types l) (missing_same u v l.steps p d alike) ∙ at (missing_child v l.steps p d) refl
          where
            at : (o : Option MissingChild) → missing_child v l.steps p d ≡ o → by_missing (completed k types who u) types l o ≡ by_missing (completed k types who v) types l o
            at None e = refl
            at (Some c) e = made c l (missing_below u v l.steps p d c alike e)

place_same : {A : Type 0} (u v : View) (steps : Steps) (p : Path) (then : Node → Result A Refusal) → u.node p ≡ v.node p → at_place u steps p then ≡ at_place v steps p then
place_same u v steps p then h = ap (λ o. unless_refused (path_refusal p) (of_node p o then)) (drafted_same u v steps p h)

-- the type of an added node
pub chosen_same : (types : List TypeDef) (u v : View) (steps : Steps) (p : Path) (named : Option Name) → u.node p ≡ v.node p → u.node (above p) ≡ v.node (above p)
    → chosen_type types u steps p named ≡ chosen_type types v steps p named
chosen_same types u v steps p named at_p top = by (drafted u steps (above p))
    ∙ ap (λ o. of_node (above p) o (λ parent. unless_refused (when (is_some (drafted v steps p)) (taken p)) (added_type types parent p named))) (drafted_same u v steps (above p) top)
  where
    by : (o : Option Node) → of_node (above p) o (λ parent. unless_refused (when (is_some (drafted u steps p)) (taken p)) (added_type types parent p named))
        ≡ of_node (above p) o (λ parent. unless_refused (when (is_some (drafted v steps p)) (taken p)) (added_type types parent p named))
    by None = refl
    by (Some parent) = ap (λ (o : Option Node). unless_refused (when (is_some o) (taken p)) (added_type types parent p named)) (drafted_same u v steps p at_p)

pub add_same : (types : List TypeDef) (who : Who) (u v : View) (p : Path) (named : Option Name) (m : Making) → AreAlikeFrom u v p → u.node (above p) ≡ v.node (above p)
    → add_made types who u p named m ≡ add_made types who v p named m
add_same types who u v p named m alike top = ap (unless_refused (path_refusal p))
    (ap (λ r. and_then r (completed_new types who u p m)) (chosen_same types u v m.steps p named (here u v p alike) top)
    ∙ then_same (chosen_type types v m.steps p named) _ _ (λ n e. completed_same 65 types who u v p (node_of_type n) m alike))

pub type_same : (types : List TypeDef) (who : Who) (u v : View) (p : Path) (n : Name) (m : Making) → AreAlikeFrom u v p → type_made types who u p n m ≡ type_made types who v p n m
type_same types who u v p n m alike =
    ap (λ r. and_then r (completed_node types who u p m)) (place_same u v m.steps p _ (here u v p alike))
    ∙ then_same (node_retyped types v m.steps p n) _ _ (λ node e. completed_same 65 types who u v p node m alike)

pub unmixin_same : (types : List TypeDef) (u v : View) (p : Path) (n : Name) (steps : Steps) → u.node p ≡ v.node p → unmixin_made types u p n steps ≡ unmixin_made types v p n steps
unmixin_same types u v p n steps h = ap (λ r. and_then r (λ node. Ok (with_step steps p (Some node)))) (place_same u v steps p _ h)

-- a node that is seen
seen_same : (u v : View) (steps : Steps) (q : Path) (nodes : Nodes) → u.node q ≡ v.node q → with_seen u steps q nodes ≡ with_seen v steps q nodes
seen_same u v steps q nodes h = ap (λ o. option_map_or (λ node. insert_entry path_cmp nodes q node) o nodes) (drafted_same u v steps q h)

-- a history that is seen
history_same : (u v : View) (steps : Steps) (nodes : Nodes) (h : Path) → AreAlikeFrom u v h → with_history u steps nodes h ≡ with_history v steps nodes h
history_same u v steps nodes h alike =
    ap (with_seen u steps (root_of h)) (seen_same u v steps h nodes (here u v h alike))
    ∙ seen_same u v steps (root_of h) (with_seen v steps h nodes) (alike.nodes (root_version ∷ []))

own_history_same : (u v : View) (steps : Steps) (p : Path) (nodes : Nodes) → IfSome (named_history nodes p) (AreAlikeFrom u v) → with_own_history u steps p nodes ≡ with_own_history v steps p nodes
own_history_same u v steps p nodes alike = by (named_history nodes p) alike
  where
    by : (o : Option Path) → IfSome o (AreAlikeFrom u v) → option_map_or (with_history u steps nodes) o nodes ≡ option_map_or (with_history v steps nodes) o nodes
    by None h = refl
    by (Some q) h = history_same u v steps nodes q h

-- what counts for a history
counting_same : (u v : View) (steps : Steps) (p : Path) → AreAlikeFrom u v p → IfSome (own_history (drafted v steps p)) (AreAlikeFrom u v) → counting u steps p ≡ counting v steps p
counting_same u v steps p alike stored = ap (with_own_history u steps p) (seen_same u v steps p [] (here u v p alike))
    ∙ own_history_same u v steps p (with_seen v steps p []) (subst (λ (o : Option Path). IfSome o (AreAlikeFrom u v)) (sym (first_named v steps p)) stored)

pub mixin_same : (types : List TypeDef) (who : Who) (u v : View) (p : Path) (n : Name) (m : Making) → AreAlikeFrom u v p
    → (same_name versionable n ≡ true → IfSome (due_history who m.ids (drafted u m.steps p)) (AreAlikeFrom u v))
    → mixin_made types who u p n m ≡ mixin_made types who v p n m
mixin_same types who u v p n m alike stored =
    ap (λ r. and_then r (mixin_given types who u p n m)) (place_same u v m.steps p _ (here u v p alike))
    ∙ then_same (place_mixing types v m.steps p n) _ _ (λ o e. given o (IfOk-at_ok (λ found. IfSome found (IsMixingAt v m.steps p n)) e (placed types v m.steps p n)))
  where
    begun : (x : Node) → IsMixingAt v m.steps p n x → (l : Making) → IsPutWith who m.ids (property_of x uuid) p l → begun_by n who u p l ≡ begun_by n who v p l
    begun x h l put = by (same_name versionable n) refl
      where
        by : (b : Bool) → same_name versionable n ≡ b → cond b (begun_among (counting u l.steps p) who p l) (Ok l) ≡ cond b (begun_among (counting v l.steps p) who p l) (Ok l)
        by false e = refl
        by true e = ap (λ nodes. begun_among nodes who p l) (counting_same u v l.steps p alike (mixed_due who v p n m l x (AreAlikeFrom u v) h put
            (subst (λ (o : Option Node). IfSome (due_history who m.ids o) (AreAlikeFrom u v)) (drafted_same u v m.steps p (here u v p alike)) (stored e))))

    given : (o : Option Node) → IfSome o (IsMixingAt v m.steps p n) → mixin_given types who u p n m o ≡ mixin_given types who v p n m o
    given None h = refl
    given (Some x) h = ap (λ r. and_then r (begun_by n who u p)) (completed_same 65 types who u v p x m alike)
        ∙ then_same (completed 65 types who v p x m) _ _
        (λ l e. begun x h l (IfOk-at_ok (IsPutWith who m.ids (property_of x uuid) p) e (completed_here 65 types who v p x m)))
