-- What `tree` makes reads no other nodes of a view.
use Rattle.std.proofs.Common.{◌≡◌, ◌⊎◌, inl, inr, ℕ, Bool, true, false, cond, Option, None, Some, List, [], ◌∷◌, ◌++◌, sym, ap, ◌∙◌, append_assoc}
use Rattle.std.specs.Prelude.{Result, Ok}
use Rattle.std.specs.Option.{IfSome, unwrap_or}
use Rattle.std.proofs.lemmas.List.{append-nil}
use Rattle.jr_path.specs.Named.{is_name}
use Rattle.jr_path.specs.declared.name.Name.{Name}
use Rattle.jr_path.specs.declared.path.Path.{Path}
use Rattle.jr_path.proofs.Parts.{parent_of-child}
use Rattle.jr_value.specs.declared.value.Property.{Property}
use Rattle.jr_tree.specs.declared.shared.Refusal.{Refusal}
use Rattle.jr_tree.specs.declared.shared.Who.{Who}
use Rattle.jr_tree.specs.Trees.{node_of_type}
use Rattle.jr_items.specs.Items.{is_empty, same_name}
use Rattle.jr_items.specs.Names.{version_storage, versionable}
use Rattle.jr_items.specs.Refusals.{in_system, limit_refusal}
use Rattle.jr_types.specs.declared.TypeDef.{TypeDef}
use Rattle.jr_overlay.specs.Drafts.{Steps, drafted}
use Rattle.jr_overlay.specs.Overlays.{View}
use Rattle.jr_overlay.proofs.Children.{ends}
use Rattle.jcr_trans.specs.declared.command.TreeNode.{TreeNode}
use Rattle.jcr_write.specs.Places.{above, unless_refused}
use Rattle.jcr_write.proofs.Reading.{set_reads}
use Rattle.jcr_fill.specs.Filled.{next_text}
use Rattle.jcr_fill.specs.Makings.{Making, making}
use Rattle.jcr_fill.specs.Steps.{and_then, each}
use Rattle.jcr_fill.proofs.Touched.{all_have}
use Rattle.jcr_make.specs.AlikeViews.{AreAlikeFrom}
use Rattle.jcr_make.specs.Commands.{add_made, chosen_type}
use Rattle.jcr_mixin.specs.Histories.{history_by, mixin_made, own_text}
use Rattle.jcr_make.specs.Subtrees.{furnished, limited, makes_histories, makes_history, part_added, part_at, part_node, tree_made, with_part, with_set, with_sets}
use Rattle.jcr_make.proofs.ReadBelow.{add_same, below_alike, chosen_same, completed_same, each_same, here, mixin_same, then_same}
use Rattle.jcr_make.proofs.Touched.{any_has}

-- whichever of two comes is the same
if_same : {A : Type 0} (b : Bool) (x y z w : A) → x ≡ z → y ≡ w → cond b x y ≡ cond b z w
if_same true x y z w h k = h
if_same false x y z w h k = k

-- the node above a place below p is below p, or it is the one above p
above_alike : (u v : View) (p q : Path) → AreAlikeFrom u v p → u.node (above p) ≡ v.node (above p) → u.node (above (p ++ q)) ≡ v.node (above (p ++ q))
above_alike u v p q alike top = by (ends q)
  where
    by : (q ≡ []) ⊎ ((up : Path) × (n : Name) × (q ≡ up ++ n ∷ [])) → u.node (above (p ++ q)) ≡ v.node (above (p ++ q))
    by (inl e) =
        let at : p ++ q ≡ p = ap (λ (x : Path). p ++ x) e ∙ append-nil p in
        ap (λ (x : Path). u.node (above x)) at ∙ (top ∙ sym (ap (λ (x : Path). v.node (above x)) at))
    by (inr s) =
        let at : above (p ++ q) ≡ p ++ s.0 = ap (λ (x : Path). above (p ++ x)) s.2 ∙ (ap above (sym (append_assoc p s.0 (s.1 ∷ []))) ∙ ap (λ (o : Option Path). unwrap_or o []) (parent_of-child (p ++ s.0) s.1)) in
        ap u.node at ∙ (alike.nodes s.0 ∙ sym (ap v.node at))

-- where all histories are alike, so is each
stored_alike : (u v : View) → AreAlikeFrom u v version_storage → (id : List ℕ) → IfSome (history_by id) (AreAlikeFrom u v)
stored_alike u v stored id = by (is_name id)
  where
    by : (b : Bool) → IfSome (cond b (Some (version_storage ++ id ∷ [])) None) (AreAlikeFrom u v)
    by true = below_alike u v version_storage (id ∷ []) stored
    by false = tt

sets_same : (types : List TypeDef) (u v : View) (p : Path) (props : List (Name × Property)) (m : Making) → u.node p ≡ v.node p → with_sets types u p props m ≡ with_sets types v p props m
sets_same types u v p props m at_p = ap (λ (r : Result Steps Refusal). and_then r (λ steps. Ok (making steps m.ids)))
    (each_same (with_set types u p) (with_set types v p) props
    (all_have (λ x. (s : Steps) → with_set types u p x s ≡ with_set types v p x s) (λ x s. set_reads types u v s p x.0 x.1 at_p) props) m.steps)

furnished_same : (types : List TypeDef) (who : Who) (u v : View) (p : Path) (part : TreeNode) (m : Making) → AreAlikeFrom u v p → (makes_history part ≡ true → AreAlikeFrom u v version_storage)
    → furnished types who u p part m ≡ furnished types who v p part m
furnished_same types who u v p part m alike stored =
    ap (λ (r : Result Making Refusal). and_then r (with_sets types u p part.props))
    (each_same (mixin_made types who u p) (mixin_made types who v p) part.mixins
    (any_has (same_name versionable) (AreAlikeFrom u v version_storage) (λ n. (s : Making) → mixin_made types who u p n s ≡ mixin_made types who v p n s)
    (λ n h s. mixin_same types who u v p n s alike (λ versioned. stored_alike u v (h versioned) (unwrap_or (own_text (drafted u s.steps p)) (next_text who s.ids)))) part.mixins stored) m)
    ∙ then_same (each (mixin_made types who v p) part.mixins m) _ _ (λ l e. sets_same types u v p part.props l (here u v p alike))

part_same : (types : List TypeDef) (who : Who) (u v : View) (p : Path) (part : TreeNode) (m : Making) → AreAlikeFrom u v p → u.node (above p) ≡ v.node (above p)
    → (makes_history part ≡ true → AreAlikeFrom u v version_storage) → part_at types who u p part m ≡ part_at types who v p part m
part_same types who u v p part m alike top stored =
    ap (λ (r : Result Making Refusal). and_then r (furnished types who u p part))
    (if_same (is_empty part.path) (add_made types who u p part.node_type m) (part_added types who u p part.node_type m)
    (add_made types who v p part.node_type m) (part_added types who v p part.node_type m) (add_same types who u v p part.node_type m alike top) lower)
    ∙ then_same (part_node types who v p part m) _ _ (λ l e. furnished_same types who u v p part l alike stored)
  where
    lower : part_added types who u p part.node_type m ≡ part_added types who v p part.node_type m
    lower = ap (unless_refused (in_system p))
        (ap (λ r. and_then r (limited types who u p m)) (chosen_same types u v m.steps p part.node_type (here u v p alike) top)
        ∙ then_same (chosen_type types v m.steps p part.node_type) _ _ (λ n e. ap (unless_refused (limit_refusal p)) (completed_same 65 types who u v p (node_of_type n) m alike)))

pub tree_same : (types : List TypeDef) (who : Who) (u v : View) (p : Path) (parts : List TreeNode) (m : Making) → AreAlikeFrom u v p → u.node (above p) ≡ v.node (above p)
    → (makes_histories parts ≡ true → AreAlikeFrom u v version_storage) → tree_made types who u p parts m ≡ tree_made types who v p parts m
tree_same types who u v p parts m alike top stored = each_same (with_part types who u p) (with_part types who v p) parts
    (any_has makes_history (AreAlikeFrom u v version_storage) (λ part. (s : Making) → with_part types who u p part s ≡ with_part types who v p part s)
    (λ part h s. part_same types who u v (p ++ part.path) part s (below_alike u v p part.path alike) (above_alike u v p part.path alike top) h) parts stored) m
