-- Properties that are set on what was made before.
use Rattle.std.proofs.Common.{◌≡◌, ℕ, true, false, cond, List, sym, ap, ◌∙◌}
use Rattle.std.specs.Prelude.{IfErr, OnOk, Result, Ok, Err}
use Rattle.jr_path.specs.declared.name.Name.{Name}
use Rattle.jr_path.specs.declared.path.Path.{Path}
use Rattle.jr_value.specs.declared.value.Property.{Property}
use Rattle.jr_tree.specs.declared.shared.Refusal.{Refusal}
use Rattle.jr_tree.specs.declared.shared.Who.{Who}
use Rattle.jr_items.specs.Items.{is_empty}
use Rattle.jcr_trans.specs.declared.command.TreeNode.{TreeNode}
use Rattle.jcr_make.specs.Commands.{add_made}
use Rattle.jr_types.specs.declared.TypeDef.{TypeDef}
use Rattle.jr_overlay.specs.Drafts.{Steps}
use Rattle.jr_overlay.specs.Overlays.{Sighted, View, sighted}
use Rattle.jcr_write.specs.Places.{IsDueRefusal}
use Rattle.jcr_fill.specs.Makings.{Making, making}
use Rattle.jcr_fill.specs.Steps.{and_then, each}
use Rattle.jcr_make.specs.Subtrees.{furnished, part_added, part_at, part_node, with_set, with_sets}

module _ {T : Type 0} (result : Result T Refusal) (first : Result Making Refusal) (types : List TypeDef) (s t : Sighted) (p : Path) (props : List (Name × Property)) (steps new : Steps) (ids : ℕ) where
  pub sets_ok : t ≡ s → first ≡ Ok (making steps ids) → OnOk result (each (with_set types (sighted t) p) props steps ≡ Ok new)
      → OnOk result (and_then first (with_sets types (sighted s) p props) ≡ Ok (making new ids))
  sets_ok same h is = by result is
    where
      by : (r : Result T Refusal) → OnOk r (each (with_set types (sighted t) p) props steps ≡ Ok new) → OnOk r (and_then first (with_sets types (sighted s) p props) ≡ Ok (making new ids))
      by (Ok x) e = ap (λ (q : Result Making Refusal). and_then q (with_sets types (sighted s) p props)) h
          ∙ (ap (λ (v : Sighted). with_sets types (sighted v) p props (making steps ids)) (sym same)
          ∙ ap (λ (q : Result Steps Refusal). and_then q (λ u. Ok (making u ids))) e)
      by (Err r) e = e

  pub sets_err : t ≡ s → first ≡ Ok (making steps ids) → IfErr result (IsDueRefusal (each (with_set types (sighted t) p) props steps))
      → IfErr result (IsDueRefusal (and_then first (with_sets types (sighted s) p props)))
  sets_err same h is = by result is
    where
      by : (r : Result T Refusal) → IfErr r (IsDueRefusal (each (with_set types (sighted t) p) props steps)) → IfErr r (IsDueRefusal (and_then first (with_sets types (sighted s) p props)))
      by (Ok x) e = e
      by (Err r) e = λ m. ap (λ (q : Result Making Refusal). and_then q (with_sets types (sighted s) p props)) h
          ∙ (ap (λ (v : Sighted). with_sets types (sighted v) p props (making steps ids)) (sym same)
          ∙ ap (λ (q : Result Steps Refusal). and_then q (λ u. Ok (making u ids))) (e m))

-- the topmost node of a tree is added as `add` does
pub part_top : (types : List TypeDef) (who : Who) (view : View) (p : Path) (part : TreeNode) (m : Making) → is_empty part.path ≡ true → part_node types who view p part m ≡ add_made types who view p part.node_type m
part_top types who view p part m h = ap (λ b. cond b (add_made types who view p part.node_type m) (part_added types who view p part.node_type m)) h

-- another one with its limits last
pub part_lower : (types : List TypeDef) (who : Who) (view : View) (p : Path) (part : TreeNode) (m : Making) → is_empty part.path ≡ false → part_node types who view p part m ≡ part_added types who view p part.node_type m
part_lower types who view p part m h = ap (λ b. cond b (add_made types who view p part.node_type m) (part_added types who view p part.node_type m)) h

-- a node's mixins and properties come on what adding it made
pub furnished_after : (types : List TypeDef) (who : Who) (s t : Sighted) (p : Path) (part : TreeNode) (m n : Making) → t ≡ s → part_node types who (sighted s) p part m ≡ Ok n
    → part_at types who (sighted s) p part m ≡ furnished types who (sighted t) p part n
furnished_after types who s t p part m n same h =
    ap (λ (r : Result Making Refusal). and_then r (furnished types who (sighted s) p part)) h ∙ ap (λ v. furnished types who (sighted v) p part n) (sym same)
