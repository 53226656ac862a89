-- Nodes that are made whole, by lists of types in which each test finds the same first one.
use Rattle.std.proofs.Common.{◌≡◌, ◌≢◌, ℕ, zero, suc, ◌-◌, List, refl, sym, ap, ◌∙◌, arith}
use Rattle.std.specs.Prelude.{IfErr, Result, Ok, Err}
use Rattle.std.specs.List.{flat_map}
use Rattle.jr_path.specs.declared.path.Path.{Path}
use Rattle.jr_tree.specs.declared.shared.Refusal.{Refusal}
use Rattle.jr_tree.specs.declared.shared.Who.{Who}
use Rattle.jr_tree.specs.declared.tree.Node.{Node}
use Rattle.jr_types.proofs.Alike.{flat-alike}
use Rattle.jr_types.specs.Registered.{IsAlike}
use Rattle.jr_types.specs.Types.{props_of}
use Rattle.jr_types.specs.declared.PropDef.{PropDef}
use Rattle.jr_types.specs.declared.TypeDef.{TypeDef}
use Rattle.jr_overlay.specs.Overlays.{Sighted, View, sighted}
use Rattle.jcr_write.specs.Places.{IsDueRefusal, types_of_node}
use Rattle.jcr_fill.specs.declared.fill.Filling.{Filling}
use Rattle.jcr_fill.specs.Filled.{filled}
use Rattle.jcr_fill.specs.Makings.{Making, completed, put_filled, put_filled_by, with_made_children, with_filled}
use Rattle.jcr_fill.specs.Steps.{and_then}
use Rattle.jcr_fill.proofs.Children.{children_alike}
use Rattle.jcr_fill.proofs.Fills.{filled-alike}

-- the definitions of types in which each test finds the same put the same properties
pub put_filled_is : (types : List TypeDef) (who : Who) (p : Path) (node : Node) (m : Making) (props : List PropDef) (of : List TypeDef)
    → props ≡ flat_map props_of of → IsAlike of (types_of_node types node) → put_filled types who p node m ≡ put_filled_by who props p node m
put_filled_is types who p node m props of is h = ap (λ (r : Result Filling Refusal). and_then r (λ f. Ok (with_filled m.steps p f)))
    (sym (filled-alike who (flat_map props_of of) (flat_map props_of (types_of_node types node)) (record { node = node; ids = m.ids }) (flat-alike props_of of (types_of_node types node) h))
    ∙ ap (λ ds. filled_from who ds node m.ids) (sym is))
  where
    filled_from : Who → List PropDef → Node → ℕ → Result Filling Refusal
    filled_from who ds node ids = filled who ds (record { node = node; ids = ids })

-- no level is left: the node is put as it is
pub completed_none : (levels : ℕ) (types : List TypeDef) (who : Who) (view : View) (p : Path) (node : Node) (m : Making) → levels ≡ 0
    → completed levels types who view p node m ≡ Ok (with_filled m.steps p (record { node = node; ids = m.ids }))
unfolding completed
completed_none levels types who view p node m h = ap (λ k. completed k types who view p node m) h

-- one level: the properties, and the children by the levels that are left
pub completed_more : (levels : ℕ) (types : List TypeDef) (who : Who) (view : View) (p : Path) (node : Node) (m : Making) → levels ≢ 0
    → completed levels types who view p node m ≡ and_then (put_filled types who p node m) (with_made_children (completed (levels - 1) types who view) types view p (types_of_node types node))
unfolding completed
completed_more zero types who view p node m h = absurd (h refl)
completed_more (suc k) types who view p node m h =
    let e : k ≡ suc k - 1 = omega arith in
    ap (λ j. and_then (put_filled types who p node m) (with_made_children (completed j types who view) types view p (types_of_node types node))) e

-- the children's refusal is due, where the properties are put
pub children_err : {T : Type 0} (result : Result T Refusal) (levels : ℕ) (types of : List TypeDef) (who : Who) (s t : Sighted) (p : Path) (node : Node) (m n : Making)
    → IsAlike of (types_of_node types node) → t ≡ s → put_filled types who p node m ≡ Ok n
    → IfErr result (IsDueRefusal (with_made_children (completed levels types who (sighted t)) types (sighted t) p of n))
    → IfErr result (IsDueRefusal (and_then (put_filled types who p node m) (with_made_children (completed levels types who (sighted s)) types (sighted s) p (types_of_node types node))))
children_err (Ok x) levels types of who s t p node m n h same put is = is
children_err (Err r) levels types of who s t p node m n h same put is = λ a.
    ap (λ (q : Result Making Refusal). and_then q (with_made_children (completed levels types who (sighted s)) types (sighted s) p (types_of_node types node))) put
    ∙ (sym (children_alike levels types who (sighted s) p of (types_of_node types node) n h)
    ∙ (ap (λ v. with_made_children (completed levels types who (sighted v)) types (sighted v) p of n) (sym same) ∙ is a))
