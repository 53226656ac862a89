-- What becomes of a node, by the first name on the way down to it.
use Rattle.std.proofs.Common.{◌≡◌, Bool, true, false, cond, List, ◌∷◌, sym, ap, subst, ◌∙◌}
use Rattle.std.specs.Prelude.{IfOk, Result}
use Rattle.std.specs.declared.alloc.AllocError.{AllocError}
use Rattle.jr_path.specs.declared.name.Name.{Name}
use Rattle.jr_path.specs.declared.path.Path.{Path}
use Rattle.jr_tree.specs.Trees.{Nodes}
use Rattle.jr_items.specs.Items.{child_path}
use Rattle.jr_types.specs.declared.TypeDef.{TypeDef}
use Rattle.jcr_restore.specs.declared.fates.Fate.{Fate}
use Rattle.jcr_restore.specs.declared.fates.Fate.TheVariants as fate
use Rattle.jcr_restore.specs.Restored.{fate_below, is_kept_back, is_there}

pub stays : (types : List TypeDef) (t : Nodes) (here there : Path) (n : Name) (ns : List Name) → is_kept_back types t (child_path here n) ≡ true → fate.Stays ≡ fate_below types t here there (n ∷ ns)
stays types t here there n ns h = sym (ap (λ b. cond b fate.Stays (cond (is_there t (child_path there n)) (fate_below types t (child_path here n) (child_path there n) ns) fate.Goes)) h)

-- the node is brought where it isn't kept back and has a frozen node
pub then : (types : List TypeDef) (t : Nodes) (here there : Path) (n : Name) (ns : List Name) (b : Bool) → is_kept_back types t (child_path here n) ≡ false → is_there t (child_path there n) ≡ b
    → cond b (fate_below types t (child_path here n) (child_path there n) ns) fate.Goes ≡ fate_below types t here there (n ∷ ns)
then types t here there n ns b h k =
    sym (ap (λ c. cond c fate.Stays (cond (is_there t (child_path there n)) (fate_below types t (child_path here n) (child_path there n) ns) fate.Goes)) h
    ∙ ap (λ c. cond c (fate_below types t (child_path here n) (child_path there n) ns) fate.Goes) k)

pub goes : (types : List TypeDef) (t : Nodes) (here there : Path) (n : Name) (ns : List Name) → is_kept_back types t (child_path here n) ≡ false → is_there t (child_path there n) ≡ false
    → fate.Goes ≡ fate_below types t here there (n ∷ ns)
goes types t here there n ns h k = then types t here there n ns false h k

pub further : (types : List TypeDef) (t : Nodes) (here there : Path) (n : Name) (ns : List Name) (result : Result Fate AllocError) → is_kept_back types t (child_path here n) ≡ false
    → is_there t (child_path there n) ≡ true → IfOk result (λ f. f ≡ fate_below types t (child_path here n) (child_path there n) ns) → IfOk result (λ f. f ≡ fate_below types t here there (n ∷ ns))
further types t here there n ns result h k is = subst (λ (x : Fate). IfOk result (λ f. f ≡ x)) (then types t here there n ns true h k) is
