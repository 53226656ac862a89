-- What a history's beginning makes.
use Rattle.std.proofs.Common.{◌≡◌, true, cond, sym, ap, ◌∙◌}
use Rattle.std.specs.Prelude.{Result, Ok}
use Rattle.jr_path.specs.declared.name.Name.{Name}
use Rattle.jr_path.specs.declared.path.Path.{Path}
use Rattle.jr_tree.specs.declared.shared.Refusal.{Refusal}
use Rattle.jr_tree.specs.declared.shared.Who.{Who}
use Rattle.jr_tree.specs.Trees.{Nodes}
use Rattle.jr_items.specs.Items.{same_name}
use Rattle.jr_items.specs.Names.{versionable}
use Rattle.jr_overlay.specs.Overlays.{Sighted, View, sighted}
use Rattle.jcr_mixin.specs.Histories.{begun_among, begun_by, counting}
use Rattle.jcr_fill.specs.Makings.{Making}
use Rattle.jcr_fill.specs.Steps.{and_then}

-- with `mix:versionable` the history begins among what counts
pub begun_is : (n : Name) (who : Who) (view : View) (p : Path) (m : Making) (nodes : Nodes) → same_name versionable n ≡ true → nodes ≡ counting view m.steps p
    → begun_by n who view p m ≡ begun_among nodes who p m
begun_is n who view p m nodes h is =
    ap (λ b. cond b (begun_among (counting view m.steps p) who p m) (Ok m)) h ∙ ap (λ t. begun_among t who p m) (sym is)

-- it begins on what was made before
pub begun_after : (n : Name) (who : Who) (s t : Sighted) (p : Path) (first : Result Making Refusal) (m : Making) → t ≡ s → first ≡ Ok m
    → and_then first (begun_by n who (sighted s) p) ≡ begun_by n who (sighted t) p m
begun_after n who s t p first m same h =
    ap (λ (r : Result Making Refusal). and_then r (begun_by n who (sighted s) p)) h ∙ ap (λ v. begun_by n who (sighted v) p m) (sym same)
