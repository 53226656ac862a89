-- A value put where it stands changes nothing.
use Rattle.std.proofs.Common.{◌≡◌, Bool, true, false, cond, Some, Option, List, [], ◌∷◌, refl, sym, ap, ◌∙◌}
use Rattle.std.specs.Prelude.{unwrap_or}
use Rattle.std.specs.Map.{lookup, set_value}
use Rattle.std.specs.BTreeMap.{is_at}
use Rattle.jr_path.specs.Names.{path_cmp}
use Rattle.jr_path.specs.declared.name.Name.{Name}
use Rattle.jr_path.specs.declared.path.Path.{Path}
use Rattle.jr_value.specs.declared.value.Property.{Property}
use Rattle.jr_tree.specs.declared.tree.Node.{Node}
use Rattle.jr_tree.specs.Trees.{Nodes, node_at}

module _ {K X : Type 0} (test : K → Bool) where
  pub put_back : (v : X) (es : List (K × X)) → lookup test es ≡ Some v → set_value test es v ≡ es
  put_back v [] h = refl
  put_back v (e ∷ es) h = put_on (test e.0) v e es (put_back v es) h
    where
      put_on : (b : Bool) (v : X) (e : K × X) (es : List (K × X)) → (lookup test es ≡ Some v → set_value test es v ≡ es)
          → cond b (Some e.1) (lookup test es) ≡ Some v → cond b ((e.0, v) ∷ es) (e ∷ set_value test es v) ≡ e ∷ es
      put_on true v e es rest g = ap (λ (o : Option X). (e.0, unwrap_or o e.1) ∷ es) (sym g)
      put_on false v e es rest g = ap (λ (fs : List (K × X)). e ∷ fs) (rest g)

-- the properties of a node put back where they stood
pub written_back : (p : Path) (old inner lent : Nodes) (node : Node) (props : List (Name × Property))
    → inner ≡ old → Some node ≡ node_at inner p → props ≡ node.props → lent ≡ set_value (is_at (path_cmp p)) inner (record node { props = props }) → lent ≡ old
written_back p old inner lent node props same there kept lent_is =
    lent_is ∙ (ap (λ (ps : List (Name × Property)). set_value (is_at (path_cmp p)) inner (record node { props = ps })) kept
    ∙ (put_back (is_at (path_cmp p)) node inner (sym there) ∙ same))
