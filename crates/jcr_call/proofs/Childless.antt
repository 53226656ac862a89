-- No node stands below a path whose last name is no name.
use Rattle.std.proofs.Common.{◌≡◌, ◌-◌, Bool, true, false, cond, Option, None, Some, [], ◌∷◌, ◌++◌, All, length, take, refl, sym, ap, subst, ◌∙◌, arith}
use Rattle.std.specs.Prelude.{◌==◌, codes, map}
use Rattle.std.specs.declared.cmp.Ordering.{Ordering}
use Rattle.std.specs.declared.cmp.Ordering.TheVariants.{Less, Equal, Greater}
use Rattle.std.specs.Ordering.{eq_by_cmp, is_eq}
use Rattle.std.specs.List.{cons_option, fold}
use Rattle.std.specs.Option.{option_map_or}
use Rattle.std.proofs.lemmas.Bool.{false≢true}
use Rattle.std.proofs.lemmas.Fmt.{decimal_digit}
use Rattle.std.proofs.lemmas.List.Elements.{All-contains, All-take, Contains-append_right}
use Rattle.jr_path.specs.Grammar.{IsName}
use Rattle.jr_path.specs.Names.{last_name, path_cmp}
use Rattle.jr_path.specs.declared.name.Name.{Name}
use Rattle.jr_path.specs.declared.path.Path.{Path}
use Rattle.jr_path.proofs.Maps.{path_exact}
use Rattle.jr_tree.specs.declared.tree.Node.{Node}
use Rattle.jr_tree.specs.Trees.{Nodes, children_of, is_child_of}
use Rattle.jr_items.specs.Items.{child_path, is_checked_in}
use Rattle.jcr_ref.specs.Histories.{version_history_of, with_version}
use Rattle.jcr_version.specs.Edits.{base_name, checked_in_version}
use Rattle.jcr_frozen.specs.Histories.{version_name}

-- the last name of a path of names is a name
last_named : (p : Path) (n : Name) → All IsName (p ++ n ∷ []) → IsName n
last_named p n all =
    All-contains IsName (p ++ n ∷ []) n all (Contains-append_right p (n ∷ []) n (0, omega arith, refl))

equal_of : (o : Ordering) → is_eq o ≡ true → o ≡ Equal
equal_of Less h = absurd (false≢true h)
equal_of Equal h = refl
equal_of Greater h = absurd (false≢true h)

-- a path of names is no child of one whose last name is none
no_child : (p : Path) (n : Name) (q : Path) → ¬ (IsName n) → All IsName q
    → is_child_of (child_path p n) q ≡ false
no_child p n q never all =
    by (length q == 0) (eq_by_cmp path_cmp (child_path p n) (take (length q - 1) q)) refl
  where
    by : (b c : Bool) → eq_by_cmp path_cmp (child_path p n) (take (length q - 1) q) ≡ c
        → option_map_or (eq_by_cmp path_cmp (child_path p n))
        (cond b None (Some (take (length q - 1) q))) false ≡ false
    by true c e = refl
    by false false e = e
    by false true e = absurd (never (last_named p n
        (subst (All IsName) (sym (path_exact _ _ (equal_of _ e))) (All-take IsName (length q - 1) q all))))

-- a node of a path of names is passed over
pub child_passed : (p : Path) (n : Name) (q : Path) (node : Node) (t : Nodes) → ¬ (IsName n) → All IsName q
    → children_of ((q, node) ∷ t) (child_path p n) ≡ children_of t (child_path p n)
child_passed p n q node t never all =
    by (is_child_of (child_path p n) q) (last_name q) (no_child p n q never all)
  where
    by : (b : Bool) (o : Option Name) → b ≡ false
        → cons_option (cond b o None) (children_of t (child_path p n)) ≡ children_of t (child_path p n)
    by true o h = absurd (false≢true (sym h))
    by false o h = refl

-- a node without versions that isn't checked in tells the first version that a check-in makes
pub first_of : (t : Nodes) (p : Path) → is_checked_in t p ≡ false
    → children_of t (version_history_of t p) ≡ [] → checked_in_version t p ≡ Some (codes "v0")
first_of t p out none =
    ap (λ b. cond b (base_name t p (version_history_of t p)) (Some (version_name (length (map (λ e. e.0.name)
    (fold with_version [] (children_of t (version_history_of t p)))))))) out
    ∙ (ap (λ ns. Some (version_name (length (map (λ e. e.0.name) (fold with_version [] ns))))) none
    ∙ ap (λ ds. Some (codes "v" ++ ds)) (decimal_digit 0 (omega arith)))
