-- An edit that is proper on a tree fits it.
use Rattle.std.proofs.Common.{◌≡◌, Bool, true, false, cond, ◌&&◌, ◌||◌, Some, None, Option, List, [], ◌∷◌, refl, sym, ap, ◌∙◌, subst, is_some}
use Rattle.std.specs.Option.{option_and_then, option_map_or, option_or, unwrap_or}
use Rattle.std.specs.Ordering.{eq_by_cmp}
use Rattle.std.specs.Map.{lookup}
use Rattle.std.specs.BTreeMap.{is_at}
use Rattle.std.specs.List.{list_any, list_all}
use mathlib.Core.Bool.{false≢true}
use Rattle.jr_path.specs.Names.{name_cmp, path_cmp}
use Rattle.jr_path.specs.declared.name.Name.{Name}
use Rattle.jr_path.specs.declared.path.Path.{Path}
use Rattle.jr_path.proofs.Maps.{name_exact}
use Rattle.jr_value.specs.declared.value.Property.{Property}
use Rattle.jr_value.specs.Values.{same_property}
use Rattle.jr_tree.specs.declared.tree.Node.{Node}
use Rattle.jr_tree.specs.declared.edit.Write.{Write}
use Rattle.jr_tree.specs.declared.edit.Write.TheVariants.{Here, Gone, Put, Unset}
use Rattle.jr_tree.specs.Trees.{Nodes, node_at}
use Rattle.jr_tree.specs.Edits.{applied, is_unset_of, is_emptied, is_change, IsProper}
use Rattle.jr_tree.proofs.Pointwise.{same_path}
use Rattle.jr_tree.specs.Items.{here_of, put_of, is_gone_of, written, Fits}
use Rattle.jr_tree.proofs.Entries.{exactly, first, second}
use Rattle.jr_tree.proofs.AtPath.{InOrder}
use Rattle.jr_tree.proofs.EditLaw.{has_applied}
use Rattle.basics.proofs.Options.{some_where}

pub same_name : (m n : Name) → eq_by_cmp name_cmp m n ≡ true → m ≡ n
same_name m n h = name_exact m n (exactly (name_cmp m n) h)

-- a Put or Unset that a write of the item is, found among writes that all pass a test
is_that_put : (ok : Write → Bool) (p : Path) (n : Name) (x : Property) (w : Write) → ok w ≡ true → put_of p n w ≡ Some (Some x) → ok (Put p n x) ≡ true
is_that_put ok p n x (Here q) h e = absurd (false≢true (ap is_some e))
is_that_put ok p n x (Gone q) h e = absurd (false≢true (ap is_some e))
is_that_put ok p n x (Put q m y) h e = by (eq_by_cmp path_cmp p q && eq_by_cmp name_cmp n m) refl e
  where
    by : (b : Bool) → (eq_by_cmp path_cmp p q && eq_by_cmp name_cmp n m) ≡ b → cond b (Some (Some y)) None ≡ Some (Some x) → ok (Put p n x) ≡ true
    by true t s =
        let path : p ≡ q = same_path p q (first _ _ t) in
        let name : n ≡ m = same_name n m (second _ _ t) in
        let value : y ≡ x = ap (λ (o : Option (Option Property)). unwrap_or (unwrap_or o None) y) s in
        subst (λ (r : Path). ok (Put r n x) ≡ true) (sym path) (subst (λ (r : Name). ok (Put q r x) ≡ true) (sym name) (subst (λ (r : Property). ok (Put q m r) ≡ true) value h))
    by false t s = absurd (false≢true (ap is_some s))
is_that_put ok p n x (Unset q m) h e = by (eq_by_cmp path_cmp p q && eq_by_cmp name_cmp n m) e
  where
    by : (b : Bool) → cond b (Some None) None ≡ Some (Some x) → ok (Put p n x) ≡ true
    by true s = absurd (false≢true (ap (λ (o : Option (Option Property)). option_map_or is_some o false) s))
    by false s = absurd (false≢true (ap is_some s))

found_put : (ok : Write → Bool) (p : Path) (n : Name) (x : Property) (us : List Write) → list_all ok us ≡ true → written (put_of p n) us ≡ Some (Some x) → ok (Put p n x) ≡ true
found_put ok p n x [] h e = absurd (false≢true (ap is_some e))
found_put ok p n x (w ∷ us) h e =
    (elim (written (put_of p n) us) as (λ o. (o ≡ Some (Some x) → ok (Put p n x) ≡ true) → option_or o (put_of p n w) ≡ Some (Some x) → ok (Put p n x) ≡ true) [
      | None ↦ λ rest s. is_that_put ok p n x w (first _ _ h) s
      | Some y ↦ λ rest s. rest s
    ]) (λ s. found_put ok p n x us (second _ _ h) s) e

found_gone : (ok : Write → Bool) (p : Path) (us : List Write) → list_all ok us ≡ true → list_any (is_gone_of p) us ≡ true → ok (Gone p) ≡ true
found_gone ok p [] h e = absurd (false≢true e)
found_gone ok p (w ∷ us) h e = by w (first _ _ h) (λ s. found_gone ok p us (second _ _ h) s) e
  where
    by : (w : Write) → ok w ≡ true → (list_any (is_gone_of p) us ≡ true → ok (Gone p) ≡ true) → (is_gone_of p w || list_any (is_gone_of p) us) ≡ true → ok (Gone p) ≡ true
    by (Here q) k rest s = rest s
    by (Put q m x) k rest s = rest s
    by (Unset q m) k rest s = rest s
    by (Gone q) k rest s =
        (elim (eq_by_cmp path_cmp p q) as (λ b. eq_by_cmp path_cmp p q ≡ b → (b || list_any (is_gone_of p) us) ≡ true → ok (Gone p) ≡ true) [
          | true ↦ λ t s. subst (λ (r : Path). ok (Gone r) ≡ true) (sym (same_path p q t)) k
          | false ↦ λ t s. rest s
        ]) refl s

-- a test that each name passes is passed by a name that is found
named : (test : Name → Bool) (n : Name) (es : List (Name × Property)) → list_all (λ e. test e.0) es ≡ true → is_some (lookup (is_at (name_cmp n)) es) ≡ true → test n ≡ true
named test n [] h e = absurd (false≢true e)
named test n (x ∷ es) h e =
    (elim (eq_by_cmp name_cmp n x.0) as (λ b. eq_by_cmp name_cmp n x.0 ≡ b → is_some (cond b (Some x.1) (lookup (is_at (name_cmp n)) es)) ≡ true → test n ≡ true) [
      | true ↦ λ t s. subst (λ (m : Name). test m ≡ true) (sym (same_name n x.0 t)) (first _ _ h)
      | false ↦ λ t s. named test n es (second _ _ h) s
    ]) refl e

some_or : {X : Type 0} (a b : Option X) → is_some a ≡ true → is_some (option_or a b) ≡ true
some_or None b h = absurd (false≢true h)
some_or (Some x) b h = refl

or_some : {X : Type 0} (a b : Option X) → is_some b ≡ true → is_some (option_or a b) ≡ true
or_some None b h = h
or_some (Some x) b h = refl

one_writes : {X : Type 0} (a b : Option X) (c d : Bool) → (c ≡ true → is_some b ≡ true) → (d ≡ true → is_some a ≡ true) → (c || d) ≡ true → is_some (option_or a b) ≡ true
one_writes a b true d f g h = or_some a b (f refl)
one_writes a b false d f g h = some_or a b (g h)

unset_puts : (p : Path) (n : Name) (w : Write) → is_unset_of p n w ≡ true → is_some (put_of p n w) ≡ true
unset_puts p n (Here q) h = absurd (false≢true h)
unset_puts p n (Gone q) h = absurd (false≢true h)
unset_puts p n (Put q m x) h = absurd (false≢true h)
unset_puts p n (Unset q m) h = some_where _ None h

-- what is unset is written
unset_writes : (p : Path) (n : Name) (us : List Write) → list_any (is_unset_of p n) us ≡ true → is_some (written (put_of p n) us) ≡ true
unset_writes p n [] h = absurd (false≢true h)
unset_writes p n (w ∷ us) h = one_writes (written (put_of p n) us) (put_of p n w) (is_unset_of p n w) _ (unset_puts p n w) (λ s. unset_writes p n us s) h

gone_here : (p : Path) (w : Write) → is_gone_of p w ≡ true → is_some (here_of p w) ≡ true
gone_here p (Here q) h = absurd (false≢true h)
gone_here p (Gone q) h = some_where _ false h
gone_here p (Put q m x) h = absurd (false≢true h)
gone_here p (Unset q m) h = absurd (false≢true h)

-- a node that goes is written
pub gone_writes : (p : Path) (us : List Write) → list_any (is_gone_of p) us ≡ true → is_some (written (here_of p) us) ≡ true
gone_writes p [] h = absurd (false≢true h)
gone_writes p (w ∷ us) h = one_writes (written (here_of p) us) (here_of p w) (is_gone_of p w) _ (gone_here p w) (λ s. gone_writes p us s) h

property_has : (n : Name) (o : Option Node) → is_some (option_and_then (λ node. lookup (is_at (name_cmp n)) node.props) o) ≡ true → is_some o ≡ true
property_has n None h = absurd (false≢true h)
property_has n (Some node) h = refl

named_at : (test : Name → Bool) (n : Name) (o : Option Node) → list_all (λ e. test e.0) (option_map_or (λ node. node.props) o []) ≡ true → is_some (option_and_then (λ node. lookup (is_at (name_cmp n)) node.props) o) ≡ true → test n ≡ true
named_at test n None h e = absurd (false≢true e)
named_at test n (Some node) h e = named test n node.props h e

is_put : (x : Property) (o : Option Property) → option_map_or (same_property x) o false ≡ true → is_some o ≡ true
is_put x None h = absurd (false≢true h)
is_put x (Some y) h = refl

pub proper_fits : (t : Nodes) (ws : List Write) → InOrder t → IsProper t ws → Fits t ws
proper_fits t ws s proper = record {
  once = proper.once;
  put = λ p n x e. sym (has_applied None t ws s p) ∙ property_has n (node_at (applied None t ws) p) (is_put x _ (second _ _ (found_put (is_change t (applied None t ws)) p n x ws proper.changing e)));
  gone = λ p n g h. unset_writes p n ws (named_at (λ m. list_any (is_unset_of p m) ws) n (node_at t p) (found_gone (is_emptied t ws) p ws proper.emptied g) h);
}
