-- Items that writes have, by a set of them.
use Rattle.std.proofs.Common.{◌≡◌, ℕ, suc, zero, Bool, true, false, cond, ◌&&◌, ◌||◌, not, List, [], ◌∷◌, ◌++◌, length, drop, refl, sym, ap, ◌∙◌, arith}
use Rattle.std.specs.Prelude.{IfOk, Option, Result, Some}
use Rattle.std.specs.Ordering.{eq_by_cmp}
use Rattle.std.specs.List.{list_all, list_any}
use Rattle.std.specs.Option.{option_map_or}
use Rattle.std.specs.BTreeSet.{BTreeSet, contains, Updates}
use Rattle.std.proofs.lemmas.Cmp.{eq_by_cmp_equiv}
use Rattle.std.proofs.lemmas.List.{drop_all}
use Rattle.std.proofs.lemmas.Result.{IfOk-weaker}
use Rattle.std.proofs.lemmas.List.Folds.{list_any-append}
use Rattle.jr_path.specs.declared.name.Name.{Name}
use Rattle.jr_path.specs.declared.path.Item.{Item}
use Rattle.jr_path.specs.declared.path.Path.{Path}
use Rattle.jr_path.specs.Names.{name_cmp, path_cmp}
use Rattle.jr_tree.specs.declared.edit.Write.{Write}
use Rattle.jr_tree.specs.declared.edit.Write.TheVariants.{Gone, Unset}
use Rattle.jr_tree.specs.Edits.{is_emptied, is_once, is_same_item, is_unset_of, item_cmp, item_of}
use Rattle.jr_tree.proofs.LastWrites.{IsRead, both_tied, item_total, read_kept, read_none, written_again}
use Rattle.jr_tree.specs.Trees.{Nodes, node_at}
use Rattle.jr_tree.specs.declared.tree.Node.{Node}
use Rattle.jcr_call.specs.Unset.{AreUnset, has_property}

-- the writes from a place on were read from the last to the first, and no item came twice
pub record IsSeenOnce (ws : List Write) (seen : BTreeSet Item) : Type 0 where
  pub last : List Write
  pub read : IsRead ws last seen
  pub once : is_once ws ≡ true

pub seen_none : (writes : List Write) (seen : BTreeSet Item) (k : ℕ) → k ≡ length writes → seen.keys ≡ [] → IsSeenOnce (drop k writes) seen
seen_none writes seen k long empty = record {
  last = [];
  read = read_none writes writes [] seen k long refl refl empty;
  once = ap is_once (ap (λ n. drop n writes) long ∙ drop_all (length writes) writes (omega arith));
}

-- whether a later write has the item, by what the set tells
again : (ws last : List Write) (w : Write) (item : Item) (seen : BTreeSet Item) (added : Bool) → IsRead ws last seen → item ≡ item_of w
    → added ≡ not (contains item_cmp seen item) → not (list_any (is_same_item w) ws) ≡ added
again ws last w item seen added read same told =
    ap not (written_again w ws ∙ (sym (read.seen_are (item_of w)) ∙ ap (contains item_cmp seen) (sym same))) ∙ sym told

pub seen_first : (ws ws' : List Write) (seen seen' : BTreeSet Item) (w : Write) (item : Item) (added : Bool) → IsSeenOnce ws seen → ws' ≡ w ∷ ws → item ≡ item_of w
    → added ≡ not (contains item_cmp seen item) → Updates item_cmp seen seen' item true → added ≡ true → IsSeenOnce ws' seen'
seen_first ws ws' seen seen' w item added before first same told new is = record {
  last = before.last ++ w ∷ [];
  read = read_kept ws ws' before.last _ seen seen' w item added before.read first same told new is refl;
  once = ap is_once first ∙ (ap (λ b. b && is_once ws) (again ws before.last w item seen added before.read same told ∙ is) ∙ before.once);
}

pub seen_twice : (ws ws' : List Write) (seen : BTreeSet Item) (w : Write) (item : Item) (added : Bool) → IsSeenOnce ws seen → ws' ≡ w ∷ ws → item ≡ item_of w
    → added ≡ not (contains item_cmp seen item) → added ≡ false → is_once ws' ≡ false
seen_twice ws ws' seen w item added before first same told is =
    ap is_once first ∙ ap (λ b. b && is_once ws) (again ws before.last w item seen added before.read same told ∙ is)

-- what is written twice from a place on is written twice
pub not_once : (ws : List Write) (k : ℕ) → is_once (drop k ws) ≡ false → is_once ws ≡ false
not_once [] k h = by k h
  where
    by : (k : ℕ) → is_once (drop k []) ≡ false → is_once [] ≡ false
    by zero h = h
    by (suc k) h = h
not_once (w ∷ ws) zero h = h
not_once (w ∷ ws) (suc k) h = ap (λ b. not (list_any (is_same_item w) ws) && b) (not_once ws k h) ∙ never (not (list_any (is_same_item w) ws))
  where
    never : (b : Bool) → (b && false) ≡ false
    never true = refl
    never false = refl

-- ---- properties that are unset

unset_turned : (p q : Path) (n m : Name) → eq_by_cmp item_cmp (record { path = q; name = Some m }) (record { path = p; name = Some n }) ≡ is_unset_of p n (Unset q m)
unset_turned p q n m = (eq_by_cmp_equiv item_total).symm (record { path = q; name = Some m }) (record { path = p; name = Some n }) ∙ sym (both_tied (path_cmp p q) (name_cmp n m))

-- one write more, which unsets a property or not
pub unset_more : (ws ws' : List Write) (items items' : BTreeSet Item) (q : Path) (m : Name) (item : Item) → AreUnset ws items → ws' ≡ ws ++ Unset q m ∷ []
    → item ≡ record { path = q; name = Some m } → Updates item_cmp items items' item true → AreUnset ws' items'
unset_more ws ws' items items' q m item are more same new p n =
    new.0 (record { path = p; name = Some n })
    ∙ (ap (λ (x : Item). cond (eq_by_cmp item_cmp x (record { path = p; name = Some n })) true (contains item_cmp items (record { path = p; name = Some n }))) same
    ∙ (ap (λ b. cond b true (contains item_cmp items (record { path = p; name = Some n }))) (unset_turned p q n m)
    ∙ (by (is_unset_of p n (Unset q m)) (list_any (is_unset_of p n) ws) (contains item_cmp items (record { path = p; name = Some n })) (are p n)
    ∙ sym (ap (list_any (is_unset_of p n)) more ∙ list_any-append (is_unset_of p n) ws (Unset q m ∷ [])))))
  where
    by : (b a c : Bool) → c ≡ a → cond b true c ≡ (a || (b || false))
    by true true c h = refl
    by true false c h = refl
    by false true c h = h
    by false false c h = h

-- a node that goes, by the set of what is unset
pub emptied_by : {E : Type 0} (t : Nodes) (p : Path) (node : Node) (unset : BTreeSet Item) (ws : List Write) (w : Write) (r : Result Bool E) → node_at t p ≡ Some node
    → AreUnset ws unset → w ≡ Gone p → IfOk r (λ b. b ≡ list_all (λ e. has_property unset p e.0) node.props) → IfOk r (λ b. b ≡ is_emptied t ws w)
emptied_by t p node unset ws w r found are is ok = IfOk-weaker r _ _ (λ b same.
    same ∙ ((λ i. list_all (λ e. are p e.0 i) node.props)
    ∙ (ap (λ (o : Option Node). list_all (λ e. list_any (is_unset_of p e.0) ws) (option_map_or (λ x. x.props) o [])) (sym found)
    ∙ ap (is_emptied t ws) (sym is)))) ok
