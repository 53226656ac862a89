-- What an edit writes at a path it writes by a write of that path, and the properties that are found by their names.
use Rattle.std.proofs.Common.{◌≡◌, Bool, true, false, cond, ◌||◌, Some, None, Option, List, [], ◌∷◌, refl, sym, ap, ◌∙◌, is_some}
use Rattle.std.specs.Option.{option_map_or, option_or}
use Rattle.std.specs.Ordering.{eq_by_cmp}
use Rattle.std.specs.FinMap.{is_sorted}
use Rattle.std.specs.Map.{lookup}
use Rattle.std.specs.BTreeMap.{is_at, insert_entry}
use Rattle.std.specs.List.{fold, list_any}
use Rattle.std.proofs.lemmas.Cmp.{nat_list_cmp_total}
use mathlib.Core.Bool.{false≢true}
use Rattle.jr_path.specs.Names.{name_cmp, path_cmp}
use Rattle.jr_path.specs.declared.name.Name.{Name}
use Rattle.jr_path.specs.declared.path.Path.{Path}
use Rattle.jr_path.proofs.Maps.{lookup-insert_entry}
use Rattle.jr_value.specs.declared.value.Property.{Property}
use Rattle.jr_tree.specs.declared.edit.Write.{Write}
use Rattle.jr_tree.specs.declared.edit.Write.TheVariants.{Here, Gone, Put, Unset}
use Rattle.jr_tree.specs.Items.{here_of, put_of, written}
use Rattle.core_read.specs.Holds.{is_at_path}
use Rattle.core_read.proofs.Entries.{first, sorted_insert}
use Rattle.jr_tree.proofs.Proper.{same_name}

-- ---- what an edit writes at a path it writes by a write of that path

or_else : (a b : Bool) → b ≡ true → (a || b) ≡ true
or_else true b h = refl
or_else false b h = h

or_first : (a b : Bool) → a ≡ true → (a || b) ≡ true
or_first true b h = refl
or_first false b h = absurd (false≢true h)

pub writes_there : {X : Type 0} (f : Write → Option X) (at : Write → Bool) → ((w : Write) → is_some (f w) ≡ true → at w ≡ true) → (ws : List Write) → is_some (written f ws) ≡ true → list_any at ws ≡ true
writes_there f at is [] h = absurd (false≢true h)
writes_there f at is (w ∷ ws) h =
    (elim (written f ws) as (λ o. (is_some o ≡ true → list_any at ws ≡ true) → is_some (option_or o (f w)) ≡ true → (at w || list_any at ws) ≡ true) [
      | None ↦ λ rest k. or_first (at w) _ (is w k)
      | Some x ↦ λ rest k. or_else (at w) _ (rest refl)
    ]) (λ k. writes_there f at is ws k) h

passes : {X : Type 0} (b : Bool) (x : X) → is_some (cond b (Some x) None) ≡ true → b ≡ true
passes true x h = refl
passes false x h = h

pub here_there : (p : Path) (w : Write) → is_some (here_of p w) ≡ true → is_at_path p w ≡ true
here_there p (Here q) h = passes _ true h
here_there p (Gone q) h = passes _ false h
here_there p (Put q m x) h = absurd (false≢true h)
here_there p (Unset q m) h = absurd (false≢true h)

pub put_there : (p : Path) (n : Name) (w : Write) → is_some (put_of p n w) ≡ true → is_at_path p w ≡ true
put_there p n (Here q) h = absurd (false≢true h)
put_there p n (Gone q) h = absurd (false≢true h)
put_there p n (Put q m x) h = first (eq_by_cmp path_cmp p q) (eq_by_cmp name_cmp n m) (passes _ (Some x) h)
put_there p n (Unset q m) h = first (eq_by_cmp path_cmp p q) (eq_by_cmp name_cmp n m) (passes _ None h)

-- ---- the names of a node

module _ (val : Name → Option Property) where
  abbrev pub gathered : List (Name × Property) → List Name → List (Name × Property)
  gathered ps names = fold (λ ps n. option_map_or (insert_entry name_cmp ps n) (val n) ps) ps names

  pub gathered_sorted : (names : List Name) (ps : List (Name × Property)) → is_sorted name_cmp ps ≡ true → is_sorted name_cmp (gathered ps names) ≡ true
  gathered_sorted [] ps s = s
  gathered_sorted (n ∷ names) ps s = gathered_sorted names (option_map_or (insert_entry name_cmp ps n) (val n) ps) (by (val n))
    where
      by : (o : Option Property) → is_sorted name_cmp (option_map_or (insert_entry name_cmp ps n) o ps) ≡ true
      by None = s
      by (Some x) = sorted_insert name_cmp nat_list_cmp_total n x ps s

  one_more : (m n : Name) (ps : List (Name × Property)) (o : Option Property) → val n ≡ o
      → lookup (is_at (name_cmp m)) (option_map_or (insert_entry name_cmp ps n) o ps) ≡ cond (eq_by_cmp name_cmp m n) (option_or (val m) (lookup (is_at (name_cmp m)) ps)) (lookup (is_at (name_cmp m)) ps)
  one_more m n ps None h = by (eq_by_cmp name_cmp m n) refl
    where
      by : (b : Bool) → eq_by_cmp name_cmp m n ≡ b → lookup (is_at (name_cmp m)) ps ≡ cond b (option_or (val m) (lookup (is_at (name_cmp m)) ps)) (lookup (is_at (name_cmp m)) ps)
      by false k = refl
      by true k = ap (λ o. option_or o (lookup (is_at (name_cmp m)) ps)) (sym (ap val (same_name m n k) ∙ h))
  one_more m n ps (Some x) h = lookup-insert_entry name_cmp nat_list_cmp_total m n x ps ∙ by (eq_by_cmp name_cmp m n) refl
    where
      by : (b : Bool) → eq_by_cmp name_cmp m n ≡ b → cond b (Some x) (lookup (is_at (name_cmp m)) ps) ≡ cond b (option_or (val m) (lookup (is_at (name_cmp m)) ps)) (lookup (is_at (name_cmp m)) ps)
      by false k = refl
      by true k = ap (λ o. option_or o (lookup (is_at (name_cmp m)) ps)) (sym (ap val (same_name m n k) ∙ h))

  twice : {X : Type 0} (a b : Bool) (x y : Option X) → cond a (option_or x (cond b (option_or x y) y)) (cond b (option_or x y) y) ≡ cond (b || a) (option_or x y) y
  twice true true None y = refl
  twice true true (Some x) y = refl
  twice true false x y = refl
  twice false true x y = refl
  twice false false x y = refl

  pub gathered_at : (m : Name) (names : List Name) (ps : List (Name × Property)) → lookup (is_at (name_cmp m)) (gathered ps names) ≡ cond (list_any (eq_by_cmp name_cmp m) names) (option_or (val m) (lookup (is_at (name_cmp m)) ps)) (lookup (is_at (name_cmp m)) ps)
  gathered_at m [] ps = refl
  gathered_at m (n ∷ names) ps =
      gathered_at m names (option_map_or (insert_entry name_cmp ps n) (val n) ps)
      ∙ (ap (λ o. cond (list_any (eq_by_cmp name_cmp m) names) (option_or (val m) o) o) (one_more m n ps (val n) refl)
      ∙ twice (list_any (eq_by_cmp name_cmp m) names) (eq_by_cmp name_cmp m n) (val m) (lookup (is_at (name_cmp m)) ps))
