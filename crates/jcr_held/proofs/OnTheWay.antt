-- What is met on the way: children that lists name, nodes that are touched and those above them, and the children of nodes that are there.
use Rattle.std.proofs.Common.{◌≡◌, ◌∙◌, ◌++◌, inl, inr, ℕ, zero, suc, ◌<◌, Bool, true, false, cond, [], ◌∷◌, length, Option, None, Some, Result, Ok, Err, IfOk, IfSome, Contains, get_or, is_some, refl, sym, ap, subst, arith}
use Rattle.std.specs.Map.{lookup}
use Rattle.std.specs.BTreeMap.{is_at}
use Rattle.std.specs.Ordering.{eq_by_cmp}
use Rattle.std.proofs.lemmas.Cmp.{eq_by_cmp_equiv, nat_list_cmp_total}
use Rattle.jr_path.specs.Names.{name_cmp, parent_of}
use Rattle.jr_path.specs.declared.name.Name.{Name}
use Rattle.jr_path.specs.declared.path.Path.{Path}
use Rattle.jr_rev.specs.declared.revision.Revision.{Revision}
use Rattle.jr_tree.specs.declared.tree.Node.{Node}
use Rattle.jr_part.specs.Parts.{ChildNames, Knowledge, has_name, known_at, knows, list_at, lists_child}
use Rattle.jr_part.specs.declared.need.Need.{Need}
use Rattle.jr_part.specs.declared.need.Need.TheVariants as need
use Rattle.jr_part.proofs.Ways.{lists_from, there_is}
use Rattle.jr_overlay.specs.Overlays.{Changed, change_at}
use Rattle.jcr_view.specs.Rounds.{one_path}
use Rattle.jcr_held.specs.Looking.{IsMet, IsMetFirst, IsUnknownChild, IsUnknownNear}

-- ---- a load, or none

pub of_found : {E : Type 0} (P : Need → Type 0) (n : Need) → P n → (answer : Result (Option Need) E)
    → IfOk answer (λ found. found ≡ Some n) → IfOk answer (λ load. IfSome load P)
of_found P n h (Ok load) is = subst (λ (o : Option Need). IfSome o P) (sym is) h
of_found P n h (Err e) is = tt

pub of_none : {E : Type 0} (P : Need → Type 0) → (answer : Result (Option Need) E)
    → IfOk answer (λ load. load ≡ None) → IfOk answer (λ load. IfSome load P)
of_none P (Ok load) is = subst (λ (o : Option Need). IfSome o P) (sym is) tt
of_none P (Err e) is = tt

-- what holds of a load, where one is answered
pub of_load : {E : Type 0} (P Q : Need → Type 0) → ((n : Need) → P n → Q n) → (answer : Result (Option Need) E)
    → IfOk answer (λ load. IfSome load P) → IfOk answer (λ load. IfSome load Q)
of_load P Q f (Ok None) h = tt
of_load P Q f (Ok (Some n)) h = f n h
of_load P Q f (Err e) h = tt

pub of_some : {X : Type 0} (P : X → Type 0) (o : Option X) (x : X) → o ≡ Some x → IfSome o P → P x
of_some {X = X} P o x is h = subst (λ (a : Option X). IfSome a P) is h

-- ---- the names of a list

-- a list has each name that stands in it
has_at : (names : ChildNames) (i : ℕ) (x : Name × Option Revision) → i < length names → x ≡ get_or names i x → has_name names x.0 ≡ true
has_at [] i x within at = absurd (omega arith)
has_at (y ∷ names) zero x within at =
    ap (λ b. is_some (cond b (Some y.1) (lookup (is_at (name_cmp x.0)) names)))
    (ap (λ (z : Name × Option Revision). eq_by_cmp name_cmp x.0 z.0) (sym at) ∙ (eq_by_cmp_equiv nat_list_cmp_total).refl x.0)
has_at (y ∷ names) (suc i) x within at = by (eq_by_cmp name_cmp x.0 y.0) (has_at names i x (omega arith) at)
  where
    by : (b : Bool) → has_name names x.0 ≡ true → is_some (cond b (Some y.1) (lookup (is_at (name_cmp x.0)) names)) ≡ true
    by true rest = refl
    by false rest = rest

module _ (k : Knowledge) where
  pub lists_at : (p : Path) (names : ChildNames) (i : ℕ) (x : Name × Option Revision) → list_at k p ≡ Some names
      → i < length names → x ≡ get_or names i x → lists_child k p x.0 ≡ true
  lists_at p names i x is within at = lists_from k p names x.0 is ∙ has_at names i x within at

  pub child_unknown : (p child : Path) (name : Name) → child ≡ p ++ name ∷ [] → lists_child k p name ≡ true → known_at k child ≡ None
      → IsUnknownChild k (need.Node child)
  child_unknown p child name is lists unknown = record {
    at = child;
    node = refl;
    listed = record { parent = p; name = name; path = is; lists = lists };
    unknown = ap is_some unknown;
  }

  pub near_itself : (p : Path) → known_at k p ≡ None → IsUnknownNear k p (need.Node p)
  near_itself p unknown = record { at = p; node = refl; near = (0, omega arith, refl); unknown = ap is_some unknown }

  pub near_above : (p q : Path) → parent_of p ≡ Some q → knows k (need.Node q) ≡ false → IsUnknownNear k p (need.Node q)
  near_above p q above unknown = record {
    at = q;
    node = refl;
    near = subst (λ (o : Option Path). Contains (p ∷ one_path o) q) (sym above) (1, omega arith, refl);
    unknown = unknown;
  }

  module _ (c : Changed) where
    pub met_near : (kept : Bool) (p : Path) (n : Need) → kept ≡ true → is_some (change_at c p) ≡ true → IsUnknownNear k p n
        → IsMetFirst k c kept n
    met_near kept p n is touched u = record {
      met = subst (λ (m : Need). IsMet k c kept m) (sym u.node) (inr (is, record { below = p; touched = touched; near = u.near }));
      unknown = u.unknown;
    }

    pub met_child : (kept : Bool) (n : Need) → IsUnknownChild k n → IsMetFirst k c kept n
    met_child kept n u = record {
      met = subst (λ (m : Need). IsMet k c kept m) (sym u.node) (inl u.listed);
      unknown = u.unknown;
    }

    pub met_children : (kept : Bool) (p : Path) (node : Node) → known_at k p ≡ Some (Some node) → list_at k p ≡ None
        → IsMetFirst k c kept (need.Children p)
    met_children kept p node there unlisted = record { met = there_is k p node there; unknown = ap is_some unlisted }
