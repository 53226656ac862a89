-- Which path a text names.
use Rattle.std.proofs.Common.{◌≡◌, ℕ, Bool, true, false, All, List, refl, sym, subst}
use Rattle.std.proofs.lemmas.Bool.{false_from_ne_true}
use Rattle.std.specs.Bool.{Decides}
use Rattle.std.specs.Cmp.{Equal-is, eq_by_cmp_equiv}
use Rattle.std.specs.Cmp.Lexicographic.{nat_list_cmp_total}
use Rattle.std.specs.FinMap.{nat_cmp-IsAntisymmetric, slice_cmp-IsAntisymmetric}
use Rattle.jr_path.specs.Grammar.{IsFirstFault, IsName}
use Rattle.jr_path.specs.Ids.{path_text}
use Rattle.jr_path.specs.Names.{name_cmp, path_cmp}
use Rattle.jr_path.specs.Paths.{IsPath, IsPathText}
use Rattle.jr_path.specs.declared.path.Path.{Path}
use Rattle.jr_path.proofs.Maps.{path_exact, path_total}
use Rattle.jr_value.specs.Values.{same_bytes}
use Rattle.jr_value.proofs.Texts.{fault_refuses, path_one}
use Rattle.jr_items.specs.Items.{same_path}

agree : {P Q : Type 0} (s t : Bool) → Decides s P → Decides t Q → (P → Q) → (Q → P) → s ≡ t
agree true true d e f g = refl
agree true false d e f g = sym (e.1 (f (d.0 refl)))
agree false true d e f g = d.1 (g (e.0 refl))
agree false false d e f g = refl

bytes_decide : (x y : List ℕ) → Decides (same_bytes x y) (x ≡ y)
bytes_decide x y = (
  λ h. slice_cmp-IsAntisymmetric nat_cmp-IsAntisymmetric x y ((Equal-is (name_cmp x y)).0 h),
  λ e. subst (λ (z : List ℕ). same_bytes x z ≡ true) e ((eq_by_cmp_equiv nat_list_cmp_total).refl x),
)

paths_decide : (x y : Path) → Decides (same_path x y) (x ≡ y)
paths_decide x y = (
  λ h. path_exact x y ((Equal-is (path_cmp x y)).0 h),
  λ e. subst (λ (z : Path). same_path x z ≡ true) e ((eq_by_cmp_equiv path_total).refl x),
)

-- the text of a path is that of no other
pub named : (id : List ℕ) (path : Path) → IsPath id path → (p : Path) → All IsName p → same_bytes (path_text p) id ≡ same_path p path
named id path is p names =
    agree _ _ (bytes_decide (path_text p) id) (paths_decide p path) (λ e. path_one id p path (record { are_names = names; spelled = sym e }) is) (λ e. subst (λ (q : Path). path_text q ≡ id) (sym e) (sym is.spelled))

-- a text with a first fault is that of no path
pub unnamed : (id : List ℕ) (offset : ℕ) → IsFirstFault IsPathText id offset → (p : Path) → All IsName p → same_bytes (path_text p) id ≡ false
unnamed id offset h p names = false_from_ne_true _ (λ t. fault_refuses IsPathText id offset h (p, record { are_names = names; spelled = sym ((bytes_decide (path_text p) id).0 t) }))
