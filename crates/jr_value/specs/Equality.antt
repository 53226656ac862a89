-- The tests of `Values` hold exactly of equal values and of equal properties.
use Rattle.std.specs.Prelude.{◌≡◌, Bool, true, false, ◌&&◌, ◌==◌}
use Rattle.std.proofs.Common.{true≢false, refl, sym, ap, subst, ◌∙◌}
use Rattle.std.specs.declared.cmp.Ordering.{Ordering}
use Rattle.std.specs.Bool.{Decides}
use Rattle.std.specs.Cmp.{IsEquivalence, IsTotalOrder, Equal-is, eq_by_cmp_equiv, decided, signed_Decides, unsigned_Decides, first_so, second_so}
use Rattle.std.specs.Cmp.Lexicographic.{pointwise_decides, nat_list_cmp_total, lists_total}
use Rattle.std.specs.Ordering.{eq_by_cmp}
use Rattle.std.specs.FinMap.{IsAntisymmetric, nat_cmp-IsAntisymmetric, slice_cmp-IsAntisymmetric}
use Rattle.jr_path.specs.Names.{path_cmp}
use Rattle.jr_value.specs.declared.value.Kind.{Kind}
use Rattle.jr_value.specs.declared.value.Kind.TheVariants as kind
use Rattle.jr_value.specs.declared.value.Value.{Value}
use Rattle.jr_value.specs.declared.value.Value.TheVariants as value
use Rattle.jr_value.specs.declared.value.Property.{Property}
use Rattle.jr_value.specs.declared.value.Property.TheVariants.{Single, Many}
use Rattle.jr_value.specs.Values.{same_value, same_property, same_bytes, kind_number}

-- where only equal things tie, a tie decides equality
ties_decide : {K : Type 0} {R : K → K → Ordering} → IsTotalOrder R → IsAntisymmetric R → (x y : K) → Decides (eq_by_cmp R x y) (x ≡ y)
ties_decide {K} {R} total exact x y = (
  λ h. exact x y ((Equal-is (R x y)).0 h),
  λ e. subst (λ z. eq_by_cmp R x z ≡ true) e ((eq_by_cmp_equiv total).refl x),
)

texts_decide : (x y : _) → Decides (same_bytes x y) (x ≡ y)
texts_decide = ties_decide nat_list_cmp_total (slice_cmp-IsAntisymmetric nat_cmp-IsAntisymmetric)

paths_decide : (x y : _) → Decides (eq_by_cmp path_cmp x y) (x ≡ y)
paths_decide = ties_decide (lists_total nat_list_cmp_total) (slice_cmp-IsAntisymmetric (slice_cmp-IsAntisymmetric nat_cmp-IsAntisymmetric))

exact : (x y : Value) → same_value x y ≡ true → x ≡ y
exact (value.Str a) (value.Str b) h = ap value.Str ((texts_decide a b).0 h)
exact (value.Binary a) (value.Binary b) h = ap value.Binary ((texts_decide a b).0 h)
exact (value.Long a) (value.Long b) h = ap value.Long ((signed_Decides a b).0 h)
exact (value.Date a) (value.Date b) h = ap value.Date ((signed_Decides a b).0 h)
exact (value.Boolean true) (value.Boolean true) h = refl
exact (value.Boolean false) (value.Boolean false) h = refl
exact (value.Name a) (value.Name b) h = ap value.Name ((texts_decide a b).0 h)
exact (value.Path a) (value.Path b) h = ap value.Path ((paths_decide a b).0 h)
exact (value.Reference a) (value.Reference b) h = ap value.Reference ((unsigned_Decides a b).0 h)
exact (value.WeakReference a) (value.WeakReference b) h = ap value.WeakReference ((unsigned_Decides a b).0 h)
exact (value.Uri a) (value.Uri b) h = ap value.Uri ((texts_decide a b).0 h)
exact x y h = absurd (true≢false (sym h))

own : (x : Value) → same_value x x ≡ true
own (value.Str a) = (texts_decide a a).1 refl
own (value.Binary a) = (texts_decide a a).1 refl
own (value.Long a) = (signed_Decides a a).1 refl
own (value.Date a) = (signed_Decides a a).1 refl
own (value.Boolean true) = refl
own (value.Boolean false) = refl
own (value.Name a) = (texts_decide a a).1 refl
own (value.Path a) = (paths_decide a a).1 refl
own (value.Reference a) = (unsigned_Decides a a).1 refl
own (value.WeakReference a) = (unsigned_Decides a a).1 refl
own (value.Uri a) = (texts_decide a a).1 refl

-- `same_value` tells whether two values are equal
pub same_value_decides : (x y : Value) → Decides (same_value x y) (x ≡ y)
same_value_decides x y = (exact x y, λ e. subst (λ z. same_value x z ≡ true) e (own x))

-- `same_value` is an equivalence
pub values_equivalent : IsEquivalence same_value
values_equivalent = decided same_value same_value_decides

-- a kind is known by its number
pub kind_exact : (k l : Kind) → (kind_number k == kind_number l) ≡ true → k ≡ l
kind_exact kind.Str kind.Str h = refl
kind_exact kind.Binary kind.Binary h = refl
kind_exact kind.Long kind.Long h = refl
kind_exact kind.Date kind.Date h = refl
kind_exact kind.Boolean kind.Boolean h = refl
kind_exact kind.Name kind.Name h = refl
kind_exact kind.Path kind.Path h = refl
kind_exact kind.Reference kind.Reference h = refl
kind_exact kind.WeakReference kind.WeakReference h = refl
kind_exact kind.Uri kind.Uri h = refl
kind_exact k l h = absurd (true≢false (sym h))

both : (s t : Bool) → s ≡ true → t ≡ true → (s && t) ≡ true
both s t h g = ap (λ (x : Bool). x && t) h ∙ g

property_exact : (x y : Property) → same_property x y ≡ true → x ≡ y
property_exact (Single a) (Single b) h = ap Single (exact a b h)
property_exact (Many k xs) (Many l ys) h =
    let kinds : k ≡ l = kind_exact k l (first_so _ _ h) in
    let values : xs ≡ ys = (pointwise_decides same_value_decides xs ys).0 (second_so _ _ h) in
    λ i. Many (kinds i) (values i)
property_exact x y h = absurd (true≢false (sym h))

property_own : (x : Property) → same_property x x ≡ true
property_own (Single a) = own a
property_own (Many k xs) = both _ _ ((unsigned_Decides (kind_number k) (kind_number k)).1 refl) ((pointwise_decides same_value_decides xs xs).1 refl)

-- `same_property` tells whether two properties are equal
pub same_property_decides : (x y : Property) → Decides (same_property x y) (x ≡ y)
same_property_decides x y = (property_exact x y, λ e. subst (λ z. same_property x z ≡ true) e (property_own x))

-- `same_property` is an equivalence
pub properties_equivalent : IsEquivalence same_property
properties_equivalent = decided same_property same_property_decides
