-- Clashes of marks.
use Rattle.std.proofs.Common.{◌≡◌, refl}
use Rattle.std.proofs.lemmas.Cmp.{eq_by_cmp_equiv, nat_list_cmp_total}
use Rattle.oak_clash.specs.declared.mark.Mark.{Mark}
use Rattle.oak_clash.specs.declared.mark.Mark.TheVariants.{Exists, Guard, Touch, Prop}
use Rattle.oak_clash.specs.Clashes.{clash}

-- which of two marks is asked makes no difference
pub clash-symm : (a b : Mark) → clash a b ≡ clash b a
clash-symm Exists Exists = refl
clash-symm Exists Guard = refl
clash-symm Exists Touch = refl
clash-symm Exists (Prop n) = refl
clash-symm Guard Exists = refl
clash-symm Guard Guard = refl
clash-symm Guard Touch = refl
clash-symm Guard (Prop n) = refl
clash-symm Touch Exists = refl
clash-symm Touch Guard = refl
clash-symm Touch Touch = refl
clash-symm Touch (Prop n) = refl
clash-symm (Prop m) Exists = refl
clash-symm (Prop m) Guard = refl
clash-symm (Prop m) Touch = refl
clash-symm (Prop m) (Prop n) = (eq_by_cmp_equiv nat_list_cmp_total).symm m n
