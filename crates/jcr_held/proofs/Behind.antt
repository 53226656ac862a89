-- Where the earlier tree went, nothing lacks of the tree at the base.
use Rattle.std.proofs.Common.{◌≡◌, ◌∙◌, true, Option, None, Some, Result, Ok, Err, IfOk, is_some, refl, sym, ap, subst}
use Rattle.std.proofs.lemmas.Bool.{false≢true}
use Rattle.jr_known.specs.Earlier.{Earlier}
use Rattle.jr_part.specs.Parts.{Knowledge, LacksNothing}
use Rattle.jr_part.specs.declared.need.Need.TheVariants as need
use Rattle.jcr_held.specs.declared.held.Held.{Held}
use Rattle.jcr_held.specs.Alike.{AreAlike, IsWholeBehind, MakesAgain, Readies}

pub in_ok : {T E : Type 0} (P : Type 0) (r : Result T E) → P → IfOk r (λ x. P)
in_ok P (Ok x) h = h
in_ok P (Err e) h = tt

pub of_ok : {T E : Type 0} (P Q : Type 0) (r : Result T E) → (P → Q) → IfOk r (λ x. P) → IfOk r (λ x. Q)
of_ok P Q (Ok x) f h = f h
of_ok P Q (Err e) f h = tt

-- none goes where nothing changes
pub whole_same : (x y : Held) → y.earlier ≡ x.earlier → IsWholeBehind x y
whole_same x y same = λ held gone. absurd (false≢true (sym (ap is_some (sym same ∙ gone)) ∙ held))

pub whole_again : (x y z : Held) → IsWholeBehind x y → MakesAgain y z → IsWholeBehind x z
whole_again x y z h again = λ held gone.
    subst (λ (k : Knowledge). LacksNothing k need.All) (sym again.part) (h held (sym again.earlier ∙ gone))

pub whole_alike : (x y z : Held) → AreAlike x y → IsWholeBehind y z → IsWholeBehind x z
whole_alike x y z a h = λ held gone. h (ap is_some a.earlier ∙ held) gone

pub whole_on : (x y z : Held) → IsWholeBehind x y → Readies y z → IsWholeBehind y z → IsWholeBehind x z
whole_on x y z first readies rest = λ held gone. by y.earlier refl held gone
  where
    by : (e : Option Earlier) → y.earlier ≡ e → is_some x.earlier ≡ true → z.earlier ≡ None → LacksNothing z.part need.All
    by None is held gone =
        subst (λ (k : Knowledge). LacksNothing k need.All) (sym (readies.part (gone ∙ sym is))) (first held is)
    by (Some e) is held gone = rest (ap is_some is) gone
