-- The last write of an item, of two sights.
use Rattle.std.proofs.Common.{◌≡◌, Bool, true, false, cond, None, Option, List, [], ◌∷◌, refl, sym, ap, ◌∙◌}
use Rattle.std.specs.Option.{option_or}
use mathlib.Core.Bool.{false≢true}
use Rattle.jr_tree.specs.declared.edit.Write.{Write}
use Rattle.jr_tree.specs.Items.{written}
use Rattle.core_read.specs.Commits.{Commits, Sight, last, Each}

pub Each-map : {X : Type 0} {P Q : X → Type 0} → ((x : X) → P x → Q x) → (xs : List X) → Each P xs → Each Q xs
Each-map f [] a = tt
Each-map f (x ∷ xs) a = (f x a.0, Each-map f xs a.1)

-- a wider sight, of which what it sees more doesn't write the item
pub same_last : {X : Type 0} (f : Write → Option X) (b s : Sight) (es : Commits) → Each (λ o. b o.0 ≡ true → s o.0 ≡ true) es → Each (λ o. b o.0 ≡ false → written f o.1 ≡ None) es → last f b es ≡ last f s es
same_last f b s [] wider silent = refl
same_last f b s (e ∷ es) wider silent = by (b e.0) (s e.0) wider.0 silent.0 ∙ ap (option_or (cond (s e.0) (written f e.1) None)) (same_last f b s es wider.1 silent.1)
  where
    by : (c d : Bool) → (c ≡ true → d ≡ true) → (c ≡ false → written f e.1 ≡ None) → option_or (cond c (written f e.1) None) (last f b es) ≡ option_or (cond d (written f e.1) None) (last f b es)
    by true true w q = refl
    by true false w q = absurd (false≢true (w refl))
    by false true w q = ap (λ o. option_or o (last f b es)) (sym (q refl))
    by false false w q = refl
