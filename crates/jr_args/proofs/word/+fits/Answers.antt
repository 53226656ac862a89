use Rattle.std.proofs.Common.{◌≡◌, ◌<◌, length, arith, List, [], ◌∷◌, ◌==◌, refl, rules}
use Rattle.serde_json.specs.View.{items_view}
use Rattle.serde_json.specs.declared.value.Value as json
use Rattle.jr_args.specs.Words.{fit_kinds}
use Rattle.jr_args.specs.declared.word.Kind.{Kind}
use Rattle.jr_args.proofs.word.+fits.Goals as goal

none_left : (ks : List Kind) (vs : List json.Value) → length ks < 1 → (length vs == 0) ≡ fit_kinds ks (items_view vs)
none_left [] [] h = refl
none_left [] (v ∷ vs) h = search rules
none_left (k ∷ ks) vs h = absurd (omega (arith, h))

pub returns-in-empty : goal.returns-in-empty
returns-in-empty t c = rw c.is_empty.ensures (none_left _ _ c.in-empty.len_below)
