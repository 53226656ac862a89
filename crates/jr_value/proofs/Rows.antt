-- The order of values, computed.
use Rattle.std.proofs.Common.{◌≡◌, [], ◌∷◌, refl, pos, negsuc, true, false, Some, None}
use Rattle.std.specs.Prelude.{codes}
use Rattle.std.specs.declared.cmp.Ordering.TheVariants.{Less, Greater}
use Rattle.jr_value.specs.declared.value.Value.TheVariants as value
use Rattle.jr_value.specs.Order.{value_cmp}

by_number : value_cmp (value.Long (negsuc 4)) (value.Long (pos 3)) ≡ Some Less
by_number = refl

false_first : value_cmp (value.Boolean true) (value.Boolean false) ≡ Some Greater
false_first = refl

-- the bytes of texts order these two the other way round than their names do
by_text : value_cmp (value.Path (codes "a!" ∷ codes "b" ∷ [])) (value.Path (codes "a" ∷ codes "b" ∷ [])) ≡ Some Less
by_text = refl

-- upper case before lower case, and a text before those that it begins
by_bytes : value_cmp (value.Str (codes "B")) (value.Str (codes "a")) ≡ Some Less
by_bytes = refl

none_of_two_kinds : value_cmp (value.Long (pos 1)) (value.Date (pos 2)) ≡ None
none_of_two_kinds = refl
