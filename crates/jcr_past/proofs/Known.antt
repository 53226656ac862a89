-- What holds of all numbers in a row, one number further on.
use Rattle.std.proofs.Common.{◌≡◌, ◌<◌, ℕ, ◌+◌, ◌-◌, Bool, true, false, ◌&&◌, refl, sym, ap, ◌∙◌}
use Rattle.std.specs.List.{list_all, range_with_len}
use Rattle.oak_machine.proofs.Ranges.{range_more}

and_assoc : (a b c : Bool) → ((a && b) && c) ≡ (a && (b && c))
and_assoc true b c = refl
and_assoc false b c = refl

pub all_further : (f : ℕ → Bool) (m n : ℕ) (old new here g : Bool) → m < n → here ≡ f m
    → new ≡ (old && here)
    → (old && list_all f (range_with_len m (n - m))) ≡ g
    → (new && list_all f (range_with_len (m + 1) (n - (m + 1)))) ≡ g
all_further f m n old new here g less is now was =
    let rest = list_all f (range_with_len (m + 1) (n - (m + 1))) in
    ap (λ b. b && rest) now ∙ (and_assoc old here rest ∙ (ap (λ b. old && (b && rest)) is
    ∙ (sym (ap (λ xs. old && list_all f xs) (range_more m n less)) ∙ was)))

pub and_then : (old new here : Bool) → old ≡ true → new ≡ here → new ≡ (old && here)
and_then old new here h k = k ∙ sym (ap (λ b. b && here) h)

pub and_else : (old new here : Bool) → old ≡ false → new ≡ false → new ≡ (old && here)
and_else old new here h k = k ∙ sym (ap (λ b. b && here) h)
