use Rattle.std.proofs.Common.{true≢false, ◌≡◌, ℕ, List, Option, None, Some, option_map, length, refl, sym, ◌∙◌, arith}
use Rattle.uuid.specs.Text.{parsed, parsed_hyphenated}
use Rattle.jr_value.proofs.from_text.identifier_named.Goals as goal

no_text : {X Y : Type 0} (f : X → Y) (o : Option X) → ((x : X) → o ≡ Some x → ⊥) → None ≡ option_map f o
no_text f None h = refl
no_text f (Some x) h = absurd (h x refl)

hyphens : (text : List ℕ) → length text ≡ 36 → parsed text ≡ parsed_hyphenated text
hyphens text long = rw long refl

pub returns-in-Err : goal.returns-in-Err
returns-in-Err c =
    let long : length c.args.text.now ≡ 36 = omega (arith, c.if-text-ne36.false) in
    no_text _ _ (λ u e. true≢false (sym (c.in-Err.ensures.ok.1 (u, hyphens c.args.text.now long ∙ e))))
