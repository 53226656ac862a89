-- Lists of writes that are put one behind another.
use Rattle.std.proofs.Common.{◌≡◌, List, ◌++◌, append_assoc, ap, ◌∙◌}
use Rattle.jr_tree.specs.declared.edit.Write.{Write}

pub two : (old a b c mid new : List Write) → mid ≡ old ++ a → new ≡ mid ++ b → b ≡ c → new ≡ old ++ (a ++ c)
two old a b c mid new first second is =
    second ∙ (ap (λ (ws : List Write). ws ++ b) first ∙ (append_assoc old a b ∙ ap (λ (ws : List Write). old ++ (a ++ ws)) is))

pub three : (old a b b' c c' first second new : List Write) → first ≡ old ++ a → second ≡ first ++ b → b ≡ b' → new ≡ second ++ c → c ≡ c' → new ≡ old ++ (a ++ (b' ++ c'))
three old a b b' c c' first second new h k is l same =
    l ∙ (ap (λ (ws : List Write). ws ++ c) (two old a b b' first second h k is) ∙ (append_assoc old (a ++ b') c ∙ (ap (λ (ws : List Write). old ++ ws) (append_assoc a b' c) ∙ ap (λ (ws : List Write). old ++ (a ++ (b' ++ ws))) same)))
