-- The text of an identifier by the number of its session and its count.
use Rattle.std.proofs.Common.{◌≡◌, ℕ, ◌+◌, ◌*◌, ◌%◌, ◌^◌, sym, ap, ◌∙◌}
use Rattle.jr_value.specs.Words.{identifier_text}
use Rattle.jcr_ref.specs.References.{identifier, identifier_number}

-- sessions and counts whose last 24 bits are the same have the same identifiers
pub same_identifier : ((s c : ℕ) → identifier_text (identifier_number s c) ≡ identifier s c) → (a b c d : ℕ) → a % 2 ^ 24 ≡ b % 2 ^ 24 → c % 2 ^ 24 ≡ d % 2 ^ 24 → identifier a c ≡ identifier b d
same_identifier printed a b c d session count =
    sym (printed a c)
    ∙ (ap (λ k. identifier_text (0x40008000 * 2 ^ 48 + k * 2 ^ 24 + c % 2 ^ 24)) session
    ∙ (ap (λ k. identifier_text (0x40008000 * 2 ^ 48 + b % 2 ^ 24 * 2 ^ 24 + k)) count ∙ printed b d))
