-- Each key's text is that of one key.
use Rattle.std.proofs.Common.{◌≡◌, ◌<◌, ◌^◌, ℕ, subst, sym, arith}
use Rattle.std.specs.Prelude.{List}
use Rattle.std.specs.Fmt.{decimal}
use Rattle.std.proofs.lemmas.Fmt.{decimal_injective}
use Rattle.jr_rev.specs.Grammar.{FitsFields, IsRevisionText}
use Rattle.jr_rev.specs.Texts.{revision_text}
use Rattle.jr_rev.specs.declared.revision.Revision.{Revision}
use Rattle.jr_rev.proofs.Hexadecimal.{revision_text_is}
use Rattle.jr_rev.proofs.OneForm.{one_revision}

pub one_revision_text : (a b : Revision) → FitsFields a → FitsFields b → revision_text a ≡ revision_text b → a ≡ b
one_revision_text a b first second same =
    one_revision (revision_text a) a b (revision_text_is a first) (subst (λ (t : List ℕ). IsRevisionText t b) (sym same) (revision_text_is b second))

pub one_number : (a b : ℕ) → a < 2 ^ 32 → b < 2 ^ 32 → decimal a ≡ decimal b → a ≡ b
one_number a b first second same = decimal_injective a b (omega (arith, first)) (omega (arith, second)) same
