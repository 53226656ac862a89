use Rattle.std.proofs.Common.{[], sym, ap, refl, ◌∙◌}
use Rattle.oak_sound.specs.Meant.{opened_tree}
use Rattle.oak_sound.specs.Sound.{first_breaking, keeps_roots, keeps_tree}
use Rattle.oak_sound.proofs.Lists.{chosen, passed}
use Rattle.oak_sound.proofs.rules.first_broken.Goals as goal

pub returns-in-Some-3 : goal.returns-in-Some-3
returns-in-Some-3 c =
    passed _ _ _ _ (sym c.first_without_vectors.ensures ∙ c.in_default.is)
    (passed _ _ _ _ (sym c.first_with_others.ensures ∙ c.in_default-first_with_others.is)
    (passed _ _ _ _ (sym c.in_ok-document.ensures ∙ c.in_default-2.is)
    (chosen _ _ _ _ (ap (λ p. first_breaking (λ before e. keeps_roots c.args.documents.now p.sweep e.0 e.1) [] c.args.documents.now) (sym c.requires.pin) ∙ sym c.in_ok-document-2.ensures ∙ c.in-Some-3.is))))

pub returns-in-Some-4 : goal.returns-in-Some-4
returns-in-Some-4 c =
    passed _ _ _ _ (sym c.first_without_vectors.ensures ∙ c.in_default.is)
    (passed _ _ _ _ (sym c.first_with_others.ensures ∙ c.in_default-first_with_others.is)
    (passed _ _ _ _ (sym c.in_ok-document.ensures ∙ c.in_default-2.is)
    (passed _ _ _ _ (ap (λ p. first_breaking (λ before e. keeps_roots c.args.documents.now p.sweep e.0 e.1) [] c.args.documents.now) (sym c.requires.pin) ∙ sym c.in_ok-document-2.ensures ∙ c.in_default-3.is)
    (chosen _ _ _ _ (ap (λ p. first_breaking (λ before e. keeps_tree c.args.documents.now p.sweep (opened_tree c.args.clusters c.args.documents.now) e.0 e.1) [] c.args.documents.now) (sym c.requires.pin)
    ∙ ap (λ t. first_breaking (λ before e. keeps_tree c.args.documents.now c.args.meant.now.pin.sweep t e.0 e.1) [] c.args.documents.now) (sym c.requires.tree)
    ∙ sym c.in_ok-document-3.ensures ∙ c.in-Some-4.is)))))

pub returns : goal.returns
returns c =
    passed _ _ _ _ (sym c.first_without_vectors.ensures ∙ c.in_default.is)
    (passed _ _ _ _ (sym c.first_with_others.ensures ∙ c.in_default-first_with_others.is)
    (passed _ _ _ _ (sym c.in_ok-document.ensures ∙ c.in_default-2.is)
    (passed _ _ _ _ (ap (λ p. first_breaking (λ before e. keeps_roots c.args.documents.now p.sweep e.0 e.1) [] c.args.documents.now) (sym c.requires.pin) ∙ sym c.in_ok-document-2.ensures ∙ c.in_default-3.is)
    (passed _ _ _ _ (ap (λ p. first_breaking (λ before e. keeps_tree c.args.documents.now p.sweep (opened_tree c.args.clusters c.args.documents.now) e.0 e.1) [] c.args.documents.now) (sym c.requires.pin)
    ∙ ap (λ t. first_breaking (λ before e. keeps_tree c.args.documents.now c.args.meant.now.pin.sweep t e.0 e.1) [] c.args.documents.now) (sym c.requires.tree)
    ∙ sym c.in_ok-document-3.ensures ∙ c.in_default-4.is) refl))))
