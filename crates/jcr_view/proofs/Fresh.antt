-- Writes made again on a tree in which nothing is pending.
use Rattle.std.proofs.Common.{◌≡◌, List, [], ap, ◌∙◌}
use Rattle.std.specs.List.{fold}
use Rattle.jr_tree.specs.declared.edit.Write.{Write}
use Rattle.jr_part.specs.Parts.{Knowledge}
use Rattle.jr_overlay.specs.Drafts.{Drafting, Steps}
use Rattle.jr_overlay.specs.Overlays.{Changed, Sighted, known_view, sighted}
use Rattle.jcr_view.specs.Rebases.{again, steps_again}

pub fresh_steps : (d : Drafting) (s : Sighted) (k : Knowledge) (ws : List Write) (steps : Steps) → d.sight ≡ s
    → d.steps ≡ [] → s.known ≡ k → s.changed ≡ []
    → steps ≡ fold (again (sighted d.sight)) d.steps ws → steps ≡ steps_again (known_view k []) ws
fresh_steps d s k ws steps seen none known changed is =
    is ∙ ap (λ (x : Sighted). fold (again (sighted x)) d.steps ws) seen
    ∙ ap (λ (x : Steps). fold (again (sighted s)) x ws) none
    ∙ ap (λ (x : Knowledge). fold (again (known_view x s.changed)) [] ws) known
    ∙ ap (λ (x : Changed). fold (again (known_view k x)) [] ws) changed
