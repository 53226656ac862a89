-- The first path that passes a limit.
use Rattle.std.proofs.Common.{◌≡◌, ℕ, suc, ◌<◌, get_or, Option, None, Some, List, ◌∷◌, length, drop, map, sym, ap, ◌∙◌}
use Rattle.std.proofs.Math.Seq.{drop-cons}
use Rattle.std.proofs.lemmas.Option.{none-some}
use Rattle.jr_tree.specs.declared.edit.Write.{Write}
use Rattle.jr_tree.specs.declared.shared.Refusal.{Refusal}
use Rattle.jr_items.specs.Items.{first_some}
use Rattle.jr_items.specs.Refusals.{IsTheRefusal}
use Rattle.jcr_version.specs.Limits.{added_limit, write_limit}

first_here : (o : Option Refusal) (os : List (Option Refusal)) (r : Refusal) → IsTheRefusal o r
    → IsTheRefusal (first_some (o ∷ os)) r
first_here (Some x) os r due = due
first_here None os r due = λ m. absurd (none-some r (due m))

-- a path that passes a limit, where none before it did
pub limit_here : (ws : List Write) (i : ℕ) (w : Write) (r : Refusal) → i < length ws
    → w ≡ get_or ws i w → added_limit ws ≡ added_limit (drop i ws)
    → IsTheRefusal (write_limit w) r → IsTheRefusal (added_limit ws) r
limit_here ws i w r below at so_far is m =
    so_far
    ∙ (ap added_limit (drop-cons ws i w below ∙ ap (λ y. y ∷ drop (suc i) ws) (sym at))
    ∙ first_here (write_limit w) (map write_limit (drop (suc i) ws)) r is m)
