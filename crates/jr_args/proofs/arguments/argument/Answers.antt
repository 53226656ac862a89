use Rattle.std.proofs.Common.{◌≡◌, ◌∙◌, ◌<◌, ◌≤◌, ℕ, List, Option, Some, None, Bor, MatchOption, length, get_or, ap, unwrap_or}
use Rattle.std.specs.Option.{IfSome, option_map_or}
use Rattle.std.specs.List.{HoldsAt}
use Rattle.serde_json.specs.Data.{null}
use Rattle.serde_json.specs.View.{view, items_view}
use Rattle.serde_json.specs.declared.value.Value as json
use Rattle.serde_json.proofs.Views.{get_item_past, get_item_within}
use Rattle.jr_args.specs.Commands.{argument}
use Rattle.jr_args.proofs.arguments.argument.Goals as goal

found : (vs : List json.Value) (i : ℕ) (o : Option (Bor json.Value)) → IfSome o (λ x. x.now ≡ get_or vs i x.now)
    → MatchOption o (length vs ≤ i) (λ x. (i < length vs) × HoldsAt (λ y. x.now ≡ y) vs i) → option_map_or (λ d. view d.now) o null ≡ argument i (items_view vs)
found vs i (Some x) at h = ap view at ∙ ap (λ o. unwrap_or o null) (get_item_within vs i x.now h.0)
found vs i None at h = ap (λ o. unwrap_or o null) (get_item_past vs i h)

pub returns : goal.returns
returns c = let h = c.get.ensures.lookup in found _ _ _ h.1 h.3
