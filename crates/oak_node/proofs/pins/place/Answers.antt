use Rattle.std.proofs.Common.{rules}
use Rattle.std.proofs.lemmas.List.Sorted.{answers_always}
use Rattle.oak_node.proofs.Places.{place_is}
use Rattle.oak_node.proofs.pins.place.Goals as goal

pub returns : goal.returns
returns c =
    place_is c.args.pins.now c.args.owner _ c.requires c.binary_search_by_key.ensures.bound (c.binary_search_by_key.ensures.position (λ e. e.0) (answers_always _ _ _ (λ f a r g h. search rules)))
