use Rattle.std.proofs.Common.{rules}
use Rattle.std.proofs.lemmas.Fn.{always_returns_same}
use Rattle.jr_path.specs.Names.{name_cmp}
use Rattle.jr_part.proofs.Places.{place_is}
use Rattle.jr_known.proofs.child_names.place_of.Goals as goal

pub returns : goal.returns
returns c =
    place_is c.args.names.now c.args.name.now _ c.requires c.binary_search_by.ensures.bound
    (c.binary_search_by.ensures.position (λ e. name_cmp e.0 c.args.name.now) (always_returns_same _ _ _ (λ a r f k. search rules)))
