use Rattle.std.proofs.Common.{◌≡◌, [], ◌∷◌, ◌++◌, refl, sym, ap, ◌∙◌}
use Rattle.oak_gc.specs.Collecting.{last_of}
use Rattle.oak_gc.proofs.Going.{last_is}
use Rattle.oak_gc.proofs.reading.Reading.next_previous.Goals as goal

pub returns-in-Some-clause-some : goal.returns-in-Some-clause-some
returns-in-Some-clause-some c =
    let same : c.args.self.now.previous ≡ c.pop_last.new.self.entries ++ (c.in-Some.number, c.in-Some.document) ∷ [] = sym c.inner_mut.ensures.shows ∙ c.in-Some.ensures.removal in
    (c.in-Some.document, ap last_of same ∙ last_is c.pop_last.new.self.entries (c.in-Some.number, c.in-Some.document), refl, refl)
