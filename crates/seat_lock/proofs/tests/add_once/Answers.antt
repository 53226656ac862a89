use Rattle.std.proofs.Common.{slice_index, sym, subst}
use Rattle.seat_lock.specs.Views.{OwnsAuthor}
use Rattle.seat_lock.proofs.tests.add_once.Goals as goal

pub returns-clause-authors : goal.returns-clause-authors
returns-clause-authors g c a has = (slice_index c.add.new.self.counts.items a, c.release.ensures.parts a (subst (λ v. OwnsAuthor v a) (sym c.acquire-hold.ensures.pass) has))
