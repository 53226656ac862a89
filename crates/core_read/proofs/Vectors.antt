-- Revisions by their times.
use Rattle.std.proofs.Common.{◌≡◌, ◌<◌, true, sym, ap}
use Rattle.std.specs.declared.cmp.Ordering.TheVariants.{Less}
use Rattle.std.specs.Ordering.{nat_cmp, ordering_then, is_lt}
use Rattle.std.specs.Cmp.{nat_cmp_is}
use Rattle.jr_rev.specs.declared.revision.Revision.{Revision}
use Rattle.jr_rev.specs.Revisions.{is_before}

pub time_before : (o r : Revision) → o.time < r.time → is_before o r ≡ true
time_before o r h = sym (ap (λ c. is_lt (ordering_then c (ordering_then (nat_cmp o.counter r.counter) (nat_cmp o.cluster r.cluster)))) (nat_cmp_is o.time r.time Less h))
