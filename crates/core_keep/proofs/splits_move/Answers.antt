use Rattle.core_read.specs.Holds.{the_start}
use Rattle.core_keep.proofs.Staying.{missing_unlisted}
use Rattle.core_keep.proofs.Splits.{split_copies}
use Rattle.core_keep.proofs.splits_move.Goals as goal

pub returns-clause-unlisted : goal.returns-clause-unlisted
returns-clause-unlisted c = λ ds k formers p n are numbered none. missing_unlisted ds k formers are p n numbered none

pub returns-clause-copies : goal.returns-clause-copies
returns-clause-copies c = λ read pin old number p f order named same counted. split_copies read pin old (record { number = old.mod_count; high = the_start; low = the_start }) number number order p named f same counted
