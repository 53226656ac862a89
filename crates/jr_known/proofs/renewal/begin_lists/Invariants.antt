use Rattle.std.proofs.Common.{◌≡◌, take}
use Rattle.std.specs.List.{fold}
use Rattle.jr_known.specs.Renewal.{with_list_begun}
use Rattle.jr_known.proofs.renewal.begin_lists.Given as goal

abbrev pub invariant-loop-path : goal.invariant-loop-path
invariant-loop-path l = l.part ≡ fold with_list_begun l.initial.part (take l.path-index l.told)
