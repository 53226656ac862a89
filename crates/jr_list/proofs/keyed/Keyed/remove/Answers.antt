use Rattle.std.specs.BTreeMap.{is_at}
use Rattle.jr_list.proofs.Entries.{others_from_removed}
use Rattle.jr_list.proofs.keyed.Keyed.remove.Goals as goal

pub returns-clause-others : goal.returns-clause-others
returns-clause-others g c =
    rw (← c.self.view_is) (others_from_removed (is_at (g.K.Ord.cmp c.args.key.now)) _ _ c.remove.ensures.entries c.remove.ensures.updates.1)
