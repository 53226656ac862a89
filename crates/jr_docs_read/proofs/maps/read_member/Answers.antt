use Rattle.jr_docs_read.proofs.Ranged.{map_put}
use Rattle.jr_docs_read.proofs.maps.read_member.Goals as goal

pub returns-clause-in_range : goal.returns-clause-in_range
returns-clause-in_range g c h =
    rw c.in_ok-put.ensures.ok (map_put g.K.Ord.cmp g.met.K.Ord.total _ _ g.K.Key.fits g.F.Form.fits c.args.map.now h c.in_ok-key.ensures.in_range c.in_ok-value.ensures.in_range)
