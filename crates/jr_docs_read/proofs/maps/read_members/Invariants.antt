use Rattle.std.proofs.Common.{◌≡◌, List, []}
use Rattle.serde_json.specs.Data.{no_members}
use Rattle.serde_json.specs.View.{members_view}
use Rattle.jr_docs.specs.Members.{members_of_map, put_all}
use Rattle.jr_docs_read.specs.Ranges.{IsMapOf}
use Rattle.jr_docs_read.proofs.Entered.{of_map}
use Rattle.jr_docs_read.proofs.Left.{Left}
use Rattle.jr_docs_read.proofs.maps.read_members.Given as goal

-- what is left to be read comes to the map, and its entries are in range
abbrev pub invariant-loop-name : goal.invariant-loop-name
invariant-loop-name g l = ((es : List (g.row.K.Denot × g.row.V.Denot)) → IsMapOf g.K.Ord.cmp g.K.Key.fits g.F.Form.fits es → put_all no_members (members_of_map g.K.Key.text g.F.Form.shown es) ≡ members_view l.members.entries → l.fn.map ≡ []
    → Left (of_map g.K.Key.text g.F.Form.shown g.K.Key.fits g.F.Form.fits g.K.Ord.cmp) (members_view l.name-iterator) l.map es)
    × (IsMapOf g.K.Ord.cmp g.K.Key.fits g.F.Form.fits l.fn.map → IsMapOf g.K.Ord.cmp g.K.Key.fits g.F.Form.fits l.map)
