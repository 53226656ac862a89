use Rattle.serde_json.specs.View.{members_view}
use Rattle.jcr_trans.proofs.Members.{ArePut}
use Rattle.jcr_trans.proofs.texts.properties_json.Given as goal

abbrev pub invariant-loop-name : goal.invariant-loop-name
invariant-loop-name l = ArePut l.properties l.name-iterator (members_view l.members.entries)
