use Rattle.std.proofs.Common.{◌≡◌, map}
use Rattle.serde_json.specs.View.{members_view}
use Rattle.jr_defs.specs.Reading.{have_keys}
use Rattle.jr_defs.proofs.reading.have_keys.Given as goal

-- what the rest says, the whole does
abbrev pub invariant-loop-key : goal.invariant-loop-key
invariant-loop-key l = have_keys (map (λ k. k.now) l.keys) (members_view l.members.entries) ≡ have_keys (map (λ k. k.now) l.keys) (members_view l.key-iterator)
