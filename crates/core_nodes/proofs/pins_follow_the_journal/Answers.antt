-- By the events of a run.
use Rattle.core_nodes.proofs.pins_follow_the_journal.Goals as goal
use Rattle.core_nodes.proofs.Events.{begun_pins, leave_run, login_run, refresh_run}
use Rattle.core_nodes.proofs.Recovering.{recovered_pins, recovered_pins_apart}
use Rattle.core_nodes.proofs.Pins.{cursor_put, has_cursor, has_pin, pinned, pins_kept}

pub returns-clause-begun : goal.returns-clause-begun
returns-clause-begun g c = λ begin clusters sessions k. begun_pins begin clusters sessions k

pub returns-clause-pinned : goal.returns-clause-pinned
returns-clause-pinned g c = λ sessions past k s owner pin are h. (pinned sessions past k s are owner pin h, are.pairs owner pin h)

pub returns-clause-there : goal.returns-clause-there
returns-clause-there g c = λ sessions past k s owner v are at. has_pin sessions past k s are owner v at

pub returns-clause-login : goal.returns-clause-login
returns-clause-login g c = λ begin clusters sessions past k s session v nodes run of is are. login_run begin (g.L.Law.may_start c.args.law.now) (g.L.Law.may_say c.args.law.now) clusters sessions nodes past k s is are session v run of

pub returns-clause-refresh : goal.returns-clause-refresh
returns-clause-refresh g c = λ begin clusters sessions past k s session v nodes run of here is are. refresh_run begin (g.L.Law.may_start c.args.law.now) (g.L.Law.may_say c.args.law.now) clusters sessions nodes past k s is are session v run of here

pub returns-clause-left : goal.returns-clause-left
returns-clause-left g c = λ begin clusters sessions past k s session of none is are. leave_run begin clusters sessions past k s is are session of none

pub returns-clause-cursor : goal.returns-clause-cursor
returns-clause-cursor g c = λ sessions past k s owner v none are at. has_cursor sessions past k s are owner v none at

pub returns-clause-observed : goal.returns-clause-observed
returns-clause-observed g c = λ sessions past k s session pin of none has are. cursor_put sessions past k s are session pin of none has

pub returns-clause-apart : goal.returns-clause-apart
returns-clause-apart g c = λ sessions past e k s leaves are. pins_kept sessions past k s are e leaves

pub returns-clause-drawn : goal.returns-clause-drawn
returns-clause-drawn g c = λ sessions past k s r are. record { bases = are.bases; pairs = are.pairs }

pub returns-clause-ended : goal.returns-clause-ended
returns-clause-ended g c = λ sessions past k s r are. record { bases = are.bases; pairs = are.pairs }

pub returns-clause-noted : goal.returns-clause-noted
returns-clause-noted g c = λ sessions past k s path r are. record { bases = are.bases; pairs = are.pairs }

pub returns-clause-published : goal.returns-clause-published
returns-clause-published g c = λ sessions past k s are. record { bases = are.bases; pairs = are.pairs }

pub returns-clause-learned : goal.returns-clause-learned
returns-clause-learned g c = λ sessions past k s last sweep are. record { bases = are.bases; pairs = are.pairs }

pub returns-clause-stopped : goal.returns-clause-stopped
returns-clause-stopped g c = λ sessions past k s are. record { bases = are.bases; pairs = are.pairs }

pub returns-clause-recovered : goal.returns-clause-recovered
returns-clause-recovered g c = λ sessions past k s. recovered_pins sessions past k s

pub returns-clause-recovered_apart : goal.returns-clause-recovered_apart
returns-clause-recovered_apart g c = λ sessions past m k s other are. recovered_pins_apart sessions past m k s other are
