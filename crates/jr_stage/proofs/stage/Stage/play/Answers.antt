use Rattle.std.proofs.Common.{◌<◌, length, refl, sym, subst}
use Rattle.std.specs.Result.{OnOk}
use Rattle.jr_script.specs.Schedules.{session_named}
use Rattle.jr_script.specs.declared.script.Entry.{Entry}
use Rattle.jr_stage.specs.Parts.{by_entry}
use Rattle.jr_stage.specs.Stages.{Closes}
use Rattle.jr_stage.proofs.Closing.{turn_closes_to}
use Rattle.jr_stage.proofs.stage.Stage.play.Goals as goal

pub turn-requires-clause-stage : goal.turn-requires-clause-stage
turn-requires-clause-stage c = c.requires.stage

pub turn-requires-clause-there : goal.turn-requires-clause-there
turn-requires-clause-there c = subst (λ (e : Entry). session_named e < length c.args.self.now.seats.items) c.in-Turn.is c.requires.entry.named

pub turn-requires-clause-short : goal.turn-requires-clause-short
turn-requires-clause-short c = refl

pub say-requires-clause-stage : goal.say-requires-clause-stage
say-requires-clause-stage c = c.requires.stage

pub say-requires-clause-there : goal.say-requires-clause-there
say-requires-clause-there c = subst (λ (e : Entry). session_named e < length c.args.self.now.seats.items) c.in-Say.is c.requires.entry.named

pub read-requires-clause-stage : goal.read-requires-clause-stage
read-requires-clause-stage c = c.requires.stage

pub read-requires-clause-there : goal.read-requires-clause-there
read-requires-clause-there c = subst (λ (e : Entry). session_named e < length c.args.self.now.seats.items) c.in-Read.is c.requires.entry.named

pub go_to-requires-clause-stage : goal.go_to-requires-clause-stage
go_to-requires-clause-stage c = c.requires.stage

pub go_to-requires-clause-there : goal.go_to-requires-clause-there
go_to-requires-clause-there c = subst (λ (e : Entry). session_named e < length c.args.self.now.seats.items) c.in-Draw.is c.requires.entry.named

pub go_to-requires-clause-named : goal.go_to-requires-clause-named
go_to-requires-clause-named c = refl

pub go_to-requires-in-Write-clause-stage : goal.go_to-requires-in-Write-clause-stage
go_to-requires-in-Write-clause-stage c = c.requires.stage

pub go_to-requires-in-Write-clause-there : goal.go_to-requires-in-Write-clause-there
go_to-requires-in-Write-clause-there c = subst (λ (e : Entry). session_named e < length c.args.self.now.seats.items) c.in-Write.is c.requires.entry.named

pub go_to-requires-in-Write-clause-named : goal.go_to-requires-in-Write-clause-named
go_to-requires-in-Write-clause-named c = refl

pub go_to-requires-in-Last-clause-stage : goal.go_to-requires-in-Last-clause-stage
go_to-requires-in-Last-clause-stage c = c.requires.stage

pub go_to-requires-in-Last-clause-there : goal.go_to-requires-in-Last-clause-there
go_to-requires-in-Last-clause-there c = subst (λ (e : Entry). session_named e < length c.args.self.now.seats.items) c.in-Last.is c.requires.entry.named

pub go_to-requires-in-Last-clause-named : goal.go_to-requires-in-Last-clause-named
go_to-requires-in-Last-clause-named c = refl

pub returns-in_ok-turn-in-Turn : goal.returns-in_ok-turn-in-Turn
returns-in_ok-turn-in-Turn c = subst (λ (e : Entry). Closes c.args.self.now c.turn.new.self (by_entry e)) (sym c.in-Turn.is) (turn_closes_to c.args.self.now c.turn.new.self c.in-Turn.s _ c.in_ok-turn-in-Turn.ensures)

pub returns-in-Say : goal.returns-in-Say
returns-in-Say c = subst (λ (e : Entry). OnOk c.say.result (Closes c.args.self.now c.say.new.self (by_entry e))) (sym c.in-Say.is) c.say.ensures

pub returns-in-Read : goal.returns-in-Read
returns-in-Read c = subst (λ (e : Entry). OnOk c.read.result (Closes c.args.self.now c.read.new.self (by_entry e))) (sym c.in-Read.is) c.read.ensures
