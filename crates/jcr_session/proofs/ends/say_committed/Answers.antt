use Rattle.std.proofs.Common.{Option, Some, ℕ, length, true, sym, ap, subst, ◌∙◌}
use Rattle.std.specs.Prelude.{IfSome, string_bytes}
use Rattle.std.specs.declared.alloc.Global.{Global}
use Rattle.std.specs.declared.string.String.{String}
use Rattle.jr_path.specs.Lists.{Text}
use Rattle.oak_machine.specs.Runs.{IsRun}
use Rattle.oak_port.specs.Ports.{HasRoom}
use Rattle.jcr_law.specs.declared.law.JcrLaw.{JcrLaw}
use Rattle.jcr_law.specs.Lasting.{says_of, starts_of}
use Rattle.jcr_run.specs.declared.run.SessionRun.{SessionRun}
use Rattle.jcr_run.specs.Asked.{IsUnviewedNext, MayAnswer, Settles}
use Rattle.jcr_session.proofs.Ending.{answers_last, made_base, made_next, made_pin, told_as, turned_last}
use Rattle.jcr_run.proofs.Saying.{replied_like}
use Rattle.jcr_session.proofs.ends.say_committed.Goals as goal

pub unreachable-requires : goal.unreachable-requires
unreachable-requires g c = made_base (g.P.Port.law c.args.port.now) (g.P.Port.shown c.args.port.now) c.args.run.now c.args.r c.args.pledge c.requires.stands c.pin.result c.in_default.is c.pin.ensures.base

pub told_since-told-requires : goal.told_since-told-requires
told_since-told-requires g c = record { run = subst (λ (l : JcrLaw). IsRun (starts_of l) (says_of l) (g.P.Port.shown c.pin.new.self).history) (sym c.in-Some.ensures.law) c.in-Some.ensures.same.grows.run }

pub accept-requires : goal.accept-requires
accept-requires g c = record { next = subst IsUnviewedNext (sym c.move_behind.ensures.same) (made_next (g.P.Port.law c.args.port.now) (g.P.Port.shown c.args.port.now) c.args.run.now c.args.r c.args.pledge c.requires.stands) }

-- the text that was made before
pub say_kept-requires-clause-answer : goal.say_kept-requires-clause-answer
say_kept-requires-clause-answer g c =
    subst (λ (t : Text). MayAnswer (g.P.Port.law c.told_since-told.new.port) (g.P.Port.shown c.told_since-told.new.port) c.accept.new.self t) (ap (told_as c.args.r) c.in-Some-text.is ∙ sym c.as_str.ensures.value)
    (answers_last (g.P.Port.law c.args.port.now) (g.P.Port.law c.pin.new.self) (g.P.Port.law c.told_since-told.new.port) c.in-Some.ensures.law c.told_since-told.ensures.law (g.P.Port.shown c.args.port.now) (g.P.Port.shown c.pin.new.self) (g.P.Port.shown c.told_since-told.new.port) c.args.run.now c.args.r c.args.pledge c.requires.stands c.in-Some.ensures.same c.told_since-told.ensures.same
    c.in-Some.pin (made_pin (g.P.Port.law c.args.port.now) (g.P.Port.shown c.args.port.now) c.args.run.now c.args.r c.args.pledge c.requires.stands c.pin.result c.in-Some.pin c.in-Some.is c.pin.ensures.base) c.told_since-told.result c.told_since-told.ensures.told c.move_behind.new.run.held c.move_behind.ensures.holds c.accept.new.self (subst (λ (x : SessionRun). Settles x c.accept.new.self true true (Some c.args.pledge.accepted.tokens)) c.move_behind.ensures.same c.accept.ensures))

pub say_kept-requires-clause-room : goal.say_kept-requires-clause-room
say_kept-requires-clause-room g c =
    subst (λ (t : Text). HasRoom (g.P.Port.shown c.told_since-told.new.port).room (length t)) (sym c.as_str.ensures.value)
    (subst (λ (o : Option ℕ). HasRoom o (length (string_bytes c.in-Some-text.text))) (sym (c.told_since-told.ensures.same.room_is ∙ c.in-Some.ensures.same.room_is))
    (subst (λ (o : Option (String Global)). IfSome o (λ t. HasRoom (g.P.Port.shown c.args.port.now).room (length (string_bytes t)))) c.in-Some-text.is c.requires.stands.at.1.for.place.text))

-- or the revision
pub say_revision-requires-clause-answer : goal.say_revision-requires-clause-answer
say_revision-requires-clause-answer g c =
    subst (λ (t : Text). MayAnswer (g.P.Port.law c.told_since-told.new.port) (g.P.Port.shown c.told_since-told.new.port) c.accept.new.self t) (ap (told_as c.args.r) c.in-None.is)
    (answers_last (g.P.Port.law c.args.port.now) (g.P.Port.law c.pin.new.self) (g.P.Port.law c.told_since-told.new.port) c.in-Some.ensures.law c.told_since-told.ensures.law (g.P.Port.shown c.args.port.now) (g.P.Port.shown c.pin.new.self) (g.P.Port.shown c.told_since-told.new.port) c.args.run.now c.args.r c.args.pledge c.requires.stands c.in-Some.ensures.same c.told_since-told.ensures.same
    c.in-Some.pin (made_pin (g.P.Port.law c.args.port.now) (g.P.Port.shown c.args.port.now) c.args.run.now c.args.r c.args.pledge c.requires.stands c.pin.result c.in-Some.pin c.in-Some.is c.pin.ensures.base) c.told_since-told.result c.told_since-told.ensures.told c.move_behind.new.run.held c.move_behind.ensures.holds c.accept.new.self (subst (λ (x : SessionRun). Settles x c.accept.new.self true true (Some c.args.pledge.accepted.tokens)) c.move_behind.ensures.same c.accept.ensures))

pub say_revision-requires-clause-room : goal.say_revision-requires-clause-room
say_revision-requires-clause-room g c =
    subst (λ (o : Option ℕ). HasRoom o 40) (sym (c.told_since-told.ensures.same.room_is ∙ c.in-Some.ensures.same.room_is)) c.requires.stands.at.1.for.place.told

pub returns-in-Some-text-clause-turned : goal.returns-in-Some-text-clause-turned
returns-in-Some-text-clause-turned g c =
    let same = c.accept.ensures.same in
    replied_like (g.P.Port.law c.args.port.now) (g.P.Port.shown c.args.port.now) (g.P.Port.shown c.say_kept.new.port) c.args.run.now c.accept.new.self c.say_kept.new.self c.say_kept.result (ap (λ r. r.session) same ∙ ap (λ r. r.session) c.move_behind.ensures.same) (ap (λ r. r.commands) same ∙ ap (λ r. r.commands) c.move_behind.ensures.same) (ap (λ r. r.index) same ∙ ap (λ r. r.index) c.move_behind.ensures.same) c.say_kept.ensures.said
    (turned_last (g.P.Port.law c.args.port.now) (g.P.Port.law c.pin.new.self) (g.P.Port.law c.told_since-told.new.port) c.in-Some.ensures.law c.told_since-told.ensures.law (g.P.Port.shown c.args.port.now) (g.P.Port.shown c.pin.new.self) (g.P.Port.shown c.told_since-told.new.port) c.args.run.now c.args.r c.args.pledge c.requires.stands c.in-Some.ensures.same c.told_since-told.ensures.same
    c.in-Some.pin (made_pin (g.P.Port.law c.args.port.now) (g.P.Port.shown c.args.port.now) c.args.run.now c.args.r c.args.pledge c.requires.stands c.pin.result c.in-Some.pin c.in-Some.is c.pin.ensures.base) c.told_since-told.result c.told_since-told.ensures.told c.move_behind.new.run.held c.move_behind.ensures.holds c.accept.new.self (subst (λ (x : SessionRun). Settles x c.accept.new.self true true (Some c.args.pledge.accepted.tokens)) c.move_behind.ensures.same c.accept.ensures)
    (g.P.Port.shown c.say_kept.new.port) c.say_kept.new.self c.say_kept.result c.say_kept.ensures.turned)

pub returns-clause-turned : goal.returns-clause-turned
returns-clause-turned g c =
    let same = c.accept.ensures.same in
    replied_like (g.P.Port.law c.args.port.now) (g.P.Port.shown c.args.port.now) (g.P.Port.shown c.say_revision.new.port) c.args.run.now c.accept.new.self c.say_revision.new.run c.say_revision.result (ap (λ r. r.session) same ∙ ap (λ r. r.session) c.move_behind.ensures.same) (ap (λ r. r.commands) same ∙ ap (λ r. r.commands) c.move_behind.ensures.same) (ap (λ r. r.index) same ∙ ap (λ r. r.index) c.move_behind.ensures.same) c.say_revision.ensures.said
    (turned_last (g.P.Port.law c.args.port.now) (g.P.Port.law c.pin.new.self) (g.P.Port.law c.told_since-told.new.port) c.in-Some.ensures.law c.told_since-told.ensures.law (g.P.Port.shown c.args.port.now) (g.P.Port.shown c.pin.new.self) (g.P.Port.shown c.told_since-told.new.port) c.args.run.now c.args.r c.args.pledge c.requires.stands c.in-Some.ensures.same c.told_since-told.ensures.same
    c.in-Some.pin (made_pin (g.P.Port.law c.args.port.now) (g.P.Port.shown c.args.port.now) c.args.run.now c.args.r c.args.pledge c.requires.stands c.pin.result c.in-Some.pin c.in-Some.is c.pin.ensures.base) c.told_since-told.result c.told_since-told.ensures.told c.move_behind.new.run.held c.move_behind.ensures.holds c.accept.new.self (subst (λ (x : SessionRun). Settles x c.accept.new.self true true (Some c.args.pledge.accepted.tokens)) c.move_behind.ensures.same c.accept.ensures)
    (g.P.Port.shown c.say_revision.new.port) c.say_revision.new.run c.say_revision.result c.say_revision.ensures.turned)
