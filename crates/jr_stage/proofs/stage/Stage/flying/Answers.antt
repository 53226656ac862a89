use Rattle.std.proofs.Common.{◌≡◌, ◌∙◌, ℕ, ◌<◌, ◌≤◌, List, ap, arith, get_or, length, subst, sym}
use Rattle.std.specs.List.{All}
use Rattle.std.specs.Map.{values_of}
use Rattle.jcr_law.specs.Lasting.{says_of, starts_of}
use Rattle.jr_stage.specs.declared.stage.Seat.{Seat}
use Rattle.jr_stage.specs.Awaited.{AreInTurn}
use Rattle.jr_stage.specs.Places.{flying_sessions}
use Rattle.jr_stage.specs.Stages.{past_of}
use Rattle.jr_stage.proofs.Ascending.{AreKept, if_ok_more, kept_flying, kept_long, kept_more, kept_none}
use Rattle.jr_stage.proofs.InTurn.{flying_in_turn}
use Rattle.jr_stage.proofs.Within.{seat_fits, stage_nodes}
use Rattle.jr_stage.proofs.stage.Stage.flying.Goals as goal

pub loop-s-init : goal.loop-s-init
loop-s-init c = subst (λ es. AreKept c.args.self.now 0 es) (sym c.new-flying.ensures.empty) (kept_none c.args.self.now)

pub overflow_cast-s : goal.overflow_cast-s
overflow_cast-s c = omega (arith, seat_fits c.args.self.now c.requires c.loop-s.s (subst (λ (l : List Seat). c.loop-s.s < length l) c.deref-seat-items.ensures.value c.loop-s-test.true))

pub loop-s-preserved : goal.loop-s-preserved
loop-s-preserved c =
    kept_more c.args.self.now c.requires c.loop-s.s c.loop-s.flying.entries c.note_flight.new.flying.entries c.seat-item.result
    (subst (λ (l : List Seat). c.loop-s.s < length l) c.deref-seat-items.ensures.value c.loop-s-test.true)
    (c.seat-item.is ∙ ap (λ (l : List Seat). get_or l c.loop-s.s c.seat-item.result) c.deref-seat-items.ensures.value)
    c.loop-s.invariant c.in_ok-note_flight.ensures

pub returns-clause-flying : goal.returns-clause-flying
returns-clause-flying c =
    if_ok_more c.sessions_of.result {P = λ sessions. sessions ≡ values_of c.loop-s.flying.entries} {Q = λ sessions. sessions ≡ flying_sessions c.args.self.now.world.history.past}
    (λ x same. same ∙ kept_flying c.args.self.now c.requires c.loop-s.flying.entries
    (kept_long c.args.self.now c.loop-s.s c.loop-s.flying.entries (subst (λ (l : List Seat). length l ≤ c.loop-s.s) c.deref-seat-items.ensures.value c.loop-s-test.false) c.loop-s.invariant)
    (starts_of c.args.self.now.world.law) (says_of c.args.self.now.world.law) (stage_nodes c.args.self.now c.requires) c.journal.ensures.run)
    c.sessions_of.ensures

pub returns-clause-seats : goal.returns-clause-seats
returns-clause-seats c =
    if_ok_more c.sessions_of.result {P = λ sessions. sessions ≡ values_of c.loop-s.flying.entries} {Q = All (λ s. s < length c.args.self.now.seats.items)}
    (λ x same. subst (λ l. All (λ s. s < length c.args.self.now.seats.items) l) (sym same) c.loop-s.invariant.seats)
    c.sessions_of.ensures

pub returns-clause-in_turn : goal.returns-clause-in_turn
returns-clause-in_turn c =
    if_ok_more c.sessions_of.result {P = λ sessions. sessions ≡ values_of c.loop-s.flying.entries} {Q = AreInTurn (past_of c.args.self.now)}
    (λ x same. subst (λ (l : List ℕ). AreInTurn (past_of c.args.self.now) l)
    (sym (same ∙ kept_flying c.args.self.now c.requires c.loop-s.flying.entries
    (kept_long c.args.self.now c.loop-s.s c.loop-s.flying.entries (subst (λ (l : List Seat). length l ≤ c.loop-s.s) c.deref-seat-items.ensures.value c.loop-s-test.false) c.loop-s.invariant)
    (starts_of c.args.self.now.world.law) (says_of c.args.self.now.world.law) (stage_nodes c.args.self.now c.requires) c.journal.ensures.run))
    (flying_in_turn c.args.self.now.world.history.clusters c.args.self.now.world.history.sessions (stage_nodes c.args.self.now c.requires)
    (starts_of c.args.self.now.world.law) (says_of c.args.self.now.world.law) (past_of c.args.self.now) c.journal.ensures.run))
    c.sessions_of.ensures
