use Rattle.std.proofs.Common.{◌≡◌, ◌∙◌, false, sym}
use Rattle.jr_stage.specs.Nearing.{ReadsNearer, ReadsThrough, commits_at}
use Rattle.jr_stage.proofs.Reading.{apart_by, behind_reads, comes_anyway, read_as, reading_apart, reading_begins, reading_more, reading_over, reading_sooner}
use Rattle.jr_stage.proofs.Reaching.{seats_on}
use Rattle.jr_stage.proofs.stage.Stage.read_on.Goals as goal

pub reads-init : goal.reads-init
reads-init c = reading_begins c.args.self.now c.args.s c.requires.stage

pub is_reading-requires : goal.is_reading-requires
is_reading-requires c = seats_on c.args.self.now c.reads.self c.args.s c.requires.stage c.reads.invariant.only.stage c.reads.invariant.only.script c.requires.there

pub step-requires-clause-stage : goal.step-requires-clause-stage
step-requires-clause-stage c = c.reads.invariant.only.stage

pub step-requires-clause-there : goal.step-requires-clause-there
step-requires-clause-there c = seats_on c.args.self.now c.reads.self c.args.s c.requires.stage c.reads.invariant.only.stage c.reads.invariant.only.script c.requires.there

pub returns-clause-reads : goal.returns-clause-reads
returns-clause-reads c = reading_over c.args.self.now c.reads.self c.args.s c.reads.invariant (sym c.is_reading.ensures ∙ c.reads-test.false)

pub returns-in_default-clause-apart : goal.returns-in_default-clause-apart
returns-in_default-clause-apart c =
    apart_by c.args.self.now c.args.s _
    (sym c.reads.invariant.only.commits ∙ reading_apart c.reads.self c.args.s c.reads.invariant.only.stage (sym c.is_reading.ensures ∙ c.reads-test.true))

pub returns-in_default-clause-reads : goal.returns-in_default-clause-reads
returns-in_default-clause-reads c =
    let idle : commits_at c.args.self.now c.args.s ≡ false =
    sym c.reads.invariant.only.commits ∙ reading_apart c.reads.self c.args.s c.reads.invariant.only.stage (sym c.is_reading.ensures ∙ c.reads-test.true) in
    behind_reads c.args.self.now c.reads.self c.step.new.self c.args.s c.reads.invariant.only
    {X = ReadsThrough c.args.self.now c.step.new.self c.args.s} {Y = ReadsThrough c.args.self.now c.step.new.self c.args.s} (λ h. h) _ (apart_by c.args.self.now c.args.s _ idle)
    (comes_anyway _ (ReadsThrough c.args.self.now c.step.new.self c.args.s) c.reads.self c.step.new.self c.args.s _ c.in_default.not-Read c.in_ok-turn.ensures)

pub reads-preserved : goal.reads-preserved
reads-preserved c =
    let read = read_as (ReadsNearer c.reads.self c.step.new.self c.args.s) c.reads.self c.step.new.self c.args.s _ c.in-Read.is c.in_ok-turn.ensures in
    reading_more c.args.self.now c.reads.self c.step.new.self c.args.s c.reads.invariant (sym c.is_reading.ensures ∙ c.reads-test.true) read.0 read.1

pub reads-smaller : goal.reads-smaller
reads-smaller c =
    let read = read_as (ReadsNearer c.reads.self c.step.new.self c.args.s) c.reads.self c.step.new.self c.args.s _ c.in-Read.is c.in_ok-turn.ensures in
    reading_sooner c.args.self.now c.reads.self c.step.new.self c.args.s c.reads.invariant (sym c.is_reading.ensures ∙ c.reads-test.true) read.0 read.1
