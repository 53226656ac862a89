use Rattle.std.proofs.Common.{◌≡◌, ◌++◌, OnOk, Result, Ok, Err, ap, sym, ◌∙◌, append-nil}
use Rattle.std.proofs.lemmas.Result.{on_ok_weaker}
use Rattle.oak_machine.specs.declared.event.StepKind.TheVariants as kind
use Rattle.oak_read.specs.Reading.{answer}
use Rattle.oak_tidy.specs.Tidyings.{kind_tidied, tidying_fed}
use Rattle.oak_tidy.proofs.Looking.{looks_so, read_events}
use Rattle.oak_tidy.proofs.asks.look.Goals as goal

-- what holds anyway holds where all goes well
anyway : {A E : Type 0} (r : Result A E) (P : Type 0) → P → OnOk r P
anyway (Ok x) P p = p
anyway (Err e) P p = tt

pub returns-in_ok-answer-in-Read-clause-list : goal.returns-in_ok-answer-in-Read-clause-list
returns-in_ok-answer-in-Read-clause-list c =
    let read : kind_tidied c.args.tidying ≡ kind.Read = sym c.due.ensures ∙ c.in-Read.is in
    anyway c.fed.result _
    (sym (ap (λ es. c.args.events.now.list ++ es) (read_events c.args.s c.args.tidying (tidying_fed c.args.tidying (answer c.args.table.now.documents c.args.asking)) read) ∙ append-nil c.args.events.now.list))

pub returns-in_default : goal.returns-in_default
returns-in_default c = record {
  onward = c.look_counted.ensures.onward;
  list =
      on_ok_weaker c.look_counted.result
      (λ h. h ∙ ap (λ es. c.args.events.now.list ++ es) (sym (looks_so c.args.s (tidying_fed c.args.tidying (answer c.args.table.now.documents c.args.asking)) c.args.tidying c.args.asking c.due.result c.requires.asked (sym c.due.ensures) (λ read. c.in_default.not-Read (c.due.ensures ∙ read)))))
      c.look_counted.ensures.list;
  err = c.look_counted.ensures.err;
  places = c.look_counted.ensures.places;
}
