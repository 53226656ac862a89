use Rattle.std.proofs.Common.{◌≡◌, ◌∙◌, List, ap, inl, reverse}
use Rattle.oak_machine.specs.declared.event.Event.{Event}
use Rattle.oak_world.specs.Worlds.{live}
use Rattle.repo_top.specs.Ends.{output_of}
use Rattle.repo_top.specs.Summary.{counts_of, summary_line}
use Rattle.repo_top.specs.declared.status.Status.TheVariants as status
use Rattle.repo_top.specs.declared.summary.Counts.{Counts}
use Rattle.repo_top.proofs.Faulty.{told_text}
use Rattle.repo_top.proofs.Told.{events_told}
use Rattle.repo_top.proofs.made.counted.Goals as goal

pub returns-in-Ok-clause-writes : goal.returns-in-Ok-clause-writes
returns-in-Ok-clause-writes g c =
    let events : c.as_slice.result.now ≡ reverse c.args.world.history.past = c.as_slice.ensures ∙ events_told c.journal.result.now (live c.args.world.history) c.journal.ensures.journal in
    let counts : c.counts_of-counts.result ≡ counts_of (reverse c.args.world.history.past) = c.counts_of-counts.ensures ∙ ap (λ (es : List Event). counts_of es) events in
    let line : c.as_bytes.result.now ≡ summary_line c.args.sessions c.args.commands (counts_of (reverse c.args.world.history.past)) = c.as_bytes.ensures.value ∙ (c.in-Ok.ensures ∙ ap (λ (k : Counts). summary_line c.args.sessions c.args.commands k) counts) in
    inl (told_text (output_of g.K.Sink c.args.sink.now) (output_of g.K.Sink c.written.new.sink) c.as_bytes.result.now (summary_line c.args.sessions c.args.commands (counts_of (reverse c.args.world.history.past))) status.Done c.written.result line c.written.ensures)
