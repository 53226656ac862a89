use Rattle.std.proofs.Common.{inl, inr, refl}
use Rattle.std.specs.String.{string_bytes}
use Rattle.repo_top.specs.Ends.{output_of}
use Rattle.repo_top.specs.declared.status.Status.TheVariants as status
use Rattle.repo_top.proofs.Faulty.{told_text}
use Rattle.repo_top.proofs.top.types.Goals as goal

pub returns-in-Err : goal.returns-in-Err
returns-in-Err g c = record { does = inl (record { why = c.in-Err.why; missing = c.in-Err.ensures.unread; none = refl; faults = c.unrun.ensures }) }

pub returns-in-Ok : goal.returns-in-Ok
returns-in-Ok g c = record {
  does = inr (inr (record {
    text = string_bytes c.in-Ok.text;
    made = c.in-Ok.ensures.read;
    none = refl;
    tells = told_text (output_of g.K.Sink c.args.sink.now) (output_of g.K.Sink c.written.new.sink) _ _ status.Done c.written.result c.as_bytes.ensures.value c.written.ensures;
  }));
}
