use Rattle.std.proofs.Common.{IfOk, Result, subst, sym, ◌∙◌}
use Rattle.std.specs.String.{string_bytes}
use Rattle.std.specs.declared.alloc.AllocError.{AllocError}
use Rattle.std.specs.declared.alloc.Global.{Global}
use Rattle.std.specs.declared.string.String.{String}
use Rattle.jr_path.specs.Lists.{Text}
use Rattle.jcr_run.specs.Asked.{MayAnswer, MaySettle}
use Rattle.jcr_run.proofs.Lawful.{settle_answers}
use Rattle.jcr_run.proofs.run.SessionRun.say_settled.Goals as goal

pub say-requires : goal.say-requires
say-requires g c =
    let law = g.P.Port.law c.args.port.now in
    let p = g.P.Port.shown c.args.port.now in
    record {
      answer = subst (λ (t : Text). MayAnswer law p c.settle.new.self t) (c.as_str.ensures.value ∙ sym c.as_str-in-Ok.ensures.value)
          (settle_answers law p c.args.self.now c.settle.new.self c.as_str.result.now
          (subst (λ (t : Text). MaySettle law p c.args.self.now t) (sym c.as_str.ensures.value)
          (subst (λ (r : Result (String Global) AllocError). IfOk r (λ x. MaySettle law p c.args.self.now (string_bytes x))) c.in-Ok.is c.requires.settles))
          c.settle.ensures);
    }
