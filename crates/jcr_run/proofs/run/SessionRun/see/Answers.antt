use Rattle.std.proofs.Common.{refl, subst, sym, Result}
use Rattle.jr_path.specs.Lists.{Text}
use Rattle.jcr_run.specs.Asked.{MayAnswer}
use Rattle.std.specs.declared.alloc.AllocError.{AllocError}
use Rattle.std.specs.declared.alloc.Global.{Global}
use Rattle.std.specs.declared.string.String.{String}
use Rattle.jcr_run.specs.Asked.{HasSeen}
use Rattle.jcr_run.proofs.Lawful.{at_between, see_answers, see_forgoes}
use Rattle.jcr_run.proofs.Nexts.{next_due}
use Rattle.jcr_run.specs.declared.next.Due.TheVariants as due
use Rattle.jcr_run.proofs.run.SessionRun.see.Goals as goal

pub say-requires : goal.say-requires
say-requires g c =
    let m = next_due c.args.self.now due.See c.requires.next refl in
    record {
      answer = subst (λ (t : Text). MayAnswer (g.P.Port.law c.args.port.now) (g.P.Port.shown c.args.port.now) c.seen.new.self t) (sym c.as_str.ensures.value)
          (see_answers (g.P.Port.law c.args.port.now) (g.P.Port.shown c.args.port.now) c.args.self.now c.requires.stands c.requires.between m.0 m.1 c.requires.ready.done c.seen.new.self c.in-Ok.text m.2 c.seen.ensures.same
          (subst (λ (x : Result (String Global) AllocError). HasSeen c.args.self.now c.seen.new.self x) c.in-Ok.is c.seen.ensures.sees));
    }

pub say_memory-requires : goal.say_memory-requires
say_memory-requires g c =
    let m = next_due c.args.self.now due.See c.requires.next refl in
    let here = (at_between (g.P.Port.law c.args.port.now) (g.P.Port.shown c.args.port.now) c.args.self.now c.requires.stands c.requires.between).1 in
    record {
      forgoes = see_forgoes (g.P.Port.law c.args.port.now) (g.P.Port.shown c.args.port.now) c.args.self.now c.requires.stands c.requires.between m.0 m.1 c.requires.ready.done c.seen.new.self c.seen.ensures.same
          ((subst (λ (x : Result (String Global) AllocError). HasSeen c.args.self.now c.seen.new.self x) c.in-Err.is c.seen.ensures.sees) m.0 here.call m.1 here.holds);
    }
