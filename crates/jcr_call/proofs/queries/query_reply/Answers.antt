use Rattle.std.proofs.Common.{Ok, Err}
use Rattle.jcr_call.proofs.QueryRead.{answered}
use Rattle.jcr_call.proofs.queries.query_reply.Goals as goal

pub returns-in-Ok : goal.returns-in-Ok
returns-in-Ok c = λ on types base. answered on c.args.text.now c.args.vars.now c.args.types.now c.args.base.now (Ok c.in-Ok.query) c.parse-parsed.result
    c.read_reply-reply.result types base c.in-Ok.is
    (rw (c.as_str.ensures, c.as_slice.ensures.value, c.in_ok-vars.ensures) at c.parse-parsed.ensures) c.read_reply-reply.ensures

pub returns-in-Err : goal.returns-in-Err
returns-in-Err c = λ on types base. answered on c.args.text.now c.args.vars.now c.args.types.now c.args.base.now (Err c.in-Err.fault) c.parse-parsed.result
    c.fault_reply.result types base c.in-Err.is
    (rw (c.as_str.ensures, c.as_slice.ensures.value, c.in_ok-vars.ensures) at c.parse-parsed.ensures) (c.fault_reply.ensures c.args.types.now c.args.base.now)
