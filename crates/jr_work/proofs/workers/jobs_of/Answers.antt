use Rattle.std.proofs.Common.{◌≡◌, ◌+◌, ◌∙◌, [], ◌∷◌, ◌++◌, length, length-append, ap, sym, subst, vec_len, arith, rules}
use Rattle.std.proofs.lemmas.List.Elements.{All-push}
use Rattle.std.proofs.lemmas.Option.{slice_get_within}
use Rattle.seat_lock.specs.Passes.{view_of}
use Rattle.jr_work.specs.declared.worker.Job.{Job}
use Rattle.jr_work.specs.Hands.{AreInHandOf}
use Rattle.jr_work.specs.Workers.{AreInOrder, HasHandedOut, IsJob}
use Rattle.jr_stage.proofs.Beginning.{all_yielded, comes_next, goes_over}
use Rattle.jr_work.proofs.Orders.{in_order_more}
use Rattle.jr_work.proofs.workers.jobs_of.Goals as goal

pub job_of-requires-clause-below : goal.job_of-requires-clause-below
job_of-requires-clause-below g c =
    let jobs : vec_len c.loop-hand.jobs ≡ length c.loop-hand.jobs.items = search rules in
    let number = c.len.ensures ∙ (jobs ∙ c.loop-hand.invariant.count) in
    let next = comes_next c.loop-hand.yielded c.next.new.self.rest.items c.loop-hand.hand-iterator.rest.items c.args.hands.items c.in-Some.hand c.loop-hand.invariant.whole c.in-Some.ensures.steps.0 in
    let within = slice_get_within c.args.hands.items (length c.loop-hand.yielded) c.in-Some.hand next in
    let many = c.requires.dealt.many in
    omega (arith, number, within, many)

pub job_of-requires-clause-out : goal.job_of-requires-clause-out
job_of-requires-clause-out g c =
    let jobs : vec_len c.loop-hand.jobs ≡ length c.loop-hand.jobs.items = search rules in
    subst (λ n. HasHandedOut c.args.crew.now.script.now.value c.args.crew.now.workers n (view_of c.loop-hand.main)) (sym (c.len.ensures ∙ (jobs ∙ c.loop-hand.invariant.count))) c.loop-hand.invariant.out

pub job_of-requires-clause-hand : goal.job_of-requires-clause-hand
job_of-requires-clause-hand g c =
    let jobs : vec_len c.loop-hand.jobs ≡ length c.loop-hand.jobs.items = search rules in
    let next = comes_next c.loop-hand.yielded c.next.new.self.rest.items c.loop-hand.hand-iterator.rest.items c.args.hands.items c.in-Some.hand c.loop-hand.invariant.whole c.in-Some.ensures.steps.0 in
    subst (λ n. AreInHandOf c.args.crew.now.script.now.value.sessions c.args.crew.now.workers n 0 c.in-Some.hand) (sym (c.len.ensures ∙ (jobs ∙ c.loop-hand.invariant.count))) (c.requires.dealt.each (length c.loop-hand.yielded) c.in-Some.hand next)

pub loop-hand-preserved : goal.loop-hand-preserved
loop-hand-preserved g c =
    let script = c.args.crew.now.script.now.value in
    let workers = c.args.crew.now.workers in
    let left = c.in-Some.ensures.steps.0 in
    let jobs : vec_len c.loop-hand.jobs ≡ length c.loop-hand.jobs.items = search rules in
    let number = c.len.ensures ∙ (jobs ∙ c.loop-hand.invariant.count) in
    let pushed : length c.push.new.self.items ≡ length (c.loop-hand.jobs.items ++ c.in_ok-job.job ∷ []) = ap (λ l. length l) c.in_ok-push.ensures.items in
    let more = length-append c.loop-hand.jobs.items (c.in_ok-job.job ∷ []) in
    let further = length-append c.loop-hand.yielded (c.in-Some.hand ∷ []) in
    let before = c.loop-hand.invariant.count in
    let many : length c.push.new.self.items ≡ length (c.loop-hand.yielded ++ c.in-Some.hand ∷ []) = omega (arith, pushed, more, further, before) in
    let next : c.len.result + 1 ≡ length (c.loop-hand.yielded ++ c.in-Some.hand ∷ []) = omega (arith, number, further) in
    record {
      own = c.job_of.ensures.own;
      whole = goes_over c.loop-hand.yielded c.next.new.self.rest.items c.loop-hand.hand-iterator.rest.items c.args.hands.items c.in-Some.hand c.loop-hand.invariant.whole left;
      out = subst (λ n. HasHandedOut script workers n (view_of c.job_of.new.main)) next c.in_ok-job.ensures.out;
      count = many;
      order = subst (λ l. AreInOrder l) (sym c.in_ok-push.ensures.items) (in_order_more c.loop-hand.jobs.items c.in_ok-job.job c.loop-hand.invariant.order (c.in_ok-job.ensures.number ∙ (c.len.ensures ∙ jobs)));
      ready = rw c.in_ok-push.ensures.items (All-push (λ (j : Job). IsJob script workers c.args.crew.now.shared.now.lock j) c.loop-hand.jobs.items c.in_ok-job.job c.loop-hand.invariant.ready c.in_ok-job.ensures.ready);
    }

pub returns-clause-main : goal.returns-clause-main
returns-clause-main g c =
    let none : length c.loop-hand.hand-iterator.rest.items ≡ 0 = search rules in
    let all = all_yielded c.loop-hand.yielded c.loop-hand.hand-iterator.rest.items c.args.hands.items c.loop-hand.invariant.whole none in
    subst (λ n. HasHandedOut c.args.crew.now.script.now.value c.args.crew.now.workers n (view_of c.loop-hand.main)) (ap (λ l. length l) all ∙ c.requires.dealt.many) c.loop-hand.invariant.out

pub returns-clause-count : goal.returns-clause-count
returns-clause-count g c =
    let none : length c.loop-hand.hand-iterator.rest.items ≡ 0 = search rules in
    let all = all_yielded c.loop-hand.yielded c.loop-hand.hand-iterator.rest.items c.args.hands.items c.loop-hand.invariant.whole none in
    let jobs : vec_len c.loop-hand.jobs ≡ length c.loop-hand.jobs.items = search rules in
    jobs ∙ (c.loop-hand.invariant.count ∙ (ap (λ l. length l) all ∙ c.requires.dealt.many))
