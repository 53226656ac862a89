use Rattle.std.proofs.Common.{◌≡◌, ◌∙◌, Contains, None, Some, ap, arith, refl, subst, sym}
use Rattle.jr_path.specs.declared.path.Path.{Path}
use Rattle.jr_part.specs.Parts.{Knowledge, known_at}
use Rattle.jr_known.specs.Earlier.{Earlier}
use Rattle.jcr_held.proofs.OnTheWay.{of_some}
use Rattle.jcr_held.proofs.Unread.{no_more_alike, told_wanted}
use Rattle.jcr_held.proofs.held.Held.catch_up.Goals as goal

pub returns-in-Some-2-clause-wanted : goal.returns-in-Some-2-clause-wanted
returns-in-Some-2-clause-wanted c = λ d m.
    told_wanted d (record c.args.self.now { earlier = Some c.next_unread.new.self }) m c.in-Some.earlier c.in-Some-2.path
    (ap (λ (e : Earlier). Some e) c.next_unread.ensures.same)
    (of_some (λ (p : Path). Contains c.in-Some.earlier.told p) _ c.in-Some-2.path c.in-Some-2.is c.in_ok-path.ensures.told)
    (subst (λ (k : Knowledge). known_at k c.in-Some-2.path ≡ None) c.as_part.ensures
    (of_some (λ (p : Path). known_at c.as_part.result.now p ≡ None) _ c.in-Some-2.path c.in-Some-2.is c.in_ok-path.ensures.unread))

pub returns-in-None-clause-fewer : goal.returns-in-None-clause-fewer
returns-in-None-clause-fewer c = λ d m.
    let first = no_more_alike d c.args.self.now (record c.args.self.now { earlier = Some c.next_unread.new.self }) m (record {
      types = refl;
      who = refl;
      part = refl;
      earlier = ap (λ (e : Earlier). Some e) c.next_unread.ensures.same ∙ sym c.in-Some.is;
      pending = refl;
      is_kept = refl;
      references = refl;
      tokens = refl;
      cursor = refl;
    }) in
    let rest = c.renew.ensures.fewer d m in
    omega arith
