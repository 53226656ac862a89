use Rattle.std.proofs.Common.{Some, refl, subst, sym}
use Rattle.jr_tree.specs.Edits.{applied}
use Rattle.jr_part.specs.Parts.{AgreesWith, Knowledge}
use Rattle.std.proofs.lemmas.Bool.{false≢true}
use Rattle.jr_known.proofs.held_part.HeldPart.follow_whole.Goals as goal

pub returns-in-Ok : goal.returns-in-Ok
returns-in-Ok c = record {
  whole = λ is. c.in-Ok.ensures.whole;
  nothing = λ is. absurd (false≢true (sym is));
  kept = λ was. refl;
  refused = tt;
  agrees = λ t tree proper agrees. c.in-Ok.ensures.agrees t tree proper (subst (AgreesWith t) (sym c.self.view_is) agrees);
}

pub returns-in-Err : goal.returns-in-Err
returns-in-Err c = record {
  whole = tt;
  nothing = tt;
  kept = tt;
  refused = c.in-Err.ensures.err;
  agrees = λ t tree proper agrees.
      subst (λ (k : Knowledge). AgreesWith (applied (Some c.args.by) t c.args.edit.now.writes) k) (sym c.in-Err.ensures.err) (c.puts_agree.ensures.nothing (applied (Some c.args.by) t c.args.edit.now.writes));
}
