use Rattle.std.proofs.Common.{◌≡◌, ◌+◌, ◌≤◌, true, length, length-drop, get_or, drop, is_ok, refl, sym, ap, subst, ◌∙◌, arith}
use Rattle.std.specs.Prelude.{Some}
use Rattle.std.proofs.ResultArms.{chosen}
use Rattle.sql_lex.specs.Tokens.{AreTokens, longest_token, is_blank}
use Rattle.sql_lex.proofs.Cuts.{more_space, more_token, rest_is}
use Rattle.sql_lex.proofs.lexer.cut.Goals as goal

pub loop-at-preserved-then-is_space : goal.loop-at-preserved-then-is_space
loop-at-preserved-then-is_space c =
    let bytes = c.as_bytes-bytes.ensures.value in
    let space : is_blank (get_or c.args.text.now c.loop-at.at 0) ≡ true = rw bytes at (sym c.is_space.ensures ∙ c.if-is_space.true) in
    record {
      within = omega arith;
      tokens = more_space _ _ _ _ c.loop-at.invariant.tokens (omega (arith, ap length bytes)) space;
    }

pub loop-at-preserved : goal.loop-at-preserved
loop-at-preserved c =
    let bytes = c.as_bytes-bytes.ensures.value in
    let pushed = chosen _ _ _ _ c.push.ensures.items (ap is_ok c.in_ok-push.was) in
    let rest = rest_is c.as_bytes-bytes.result.now c.loop-at.at in
    let is : longest_token (drop c.loop-at.at c.args.text.now) ≡ Some (c.in-Some.kind, c.in-Some.size) = rw (rest, bytes) at (sym c.in-Some.ensures.token) in
    let size : c.in-Some.size ≤ length (drop c.loop-at.at c.as_bytes-bytes.result.now) = rw rest at c.in-Some.ensures.within.1 in
    let end : c.loop-at.at + c.in-Some.size ≤ length c.as_bytes-bytes.result.now = omega (arith, length-drop c.loop-at.at c.as_bytes-bytes.result.now) in
    record {
      within = end;
      tokens = subst (λ ts. AreTokens c.args.text.now 0 ts (c.loop-at.at + c.in-Some.size)) (sym pushed)
          (more_token _ _ _ _ c.loop-at.invariant.tokens (record { size = c.in-Some.size; is = is; end_is = refl }) (rw bytes at end));
    }
