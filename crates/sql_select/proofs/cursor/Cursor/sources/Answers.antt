use Rattle.std.proofs.Common.{◌≡◌, true, sym, ◌∙◌}
use Rattle.sql_select.specs.Selected.{join_at, join_first}
use Rattle.sql_select.proofs.Repeated.{goes_on}
use Rattle.sql_select.proofs.cursor.Cursor.sources.Goals as goal

pub loop-turns-preserved : goal.loop-turns-preserved
loop-turns-preserved c =
    let begins : join_first c.loop-turns.self.pieces ≡ true = sym c.is_join.ensures ∙ c.if-not-is_join.false in
    goes_on join_first (join_at c.args.bare) c.loop-turns.turns.now c.loop-turns.sources c.join.new.sources c.loop-turns.self c.join.new.self _ c.in-len1-up.len_at_least begins c.in_ok-join.ensures c.loop-turns.invariant
