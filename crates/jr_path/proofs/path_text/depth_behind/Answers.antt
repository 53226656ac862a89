use Rattle.std.proofs.Common.{arith, lit<}
use Rattle.std.proofs.lemmas.Iterator.Consumers.{YieldsList-turn, YieldsList-end}
use Rattle.std.proofs.lemmas.List.{length_push}
use Rattle.std.proofs.lemmas.Iterator.Splits.{YieldsList-from_str_split}
use Rattle.jr_path.proofs.Pieces.{turn, turn_moves, turn_reaches, turn_stops, turns_end}
use Rattle.jr_path.proofs.path_text.depth_behind.Goals as goal

pub overflow_add-result : goal.overflow_add-result
overflow_add-result c =
    let place = YieldsList-turn (YieldsList-from_str_split 47 c.args.behind.now (lit< tt) (cc) (cc) (cc)) c.loop-name.yielded _ c.loop-name.yielded_by _ _ c.in-Some.name c.in-Some.is c.next.ensures.steps in
    let t = turn c.args.behind.now c.loop-name.depth _ c.loop-name.start c.in-Some.name.now c.loop-name.invariant.count place c.loop-name.invariant.start c.loop-name.invariant.names in
    omega (arith, turn_reaches _ _ _ _ t)

pub overflow_add-result-in-Err : goal.overflow_add-result-in-Err
overflow_add-result-in-Err c =
    let place = YieldsList-turn (YieldsList-from_str_split 47 c.args.behind.now (lit< tt) (cc) (cc) (cc)) c.loop-name.yielded _ c.loop-name.yielded_by _ _ c.in-Some.name c.in-Some.is c.next.ensures.steps in
    let t = turn c.args.behind.now c.loop-name.depth _ c.loop-name.start c.in-Some.name.now c.loop-name.invariant.count place c.loop-name.invariant.start c.loop-name.invariant.names in
    omega (arith, turn_reaches _ _ _ _ t, c.in-Err.ensures.within)

pub returns-in-Err : goal.returns-in-Err
returns-in-Err c =
    let place = YieldsList-turn (YieldsList-from_str_split 47 c.args.behind.now (lit< tt) (cc) (cc) (cc)) c.loop-name.yielded _ c.loop-name.yielded_by _ _ c.in-Some.name c.in-Some.is c.next.ensures.steps in
    let t = turn c.args.behind.now c.loop-name.depth _ c.loop-name.start c.in-Some.name.now c.loop-name.invariant.count place c.loop-name.invariant.start c.loop-name.invariant.names in
    turn_stops _ _ _ _ _ c.requires t c.in-Err.ensures

pub overflow_add-start-in-loop-name : goal.overflow_add-start-in-loop-name
overflow_add-start-in-loop-name c =
    let place = YieldsList-turn (YieldsList-from_str_split 47 c.args.behind.now (lit< tt) (cc) (cc) (cc)) c.loop-name.yielded _ c.loop-name.yielded_by _ _ c.in-Some.name c.in-Some.is c.next.ensures.steps in
    let t = turn c.args.behind.now c.loop-name.depth _ c.loop-name.start c.in-Some.name.now c.loop-name.invariant.count place c.loop-name.invariant.start c.loop-name.invariant.names in
    omega (arith, turn_reaches _ _ _ _ t)

pub loop-name-preserved : goal.loop-name-preserved
loop-name-preserved c =
    let place = YieldsList-turn (YieldsList-from_str_split 47 c.args.behind.now (lit< tt) (cc) (cc) (cc)) c.loop-name.yielded _ c.loop-name.yielded_by _ _ c.in-Some.name c.in-Some.is c.next.ensures.steps in
    let t = turn c.args.behind.now c.loop-name.depth _ c.loop-name.start c.in-Some.name.now c.loop-name.invariant.count place c.loop-name.invariant.start c.loop-name.invariant.names in
    let p = turn_moves _ _ _ _ t c.in_default.ensures in
    record { count = omega (arith, length_push c.loop-name.yielded c.in-Some.name); start = p.0; names = p.1 }

pub returns : goal.returns
returns c =
    let ends = YieldsList-end (YieldsList-from_str_split 47 c.args.behind.now (lit< tt) (cc) (cc) (cc)) c.loop-name.yielded _ c.loop-name.yielded_by _ _ c.in-None.is c.next.ensures.steps in
    turns_end c.args.behind.now c.loop-name.depth _ c.loop-name.invariant.count ends.1 c.loop-name.invariant.names
