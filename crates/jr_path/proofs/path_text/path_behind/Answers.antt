use Rattle.std.proofs.Common.{lit<}
use Rattle.std.proofs.lemmas.Iterator.Consumers.{YieldsList-turn, YieldsList-end}
use Rattle.std.proofs.lemmas.Iterator.Splits.{YieldsList-from_str_split}
use Rattle.std.proofs.lemmas.List.{length_push}
use Rattle.jr_path.proofs.Pieces.{all_pieces, one_more_piece, piece_is_name}
use Rattle.jr_path.proofs.path_text.path_behind.Goals as goal

pub of-requires : goal.of-requires
of-requires c =
    let place = YieldsList-turn (YieldsList-from_str_split 47 c.args.behind.now (lit< tt) (cc) (cc) (cc)) c.loop-name.yielded _ c.loop-name.yielded_by _ _ c.in-Some.name c.in-Some.is c.next.ensures.steps in
    piece_is_name c.args.behind.now _ _ c.requires.more c.requires.path place

pub loop-name-preserved : goal.loop-name-preserved
loop-name-preserved c =
    let place = YieldsList-turn (YieldsList-from_str_split 47 c.args.behind.now (lit< tt) (cc) (cc) (cc)) c.loop-name.yielded _ c.loop-name.yielded_by _ _ c.in-Some.name c.in-Some.is c.next.ensures.steps in
    one_more_piece c.args.behind.now _ _ _ _ _ _ (length_push c.loop-name.yielded c.in-Some.name) c.loop-name.invariant c.in_ok-push.ensures.ok c.in_ok-of.ensures place

pub returns : goal.returns
returns c =
    let ends = YieldsList-end (YieldsList-from_str_split 47 c.args.behind.now (lit< tt) (cc) (cc) (cc)) c.loop-name.yielded _ c.loop-name.yielded_by _ _ c.in-None.is c.next.ensures.steps in
    all_pieces c.args.behind.now _ _ c.requires.more c.requires.path ends.1 c.loop-name.invariant
