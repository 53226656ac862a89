use Rattle.std.proofs.Common.{◌∙◌, length}
use Rattle.cnd_pieces.proofs.Gaps.{begun_on, gap_on, left_on}
use Rattle.cnd_pieces.proofs.scan.gap_size.Goals as goal

pub loop-rest-preserved : goal.loop-rest-preserved
loop-rest-preserved c =
    record {
      size = gap_on c.loop-rest.gap c.in-Some.next c.loop-rest.size c.loop-rest.rest.now c.in-len1-up.len_at_least c.in-Some.ensures ∙ c.loop-rest.invariant.size;
      left = left_on c.loop-rest.size (length c.args.bytes.now) c.loop-rest.rest.now c.in-len1-up.len_at_least c.loop-rest.invariant.left;
      begun = begun_on c.loop-rest.gap c.in-Some.next c.loop-rest.size _ _ c.loop-rest.invariant.begun c.in-Some.ensures;
    }
