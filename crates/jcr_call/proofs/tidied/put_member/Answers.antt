use Rattle.std.proofs.Common.{refl}
use Rattle.jcr_trans.proofs.Members.{put_at_bytes}
use Rattle.jcr_call.proofs.tidied.put_member.Goals as goal

pub returns : goal.returns
returns c = put_at_bytes _ _ _ _ _ _ c.in_ok-insert.ensures.entries c.in_ok-from_str.ensures.ok refl
