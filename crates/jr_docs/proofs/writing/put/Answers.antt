use Rattle.std.proofs.Common.{refl}
use Rattle.jr_docs.proofs.Puts.{put_at_bytes}
use Rattle.jr_docs.proofs.writing.put.Goals as goal

pub returns : goal.returns
returns c = put_at_bytes _ _ _ _ _ _ c.in_ok-insert.ensures.entries c.in_ok-name.ensures.ok refl
