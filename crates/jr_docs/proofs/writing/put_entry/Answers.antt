use Rattle.jr_docs.proofs.Puts.{put_at_bytes}
use Rattle.jr_docs.proofs.writing.put_entry.Goals as goal

pub returns : goal.returns
returns g c = put_at_bytes _ _ _ _ _ _ c.in_ok-insert.ensures.entries c.in_ok-name.ensures c.in_ok-json.ensures
