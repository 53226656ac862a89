use Rattle.std.proofs.Common.{Bool, subst, sym}
use Rattle.jr_known.specs.Follows.{FollowsEdit}
use Rattle.jr_known.proofs.Following.{follows_known}
use Rattle.jr_known.proofs.held_part.HeldPart.follow_if_memory.Goals as goal

pub returns : goal.returns
returns c =
    subst (λ (b : Bool). FollowsEdit c.args.self.now c.follow_or_forget.new.self c.args.by c.args.edit.now.writes b) (sym c.is_known_still.ensures)
    (follows_known c.args.self.now c.follow_or_forget.new.self c.args.by c.args.edit.now.writes c.follow_or_forget.result c.follow_or_forget.ensures)
