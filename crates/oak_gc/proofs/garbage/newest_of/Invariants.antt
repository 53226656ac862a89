use Rattle.std.proofs.Common.{◌≡◌, ◌&&◌, ◌||◌}
use Rattle.std.specs.List.{list_any}
use Rattle.std.specs.Map.{keys_of}
use Rattle.jr_rev.specs.declared.revision.Revision.{Revision}
use Rattle.jr_rev.specs.Revisions.{is_before}
use Rattle.jr_rev.specs.Vectors.{sees}
use Rattle.oak_gc.specs.Newest.{is_older}
use Rattle.oak_gc.proofs.garbage.newest_of.Given as goal

-- what is older than the newest so far, or than one of those that are left, stays
abbrev pub invariant-loop-q : goal.invariant-loop-q
invariant-loop-q g l = (r : Revision)
    → (is_older r l.newest || list_any (λ q. is_before r q && sees l.bound.base q && sees l.bound.sweep q) (keys_of l.q-iterator))
    ≡ (is_older r l.initial.newest || list_any (λ q. is_before r q && sees l.bound.base q && sees l.bound.sweep q) (keys_of l.entries))
