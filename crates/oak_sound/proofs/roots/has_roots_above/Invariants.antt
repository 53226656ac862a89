use Rattle.std.proofs.Common.{◌≡◌}
use Rattle.std.specs.Prelude.{nat_lt}
use Rattle.std.specs.List.{list_all}
use Rattle.oak_sound.proofs.roots.has_roots_above.Given as goal

-- what is left decides
abbrev pub invariant-loop-root : goal.invariant-loop-root
invariant-loop-root l =
    list_all (λ e. nat_lt e.1 l.depth) l.root-iterator
    ≡ list_all (λ e. nat_lt e.1 l.depth) l.document.commit_root
