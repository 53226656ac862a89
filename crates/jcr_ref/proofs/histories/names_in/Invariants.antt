use Rattle.std.proofs.Common.{◌≡◌, ◌++◌, map}
use Rattle.jcr_ref.proofs.histories.names_in.Given as goal

-- the names so far, and those of what is left
abbrev pub invariant-loop-place : goal.invariant-loop-place
invariant-loop-place l = l.names.items ++ map (λ e. e.0.name) l.place-iterator ≡ map (λ e. e.0.name) l.fn.places
