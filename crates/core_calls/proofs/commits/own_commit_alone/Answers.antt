-- By the commits that the two vectors see.
use Rattle.jcr_law.specs.Lasting.{says_of, starts_of}
use Rattle.core_calls.proofs.Alone.{tree_next}
use Rattle.core_calls.proofs.commits.own_commit_alone.Goals as goal

pub returns : goal.returns
returns c = λ law h v r d is drawn made alone.
    tree_next (starts_of law) (says_of law) h.clusters h.sessions is.nodes h.begin h.past is.run v r d drawn alone made
