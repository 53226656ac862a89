-- By the draws of a run, of which each is fresh.
use Rattle.jcr_law.specs.Lasting.{draw_held, says_of, starts_of}
use Rattle.core_heads.proofs.Runs.{earlier_run}
use Rattle.core_heads.proofs.Stays.{held_tree_stays}
use Rattle.core_calls.proofs.Draws.{draw_known, drawn_is}
use Rattle.core_calls.proofs.Unmoved.{drawn_where_begun}
use Rattle.core_calls.proofs.commits.draws_are_known.Goals as goal

pub returns-clause-revision : goal.returns-clause-revision
returns-clause-revision c = drawn_is

pub returns-clause-session : goal.returns-clause-session
returns-clause-session c = λ law h s d is draw.
    (draw_known (starts_of law) (says_of law) h.clusters h.sessions is.nodes h.begin s d h.past is.run draw).0

pub returns-clause-known : goal.returns-clause-known
returns-clause-known c = λ law h s d is draw.
    (draw_known (starts_of law) (says_of law) h.clusters h.sessions is.nodes h.begin s d h.past is.run draw).1

pub returns-clause-begun : goal.returns-clause-begun
returns-clause-begun c = λ law h s d run draw. drawn_where_begun law h.clusters h.sessions h.begin s d h.past run draw

pub returns-clause-tree : goal.returns-clause-tree
returns-clause-tree c = λ law h added s d is draw.
    let before = earlier_run h.clusters h.sessions is.nodes h.begin (starts_of law) (says_of law) added h.past is.run in
    held_tree_stays h.clusters h.sessions is.nodes h.begin (starts_of law) (says_of law) added h.past is.run d.base
    (draw_held h.clusters h.sessions is.nodes h.begin (starts_of law) (says_of law) s h.past d before draw)
