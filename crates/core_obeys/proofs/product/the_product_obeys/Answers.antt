-- By the theorems on runs by a law that lets only plans start.
use Rattle.jcr_law.specs.declared.law.JcrLaw.{JcrLaw}
use Rattle.jcr_law.specs.Lasting.{says_of, starts_of}
use Rattle.jcr_law.specs.Starting.{proper_starts, starts_plan}
use Rattle.core_heads.proofs.Runs.{closed_run, sound_run}
use Rattle.core_merge.proofs.Merged.{tree_merged}
use Rattle.core_merge.proofs.Order.{tree_in_order}
use Rattle.core_merge.specs.Independent.{StartsMarkingParents}
use Rattle.core_obeys.specs.Plans.{StartsPlans}
use Rattle.core_obeys.specs.Product.{tokens_by}
use Rattle.core_obeys.proofs.Obeys.{commit_free, references_kept, types_obeyed, types_seen}
use Rattle.core_obeys.proofs.Runs.{plans_mark_parents}
use Rattle.core_obeys.proofs.product.the_product_obeys.Goals as goal

plans : (law : JcrLaw) → StartsPlans law.types (tokens_by law) (starts_of law)
plans law = starts_plan law

marking : (law : JcrLaw) → StartsMarkingParents (starts_of law)
marking law = plans_mark_parents law.types (tokens_by law) (starts_of law) (plans law)

pub returns-clause-trees : goal.returns-clause-trees
returns-clause-trees c = λ law h m.
    tree_in_order h.clusters h.sessions m.nodes h.begin (starts_of law) (says_of law) (proper_starts law) (marking law) h.past m.run

pub returns-clause-types : goal.returns-clause-types
returns-clause-types c = λ law h m.
    types_obeyed h.clusters h.sessions m.nodes h.begin (starts_of law) (says_of law) (proper_starts law) law.types (tokens_by law) (plans law) m.typed h.past m.run

pub returns-clause-bases : goal.returns-clause-bases
returns-clause-bases c = λ law h s v m is.
    let held = (sound_run h.clusters h.sessions m.nodes h.begin (starts_of law) (says_of law) h.past m.run).bases s v is in
    types_seen h.clusters h.sessions m.nodes h.begin (starts_of law) (says_of law) (proper_starts law) law.types (tokens_by law) (plans law) m.typed h.past m.run v
    (closed_run h.clusters h.sessions m.nodes h.begin (starts_of law) (says_of law) h.past m.run v held)

pub returns-clause-bases_are_trees : goal.returns-clause-bases_are_trees
returns-clause-bases_are_trees c = λ begin law clusters sessions nodes past run s v is.
    let held = (sound_run clusters sessions nodes begin (starts_of law) (says_of law) past run).bases s v is in
    tree_merged clusters sessions nodes begin (starts_of law) (says_of law) (proper_starts law) (marking law) past run v
    (closed_run clusters sessions nodes begin (starts_of law) (says_of law) past run v held)

pub returns-clause-bases_are_typed : goal.returns-clause-bases_are_typed
returns-clause-bases_are_typed c = λ begin law clusters sessions nodes begun past run s v is.
    let held = (sound_run clusters sessions nodes begin (starts_of law) (says_of law) past run).bases s v is in
    types_seen clusters sessions nodes begin (starts_of law) (says_of law) (proper_starts law) law.types (tokens_by law) (plans law) begun past run v
    (closed_run clusters sessions nodes begin (starts_of law) (says_of law) past run v held)

pub returns-clause-free : goal.returns-clause-free
returns-clause-free c = λ law h r d m drawn may.
    commit_free h.clusters h.sessions m.nodes h.begin (starts_of law) (says_of law) (proper_starts law) law.types (tokens_by law) (plans law) h.past m.run r d drawn may

pub returns-clause-references : goal.returns-clause-references
returns-clause-references c = λ law h m tidy.
    references_kept h.clusters h.sessions m.nodes h.begin (starts_of law) (says_of law) (proper_starts law) law.types (tokens_by law) (plans law) h.past m.run tidy
