-- Which events show a text as the reply of a command.
use Rattle.std.specs.Prelude.{ℕ, Bool, false, ◌&&◌, ◌==◌, List, bytes_eq}
use Rattle.std.specs.Cmp.Lexicographic.{pointwise}
use Rattle.std.specs.Option.{option_eq}
use Rattle.std.specs.Ordering.{eq_by_cmp}
use Rattle.jr_path.specs.Names.{path_cmp}
use Rattle.jr_path.specs.declared.path.Path.{Path}
use Rattle.jr_path.specs.Lists.{Text}
use Rattle.jr_rev.specs.declared.revision.Revision.{Revision}
use Rattle.jr_rev.specs.declared.vector.RevVec.{RevVec}
use Rattle.jr_rev.specs.Revisions.{is_at_most}
use Rattle.jr_tree.specs.declared.shared.Refusal.{Refusal}
use Rattle.oak_machine.specs.declared.event.Event.{Event}
use Rattle.oak_machine.specs.declared.event.Event.TheVariants as event
use Rattle.oak_machine.specs.History.{Begin, Past}
use Rattle.oak_machine.specs.Sessions.{is_recovered, is_text}
use Rattle.jcr_trans.specs.Answers.{Answer, ShowsRevision, ShowsVector}
use Rattle.jcr_trans.specs.Texts.{answer_text, ok_text}
use Rattle.jcr_law.specs.Law.{no_text}
use Rattle.jcr_law.specs.Tasks.{collected_data, knows_published, split_data}

-- the text is that of an answer
abbrev pub is_answer : List ℕ → Answer → Bool
is_answer text a = bytes_eq text (answer_text a)

-- the text refuses so
abbrev pub is_refusal : List ℕ → Refusal → Bool
is_refusal text r = bytes_eq text (no_text r)

-- cluster node k published up to a revision that is at least that one, and is shown
abbrev pub shows_out : (k : ℕ) → Revision → List ℕ → Event → Bool
shows_out k least text (event.Out m r) =
    m == k && (is_at_most least r && is_answer text (ShowsRevision r))
shows_out k least text _ = false

-- cluster node k swept up to a revision that is at least that one, and is shown
abbrev pub shows_sweep : (k : ℕ) → Revision → List ℕ → Event → Bool
shows_sweep k least text (event.Sweep m r) =
    m == k && (is_at_most least r && is_answer text (ShowsRevision r))
shows_sweep k least text _ = false

-- cluster node k was recovered before, and published up to a revision that is shown
abbrev pub shows_recovery : (k : ℕ) → List ℕ → Past → Event → Bool
shows_recovery k text earlier (event.Out m r) =
    m == k && (is_recovered earlier m && is_answer text (ShowsRevision r))
shows_recovery k text earlier _ = false

-- cluster node k learned a vector that is shown, with what the others had published at an earlier
-- past
abbrev pub shows_in : (clusters : ℕ) → Begin → Past → (k : ℕ) → List ℕ → Event → Bool
shows_in clusters begin before k text (event.In m v) =
    m == k && (knows_published clusters begin before k v && is_answer text (ShowsVector v))
shows_in clusters begin before k text _ = false

-- a split that s asked for at the path ended as it is shown
abbrev pub shows_split : (s : ℕ) → Path → List ℕ → Event → Bool
shows_split s p text (event.Split t q e) =
    t == s && (eq_by_cmp path_cmp q p && bytes_eq text (ok_text (split_data e)))
shows_split s p text _ = false

-- a collection that s asked for did what is shown
abbrev pub shows_collection : (s : ℕ) → List ℕ → Event → Bool
shows_collection s text (event.Collected t x) =
    t == s && bytes_eq text (ok_text (collected_data x))
shows_collection s text _ = false

-- s is attached to the checkpoint of an id
abbrev pub attaches : (s : ℕ) → Text → Event → Bool
attaches s id (event.Attach t other) = t == s && is_text other id
attaches s id _ = false

-- the checkpoint of an id is released
abbrev pub releases : Text → Event → Bool
releases id (event.Release other) = is_text other id
releases id _ = false

-- two revisions are the same
abbrev pub same_revision : Revision → Revision → Bool
same_revision a b = a.time == b.time && (a.counter == b.counter && a.cluster == b.cluster)

-- two vectors are the same entry by entry
abbrev pub same_vector : RevVec → RevVec → Bool
same_vector = pointwise (option_eq same_revision)

-- a checkpoint of an id is made at a vector
abbrev pub keeps : Text → RevVec → Event → Bool
keeps id v (event.Checkpoint other w) = is_text other id && same_vector w v
keeps id v _ = false
