-- A script that was run to its end.
use Rattle.std.specs.Prelude.{◌≡◌, ◌⊎◌, IsTrue, ℕ, cond, ◌==◌, List, Option, None, Some, length}
use Rattle.std.specs.Prelude.{map, reverse, slice_get}
use Rattle.std.specs.List.{filter_map, range_with_len}
use Rattle.jr_path.specs.declared.path.Item.{Item}
use Rattle.jr_rev.specs.declared.revision.Revision.{Revision}
use Rattle.jr_script.specs.declared.script.Script.{Script}
use Rattle.jcr_trans.specs.declared.command.SessionScript.{SessionScript}
use Rattle.oak_machine.specs.declared.event.Event.{Event}
use Rattle.oak_machine.specs.declared.event.Event.TheVariants as event
use Rattle.oak_machine.specs.History.{History, Past}
use Rattle.oak_machine.specs.Asked.{AreAsked}
use Rattle.oak_machine.specs.Commits.{are_clashing, is_committed, is_ended, is_in_base, refusal_of}
use Rattle.oak_machine.specs.Runs.{IsRun}
use Rattle.oak_machine.specs.Sessions.{has_left}
use Rattle.core_clash.specs.Sound.{Cause}
use Rattle.core_obeys.specs.Answering.{AnswersThroughout}
use Rattle.core_obeys.specs.Obeying.{ObeysThroughout}
use Rattle.core_clash.specs.Unclashing.{IsUnclashing}
use Rattle.oak_world.specs.Clashes.{Wanted}
use Rattle.oak_world.specs.Worlds.{WorldOf, live}
use Rattle.jcr_law.specs.declared.law.JcrLaw.{JcrLaw}
use Rattle.jcr_law.specs.Lasting.{says_of, starts_of}
use Rattle.jcr_law.specs.Makes.{asks_of}
use Rattle.jr_stage.specs.Schedules.{Scheduled}
use Rattle.jr_stage.specs.Stages.{law_of}

-- the index of a reply of session s
abbrev pub index_said : ℕ → Event → Option ℕ
index_said s (event.Said t i text) = cond (t == s) (Some i) None
index_said s _ = None

-- the indexes of the replies of session s, in the order in which they were said
abbrev pub indexes_said : History → ℕ → List ℕ
indexes_said h s = filter_map (index_said s) (reverse h.past)

-- of two commits that are made and clash, the base of one sees the other; a refusal names its
-- cause, another's commit outside the base; and what has ended and clashes with no other draw
-- outside its base is committed, or memory was refused to it
pub record AreApart (past : Past) : Type 0 where
  pub seen : (r o : Revision) → (r ≡ o → ⊥) → IsTrue (is_committed past r)
      → IsTrue (is_committed past o) → IsTrue (are_clashing past r o)
      → IsTrue (is_in_base past r o) ⊎ IsTrue (is_in_base past o r)
  pub causes : (r : Revision) (item : Item) (o : Revision) → refusal_of past r ≡ Some (item, o)
      → Cause past r item o
  pub complete : (r : Revision) → IsTrue (is_ended past r) → IsUnclashing past r
      → IsTrue (is_committed past r) ⊎ Wanted past r

-- the history is a run of the machine by the law of the script, over its cluster nodes and its
-- sessions and from no tree before it; each event is one for which the command asks that its
-- session hasn't answered yet; each command of a session is answered once, in order, and at the end
-- the session has left; its commits are apart; at each time it obeyed the types, the locks and the
-- references; and each reply had its reason
pub record AnswersScript (script : Script) (h : History) : Type 0 where
  pub clusters : h.clusters ≡ script.clusters
  pub sessions : h.sessions ≡ map (λ s. s.cluster) script.sessions
  pub begin : h.begin ≡ None
  pub run : IsRun (starts_of (law_of script)) (says_of (law_of script)) h
  pub made : AreAsked (asks_of (law_of script)) h
  pub answered : (s : ℕ) (session : SessionScript) → slice_get script.sessions s ≡ Some session
      → indexes_said h s ≡ range_with_len 0 (length session.commands)
  pub left : (s : ℕ) (session : SessionScript) → slice_get script.sessions s ≡ Some session
      → IsTrue (has_left h.past s)
  pub apart : AreApart h.past
  pub obeys : ObeysThroughout (law_of script) h
  pub reasons : AnswersThroughout (law_of script) h

-- the history answers the script, and the script's schedule cuts it
pub record FollowsScript (script : Script) (h : History) : Type 0 where
  pub answers : AnswersScript script h
  pub scheduled : Scheduled script h

-- the script was run to its end by its schedule: the world is of its law, and what its journal
-- tells follows the script
pub record HasRun (script : Script) (w : WorldOf JcrLaw) : Type 0 where
  pub law : w.law ≡ law_of script
  pub follows : FollowsScript script (live w.history)
