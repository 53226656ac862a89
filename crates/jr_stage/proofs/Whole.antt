-- A script's run, put together from its entries, its last replies and its ends.
use Rattle.std.proofs.Common.{◌≡◌, ℕ, ◌+◌, ◌<◌, ◌≤◌, length, get_or, map, take, Bool, true, false, Some, Option, List, [], ◌∷◌, ◌++◌, refl, sym, ap, ◌∙◌, subst, arith}
use Rattle.std.specs.Prelude.{◌==◌, reverse, slice_get}
use Rattle.std.specs.Option.{option_map_or}
use Rattle.std.specs.List.{All, range_with_len}
use Rattle.std.proofs.lemmas.Bool.Decides.{nat_tests}
use Rattle.std.proofs.lemmas.List.{map-append, reverse-append, take_all, take_more}
use Rattle.std.proofs.lemmas.List.Elements.{All-get_or}
use Rattle.std.proofs.lemmas.Option.{slice_get_within}
use Rattle.oak_machine.specs.History.{History, Past}
use Rattle.oak_machine.specs.Asked.{AreAsked}
use Rattle.oak_machine.specs.Runs.{IsRun}
use Rattle.oak_machine.specs.Sessions.{has_left, next_index}
use Rattle.jcr_law.specs.declared.law.JcrLaw.{JcrLaw}
use Rattle.jcr_law.specs.Lasting.{says_of, starts_of}
use Rattle.jcr_law.specs.Makes.{asks_of}
use Rattle.core_heads.specs.Sound.{IsNodesRun}
use Rattle.core_obeys.specs.Answering.{AnswersThroughout, NameOthers}
use Rattle.core_obeys.specs.Obeying.{ObeysThroughout}
use Rattle.core_obeys.specs.Product.{IsProductRun}
use Rattle.jr_script.specs.Bounds.{IsWithin}
use Rattle.jr_script.specs.Schedules.{IsEntryWithin}
use Rattle.jr_script.specs.declared.script.Entry.{Entry}
use Rattle.jr_script.specs.declared.script.Script.{Script}
use Rattle.jcr_trans.specs.declared.command.SessionScript.{SessionScript}
use Rattle.oak_world.specs.Worlds.{Story, live}
use Rattle.jr_stage.specs.declared.stage.Stage.{Stage}
use Rattle.jr_stage.specs.Parts.{IsCut, Part, Rule, by_entry, events_of, to_end, to_reply}
use Rattle.jr_stage.specs.Places.{commands_of, flying_sessions, history_at, is_over}
use Rattle.jr_stage.specs.Runs.{AnswersScript, AreApart, HasRun}
use Rattle.jr_stage.specs.Schedules.{Scheduled, rules_of}
use Rattle.jr_stage.specs.SoFar.{IsCutSoFar}
use Rattle.jr_stage.specs.Stages.{HaveEnded, Closes, ClosesAll, IsFirstStage, IsStage, due_at, law_of, past_of}
use Rattle.jr_stage.proofs.Answering.{range_more, said_so_far}
use Rattle.jr_stage.proofs.Flying.{halves}
use Rattle.jr_stage.proofs.Looping.{has_left_over}
use Rattle.jr_stage.proofs.Reaching.{seats_stay}
use Rattle.jr_stage.proofs.Within.{within_nodes}

append_nil : {X : Type 0} (a : List X) → a ++ [] ≡ a
append_nil [] = refl
append_nil (x ∷ a) = ap (λ l. x ∷ l) (append_nil a)

append_assoc : {X : Type 0} (a b c : List X) → (a ++ b) ++ c ≡ a ++ (b ++ c)
append_assoc [] b c = refl
append_assoc (x ∷ a) b c = ap (λ l. x ∷ l) (append_assoc a b c)

equal : (a b : ℕ) → (a == b) ≡ true → a ≡ b
equal a b h = grind (arith, nat_tests)

-- ---- part after part

more_rules : (p : Part) (parts : List Part) → rules_of (p ∷ parts) ≡ rules_of parts ++ p.rule ∷ []
more_rules p parts = ap (map (λ (x : Part). x.rule)) (reverse-append (p ∷ []) parts) ∙ map-append (λ (x : Part). x.rule) (reverse parts) (p ∷ [])

pub all_begins : (stage : Stage) → IsStage stage → ClosesAll stage stage []
all_begins stage is = record { script = refl; stage = is; over = λ t h. h; closes = λ parts h. ([], refl, h) }

-- with one part more
pub all_more : (old mid new : Stage) (rules : List Rule) (rule : Rule) → ClosesAll old mid rules → Closes mid new rule → ClosesAll old new (rules ++ rule ∷ [])
all_more old mid new rules rule all one = record {
  script = one.script ∙ all.script;
  stage = one.stage;
  over = λ t h. subst (λ (x : Script). is_over x (past_of new) t ≡ true) all.script (one.over t (subst (λ (x : Script). is_over x (past_of mid) t ≡ true) (sym all.script) (all.over t h)));
  closes = λ parts h. with_one parts (all.closes parts h);
}
  where
    with_one : (parts : List Part) → (added : List Part) × (rules_of added ≡ rules) × IsCutSoFar old.script.value (due_at mid.world) (added ++ parts) [] (past_of mid)
        → (added : List Part) × (rules_of added ≡ rules ++ rule ∷ []) × IsCutSoFar old.script.value (due_at new.world) (added ++ parts) [] (past_of new)
    with_one parts (added, same, cut) = last (one.closes (added ++ parts) (subst (λ (x : Script). IsCutSoFar x (due_at mid.world) (added ++ parts) [] (past_of mid)) (sym all.script) cut))
      where
        last : (p : Part) × (p.rule ≡ rule) × IsCutSoFar mid.script.value (due_at new.world) (p ∷ (added ++ parts)) [] (past_of new)
            → (added : List Part) × (rules_of added ≡ rules ++ rule ∷ []) × IsCutSoFar old.script.value (due_at new.world) (added ++ parts) [] (past_of new)
        last (p, is, cut_now) = (
          p ∷ added,
          more_rules p added ∙ (ap (λ (l : List Rule). l ++ p.rule ∷ []) same ∙ ap (λ (r : Rule). rules ++ r ∷ []) is),
          subst (λ (x : Script). IsCutSoFar x (due_at new.world) (p ∷ (added ++ parts)) [] (past_of new)) all.script cut_now,
        )

-- the rules of one entry more
pub take_one_more : {X : Type 0} (f : X → Rule) (xs : List X) (i : ℕ) (d x : X) → i < length xs → x ≡ get_or xs i d → map f (take (i + 1) xs) ≡ map f (take i xs) ++ f x ∷ []
take_one_more f xs i d x below is = ap (map f) (take_more xs i d below ∙ ap (λ y. take i xs ++ y ∷ []) (sym is)) ∙ map-append f (take i xs) (x ∷ [])

pub range_one_more : (f : ℕ → Rule) (n : ℕ) → map f (range_with_len 0 (n + 1)) ≡ map f (range_with_len 0 n) ++ f n ∷ []
range_one_more f n = ap (map f) (range_more n) ∙ map-append f (range_with_len 0 n) (n ∷ [])

-- ---- the entries

module _ (first stage : Stage) (rules : List Rule) (all : ClosesAll first stage rules) where
  pub seats_still : IsStage first → length stage.seats.items ≡ length first.seats.items
  seats_still is = seats_stay first stage is all.stage all.script

  pub below_still : IsStage first → (s : ℕ) → s < length first.seats.items → s < length stage.seats.items
  below_still is s below = subst (λ (n : ℕ). s < n) (sym (seats_still is)) below

  pub schedule_still : IsStage first → stage.schedule ≡ first.schedule
  schedule_still is = all.stage.schedule ∙ (ap (λ (x : Script). x.schedule) all.script ∙ sym is.schedule)

  -- an entry is in the schedule still, and of a session with a seat
  pub entry_there : IsStage first → (i : ℕ) → i < length first.schedule → i < length stage.schedule
  entry_there is i below = subst (λ (l : List Entry). i < length l) (sym (schedule_still is)) below

  pub entry_within : IsStage first → (i : ℕ) (e : Entry) → i < length first.schedule → e ≡ get_or stage.schedule i e → IsEntryWithin (length stage.seats.items) e
  entry_within stage_is i e below is =
      subst (λ (n : ℕ). IsEntryWithin n e) (sym (all.stage.seats ∙ ap (λ (x : Script). length x.sessions) all.script))
      (subst (λ (x : Entry). IsEntryWithin (length first.script.value.sessions) x) (sym (is ∙ ap (λ (l : List Entry). get_or l i e) (all.stage.schedule ∙ ap (λ (x : Script). x.schedule) all.script)))
      (All-get_or (IsEntryWithin (length first.script.value.sessions)) first.script.value.schedule i e (subst (λ (l : List Entry). i < length l) stage_is.schedule below) stage_is.within.entries))

  pub listed_there : IsStage first → (xs : List ℕ) → All (λ s. s < length first.seats.items) xs → (i d s : ℕ) → i < length xs → s ≡ get_or xs i d → s < length stage.seats.items
  listed_there is xs there i d s below at =
      below_still is s (subst (λ (x : ℕ). x < length first.seats.items) (sym at) (All-get_or (λ x. x < length first.seats.items) xs i d below there))

pub played_more : (first stage new : Stage) → IsStage first → (i : ℕ) (d e : Entry) (xs : List Entry) → ClosesAll first stage (map by_entry (take i first.schedule)) → i < length first.schedule → xs ≡ stage.schedule → e ≡ get_or xs i d → Closes stage new (by_entry e) → ClosesAll first new (map by_entry (take (i + 1) first.schedule))
played_more first stage new stage_is i d e xs all below same is one =
    subst (λ (rules : List Rule). ClosesAll first new rules) (sym (take_one_more by_entry first.schedule i d e below (is ∙ ap (λ (l : List Entry). get_or l i d) (same ∙ schedule_still first stage (map by_entry (take i first.schedule)) all stage_is))))
    (all_more first stage new (map by_entry (take i first.schedule)) (by_entry e) all one)

pub replied_more : (first stage new : Stage) (xs : List ℕ) (i d s : ℕ) → ClosesAll first stage (map to_reply (take i xs)) → i < length xs → s ≡ get_or xs i d → Closes stage new (to_reply s) → ClosesAll first new (map to_reply (take (i + 1) xs))
replied_more first stage new xs i d s all below is one =
    subst (λ (rules : List Rule). ClosesAll first new rules) (sym (take_one_more to_reply xs i d s below is))
    (all_more first stage new (map to_reply (take i xs)) (to_reply s) all one)

pub finished_more : (first stage new : Stage) (s : ℕ) → ClosesAll first stage (map to_end (range_with_len 0 s)) → Closes stage new (to_end s) → ClosesAll first new (map to_end (range_with_len 0 (s + 1)))
finished_more first stage new s all one =
    subst (λ (rules : List Rule). ClosesAll first new rules) (sym (range_one_more to_end s))
    (all_more first stage new (map to_end (range_with_len 0 s)) (to_end s) all one)

-- all of a list
pub all_taken : {X : Type 0} (f : X → Rule) (first stage : Stage) (xs : List X) (i : ℕ) → length xs ≤ i → ClosesAll first stage (map f (take i xs)) → ClosesAll first stage (map f xs)
all_taken {X = X} f first stage xs i long all = subst (λ (l : List X). ClosesAll first stage (map f l)) (take_all i xs long) all

-- ---- who has ended

below_more : (t n : ℕ) → t < n + 1 → (t == n) ≡ false → t < n
below_more t n h apart = grind (arith, nat_tests)

pub over_none : (stage : Stage) → HaveEnded stage 0
over_none stage t below = absurd (none t below)
  where
    none : (t : ℕ) → t < 0 → ⊥
    none t h = omega arith

pub over_more : (old new : Stage) (n : ℕ) (rule : Rule) → Closes old new rule → HaveEnded old n → is_over new.script.value (past_of new) n ≡ true → HaveEnded new (n + 1)
over_more old new n rule one before ended t below = by (t == n) refl
  where
    by : (b : Bool) → (t == n) ≡ b → is_over new.script.value (past_of new) t ≡ true
    by true same = subst (λ (x : ℕ). is_over new.script.value (past_of new) x ≡ true) (sym (equal t n same)) ended
    by false apart = subst (λ (x : Script). is_over x (past_of new) t ≡ true) (sym one.script) (one.over t (before t (below_more t n below apart)))

-- ---- the run

-- a session that is over has answered each command
all_said : (script : Script) (past : Past) (s : ℕ) (session : SessionScript) → slice_get script.sessions s ≡ Some session → is_over script past s ≡ true → next_index past s ≡ length session.commands
all_said script past s session there over =
    equal (next_index past s) (length (commands_of script s)) (halves (next_index past s == length (commands_of script s)) (has_left past s) over).0
    ∙ ap (λ (o : Option SessionScript). length (option_map_or (λ x. x.commands) o [])) there

-- a world whose journal is a run by the law of the script, over its cluster nodes and sessions, each of which is over, answers the script
pub answers_all : (script : Script) (h : Story) → IsWithin script → (live h) ≡ history_at script h.past → IsRun (starts_of (law_of script)) (says_of (law_of script)) (live h) → AreAsked (asks_of (law_of script)) (live h) → AreApart h.past
    → ((s : ℕ) → s < length script.sessions → is_over script h.past s ≡ true)
    → ((law : JcrLaw) (h : History) → IsProductRun law h → ObeysThroughout law h)
    → ((law : JcrLaw) (h : History) → IsNodesRun (starts_of law) (says_of law) h → NameOthers h.past → AnswersThroughout law h)
    → AnswersScript script (live h)
answers_all script h within is run asked apart over obey answer = record {
  clusters = ap (λ (h : History). h.clusters) is;
  sessions = ap (λ (h : History). h.sessions) is;
  begin = refl;
  run = run;
  made = asked;
  answered = λ s session there. said_so_far h.clusters h.sessions (starts_of (law_of script)) (says_of (law_of script)) s h.past run ∙ ap (range_with_len 0) (all_said script h.past s session there (ended s session there));
  left = λ s session there. has_left_over script h.past s (ended s session there);
  apart = apart;
  obeys = obey (law_of script) (live h) product_run;
  reasons = answer (law_of script) (live h) (record { nodes = product_run.nodes; run = run }) (λ r item o is. (apart.causes r item o is).another);
}
  where
    ended : (s : ℕ) (session : SessionScript) → slice_get script.sessions s ≡ Some session → is_over script h.past s ≡ true
    ended s session there = over s (slice_get_within script.sessions s session there)

    -- the run is one of the product
    product_run : IsProductRun (law_of script) (live h)
    product_run = subst (λ (h : History). IsProductRun (law_of script) h) (sym is) (record {
      nodes = within_nodes script within;
      run = subst (λ (h : History). IsRun (starts_of (law_of script)) (says_of (law_of script)) h) is run;
      typed = within.types.typed;
    })

module _ (script : Script) (begun played replied finished : Stage) (flying : List ℕ)
    (begins : IsFirstStage script begun) (plays : ClosesAll begun played (map by_entry begun.schedule))
    (flies : flying ≡ flying_sessions (past_of played)) (replies : ClosesAll played replied (map to_reply flying))
    (finishes : ClosesAll replied finished (map to_end (range_with_len 0 (length replied.seats.items))))
    (over : HaveEnded finished (length replied.seats.items))
    (run : IsRun (starts_of finished.world.law) (says_of finished.world.law) (live finished.world.history)) (asked : AreAsked (asks_of finished.world.law) (live finished.world.history)) (apart : AreApart finished.world.history.past)
    (obey : (law : JcrLaw) (h : History) → IsProductRun law h → ObeysThroughout law h)
    (answer : (law : JcrLaw) (h : History) → IsNodesRun (starts_of law) (says_of law) h → NameOthers h.past → AnswersThroughout law h) where
  script_played : played.script.value ≡ script
  script_played = plays.script ∙ begins.script_is

  script_replied : replied.script.value ≡ script
  script_replied = replies.script ∙ script_played

  script_finished : finished.script.value ≡ script
  script_finished = finishes.script ∙ script_replied

  law_is : finished.world.law ≡ law_of script
  law_is = finishes.stage.law ∙ ap law_of script_finished

  history_is : (live finished.world.history) ≡ history_at script (past_of finished)
  history_is = finishes.stage.history ∙ ap (λ (x : Script). history_at x (past_of finished)) script_finished

  seats_are : length replied.seats.items ≡ length script.sessions
  seats_are = replies.stage.seats ∙ ap (λ (x : Script). length x.sessions) script_replied

  run_is : IsRun (starts_of (law_of script)) (says_of (law_of script)) (live finished.world.history)
  run_is = subst (λ (l : JcrLaw). IsRun (starts_of l) (says_of l) (live finished.world.history)) law_is run

  asked_is : AreAsked (asks_of (law_of script)) (live finished.world.history)
  asked_is = subst (λ (l : JcrLaw). AreAsked (asks_of l) (live finished.world.history)) law_is asked

  -- before any turn nothing is cut
  first_cut : IsCutSoFar begun.script.value (due_at begun.world) [] [] (past_of begun)
  first_cut = record { whole = begins.first; cut = tt; quiet = tt }

  played_parts : (added : List Part) × (rules_of added ≡ map by_entry script.schedule) × IsCutSoFar script (due_at played.world) added [] (past_of played)
  played_parts = by (plays.closes [] first_cut)
    where
      by : (added : List Part) × (rules_of added ≡ map by_entry begun.schedule) × IsCutSoFar begun.script.value (due_at played.world) (added ++ []) [] (past_of played)
          → (added : List Part) × (rules_of added ≡ map by_entry script.schedule) × IsCutSoFar script (due_at played.world) added [] (past_of played)
      by (added, rules, cut) = (
        added,
        rules ∙ (ap (map by_entry) begins.stage_is.schedule ∙ ap (λ (x : Script). map by_entry x.schedule) begins.script_is),
        subst (λ (l : List Part). IsCutSoFar script (due_at played.world) l [] (past_of played)) (append_nil added) (subst (λ (x : Script). IsCutSoFar x (due_at played.world) (added ++ []) [] (past_of played)) begins.script_is cut),
      )

  replied_parts : (parts : List Part) → IsCutSoFar script (due_at played.world) parts [] (past_of played) → (added : List Part) × (rules_of added ≡ map to_reply flying) × IsCutSoFar script (due_at replied.world) (added ++ parts) [] (past_of replied)
  replied_parts parts cut = subst (λ (x : Script). (added : List Part) × (rules_of added ≡ map to_reply flying) × IsCutSoFar x (due_at replied.world) (added ++ parts) [] (past_of replied)) script_played
      (replies.closes parts (subst (λ (x : Script). IsCutSoFar x (due_at played.world) parts [] (past_of played)) (sym script_played) cut))

  finished_parts : (parts : List Part) → IsCutSoFar script (due_at replied.world) parts [] (past_of replied) → (added : List Part) × (rules_of added ≡ map to_end (range_with_len 0 (length script.sessions))) × IsCutSoFar script (due_at finished.world) (added ++ parts) [] (past_of finished)
  finished_parts parts cut = subst (λ (n : ℕ). (added : List Part) × (rules_of added ≡ map to_end (range_with_len 0 n)) × IsCutSoFar script (due_at finished.world) (added ++ parts) [] (past_of finished)) seats_are
      (subst (λ (x : Script). (added : List Part) × (rules_of added ≡ map to_end (range_with_len 0 (length replied.seats.items))) × IsCutSoFar x (due_at finished.world) (added ++ parts) [] (past_of finished)) script_replied
      (finishes.closes parts (subst (λ (x : Script). IsCutSoFar x (due_at replied.world) parts [] (past_of replied)) (sym script_replied) cut)))

  scheduled : Scheduled script (live finished.world.history)
  scheduled = by_played played_parts
    where
      by_finished : (entries answers ends : List Part) → rules_of entries ≡ map by_entry script.schedule → past_of played ≡ events_of entries → rules_of answers ≡ map to_reply flying
          → rules_of ends ≡ map to_end (range_with_len 0 (length script.sessions)) → IsCutSoFar script (due_at finished.world) (ends ++ (answers ++ entries)) [] (past_of finished) → Scheduled script (live finished.world.history)
      by_finished entries answers ends first events second third cut = record {
        scheduled = entries;
        replied = answers;
        closed = ends;
        whole = ap events_of (append_assoc ends answers entries) ∙ sym cut.whole;
        cut = subst (λ (l : List Part). IsCut script l []) (sym (append_assoc ends answers entries)) cut.cut;
        entries = first;
        commits = second ∙ ap (map to_reply) (flies ∙ ap flying_sessions events);
        sessions = third;
      }

      by_replied : (entries answers : List Part) → rules_of entries ≡ map by_entry script.schedule → past_of played ≡ events_of entries → rules_of answers ≡ map to_reply flying
          → (added : List Part) × (rules_of added ≡ map to_end (range_with_len 0 (length script.sessions))) × IsCutSoFar script (due_at finished.world) (added ++ (answers ++ entries)) [] (past_of finished) → Scheduled script (live finished.world.history)
      by_replied entries answers first events second (ends, third, cut) = by_finished entries answers ends first events second third cut

      by_parts : (entries : List Part) → rules_of entries ≡ map by_entry script.schedule → past_of played ≡ events_of entries
          → (added : List Part) × (rules_of added ≡ map to_reply flying) × IsCutSoFar script (due_at replied.world) (added ++ entries) [] (past_of replied) → Scheduled script (live finished.world.history)
      by_parts entries first events (answers, second, cut) = by_replied entries answers first events second (finished_parts (answers ++ entries) cut)

      by_played : (added : List Part) × (rules_of added ≡ map by_entry script.schedule) × IsCutSoFar script (due_at played.world) added [] (past_of played) → Scheduled script (live finished.world.history)
      by_played (entries, first, cut) = by_parts entries first cut.whole (replied_parts entries cut)

  within : IsWithin script
  within = subst (λ (x : Script). IsWithin x) script_finished finishes.stage.within

  -- the script was run to its end
  pub ran : HasRun script finished.world
  ran = record {
    law = law_is;
    follows = record {
      answers = answers_all script finished.world.history within history_is run_is asked_is apart
          (λ s below. subst (λ (x : Script). is_over x (past_of finished) s ≡ true) script_finished (over s (subst (λ (n : ℕ). s < n) (sym seats_are) below)))
          obey answer;
      scheduled = scheduled;
    };
  }
