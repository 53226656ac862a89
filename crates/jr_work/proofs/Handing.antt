-- The first pass of the world of a script, and what a worker's pass knows when it is handed out.
use Rattle.std.proofs.Common.{◌≡◌, ℕ, zero, suc, ◌+◌, ◌-◌, ◌<◌, ◌≤◌, ◌%◌, true, false, cond, ◌&&◌, Some, None, Option, List, [], ◌∷◌, length, map, nat_lt, reverse, refl, sym, ap, ◌∙◌, subst, arith}
use Rattle.std.specs.Prelude.{◌==◌, slice_get}
use Rattle.std.specs.Option.{option_map_or}
use Rattle.std.proofs.lemmas.Bool.Decides.{nat_tests}
use Rattle.std.proofs.lemmas.List.{length-map}
use Rattle.oak_machine.specs.declared.event.Event.{Event}
use Rattle.oak_machine.specs.Laws.{Says, Starts}
use Rattle.oak_machine.specs.Runs.{IsRun}
use Rattle.oak_step.specs.declared.work.Work.TheVariants as work
use Rattle.oak_world.specs.Ends.{MayTell}
use Rattle.oak_world.specs.Worlds.{ActorState, WorldOf, idle, live, start_world, work_in}
use Rattle.jcr_law.specs.declared.law.JcrLaw.{JcrLaw}
use Rattle.jcr_law.specs.Lasting.{says_of, starts_of}
use Rattle.jcr_trans.specs.declared.command.SessionScript.{SessionScript}
use Rattle.jr_script.specs.declared.script.Script.{Script}
use Rattle.jr_shared.specs.declared.locked.WorldFrame.{WorldFrame}
use Rattle.jr_shared.specs.Holds.{IsTold, PassKnown, first_known, owned_by}
use Rattle.jr_shared.specs.Seen.{history_by}
use Rattle.jr_shared.proofs.Handing.{first_owns, first_told}
use Rattle.seat_lock.specs.Views.{handed, is_one_of, kept_back}
use Rattle.jr_stage.specs.Places.{history_at}
use Rattle.jr_stage.specs.Stages.{law_of}
use Rattle.jr_work.specs.Workers.{HasHandedOut, HasNotBegun, IsHandedOut, KnowsScript, frame_for}
use Rattle.jr_work.proofs.Naming.{AreNamed}

-- ---- what a pass has seen

-- a pass that has seen nothing has seen a run
pub run_unseen : (starts : Starts) (says : Says) (v : PassKnown JcrLaw) → v.seen ≡ [] → IsRun starts says (history_by v)
run_unseen starts says v unseen = subst (λ (xs : List Event). IsRun starts says (record (history_by v) { past = reverse xs })) (sym unseen) tt

-- what a pass has seen is a history of the script
pub history_known : (script : Script) (v : PassKnown JcrLaw) → v.frame ≡ Some (frame_for script) → history_by v ≡ history_at script (reverse v.seen)
history_known script v frame = ap (λ (o : Option (WorldFrame JcrLaw)). record { clusters = option_map_or (λ f. f.clusters) o 0; sessions = option_map_or (λ f. f.sessions) o []; begin = None; past = reverse v.seen }) frame

-- ---- before any step

module _ (script : Script) where
  abbrev start : WorldOf JcrLaw
  start = start_world (law_of script) script.clusters (map (λ s. s.cluster) script.sessions)

  idle_there : (xs : List ℕ) (s : ℕ) → s < length xs → slice_get (map (λ (k : ℕ). idle) xs) s ≡ Some idle
  idle_there [] s below = absurd (omega arith)
  idle_there (x ∷ xs) zero below = refl
  idle_there (x ∷ xs) (suc s) below = idle_there xs s (omega arith)

  not_begun : (s : ℕ) → s < length script.sessions → HasNotBegun (first_known start) s
  not_begun s below =
      let long = length-map script.sessions (λ (x : SessionScript). x.cluster) in
      let there : s < length (map (λ (x : SessionScript). x.cluster) script.sessions) = omega (arith, long, below) in
      first_owns start s there ∙ ap (λ (o : Option ActorState). Some (record { seat = o; events = [] })) (idle_there (map (λ (x : SessionScript). x.cluster) script.sessions) s there)

  -- no session does anything, so nothing is to be told of one
  all_rest : (xs : List ℕ) (s : ℕ) → work_in (map (λ (k : ℕ). idle) xs) s ≡ work.Rest
  all_rest [] s = refl
  all_rest (x ∷ xs) zero = refl
  all_rest (x ∷ xs) (suc s) = all_rest xs s

  none_told : (s : ℕ) (e : Event) → work_in start.actors s ≡ work.Told e → MayTell (live start.history) s e
  none_told s e at = let never : work.Rest ≡ work.Told e = sym (all_rest (map (λ (x : SessionScript). x.cluster) script.sessions) s) ∙ at in absurd (cc)

  first_out : (workers : ℕ) → HasHandedOut script workers 0 (first_known start)
  first_out workers = record {
    knows = record { rest = refl; frame = refl; told = first_told start none_told; run = tt };
    unseen = refl;
    weight = refl;
    left = λ s below any. not_begun s below;
  }

  -- the first pass of the world before any step has handed out nothing
  pub begins_out : (world : WorldOf JcrLaw) (law : JcrLaw) (nodes : List ℕ) (v : PassKnown JcrLaw) → law ≡ law_of script → nodes ≡ map (λ (s : SessionScript). s.cluster) script.sessions → world ≡ start_world law script.clusters nodes → v ≡ first_known world → (workers : ℕ) → HasHandedOut script workers 0 v
  begins_out world law nodes v law_is nodes_are world_is is workers =
      let same : world ≡ start = world_is ∙ (ap (λ (l : JcrLaw). start_world l script.clusters nodes) law_is ∙ ap (start_world (law_of script) script.clusters) nodes_are) in
      subst (λ (x : PassKnown JcrLaw). HasHandedOut script workers 0 x) (sym (is ∙ ap first_known same)) (first_out workers)

-- ---- a pass for a worker

equal : (a b : ℕ) → (a == b) ≡ true → a ≡ b
equal a b h = grind (arith, nat_tests)

alike : (a b : ℕ) → a ≡ b → (a == b) ≡ true
alike a b h = grind (arith, nat_tests)

apart : (a b : ℕ) → b + 1 ≤ a → (a == b) ≡ false
apart a b h = grind (arith, nat_tests)

within : (s n : ℕ) → s < n → nat_lt s n ≡ true
within s n h = grind (arith, nat_tests)

module _ (script : Script) (workers worker : ℕ) (v w : PassKnown JcrLaw) (names : List ℕ) (out : HasHandedOut script workers worker v) (named : AreNamed (λ s. s % workers == worker) (length script.sessions) names) (told : IsTold w) where
  -- the worker's own sessions are named, and those of later workers aren't
  own_named : (s : ℕ) → s < length script.sessions → s % workers ≡ worker → is_one_of names s ≡ true
  own_named s below own = named s ∙ (ap (λ b. b && (s % workers == worker)) (within s (length script.sessions) below) ∙ alike (s % workers) worker own)

  later_unnamed : (s : ℕ) → s < length script.sessions → worker + 1 ≤ s % workers → is_one_of names s ≡ false
  later_unnamed s below later = named s ∙ (ap (λ b. b && (s % workers == worker)) (within s (length script.sessions) below) ∙ apart (s % workers) worker later)

  knows_still : w.round ≡ v.round → w.frame ≡ v.frame → w.seen ≡ v.seen → KnowsScript script w
  knows_still round frame seen = record { rest = round ∙ out.knows.rest; frame = frame ∙ out.knows.frame; told = told; run = run_unseen (starts_of (law_of script)) (says_of (law_of script)) w (seen ∙ out.unseen) }

  -- the pass that is handed out
  pub ready_by : w ≡ handed names v → ((s : ℕ) → owned_by w s ≡ cond (is_one_of names s) (owned_by v s) None) → IsHandedOut script workers worker w
  ready_by is owns = record {
    knows = knows_still (ap (λ (x : PassKnown JcrLaw). x.round) is ∙ sym out.knows.rest) (ap (λ (x : PassKnown JcrLaw). x.frame) is) (ap (λ (x : PassKnown JcrLaw). x.seen) is);
    weight = ap (λ (x : PassKnown JcrLaw). x.weight) is;
    first = λ s below own. owns s ∙ (ap (λ b. cond b (owned_by v s) None) (own_named s below own) ∙ out.left s below (let h : worker ≤ s % workers = omega (arith, own) in h));
  }

  -- the pass that is left
  pub out_more : w ≡ kept_back names v → 1 < v.weight → ((s : ℕ) → owned_by w s ≡ cond (is_one_of names s) None (owned_by v s)) → HasHandedOut script workers (worker + 1) w
  out_more is heavy owns = record {
    knows = knows_still (ap (λ (x : PassKnown JcrLaw). x.round) is) (ap (λ (x : PassKnown JcrLaw). x.frame) is) (ap (λ (x : PassKnown JcrLaw). x.seen) is);
    unseen = ap (λ (x : PassKnown JcrLaw). x.seen) is ∙ out.unseen;
    weight = less v.weight w.weight worker (ap (λ (x : PassKnown JcrLaw). x.weight) is) heavy out.weight;
    left = λ s below later. owns s ∙ (ap (λ b. cond b None (owned_by v s)) (later_unnamed s below later) ∙ out.left s below (let h : worker ≤ s % workers = omega (arith, later) in h));
  }
    where
      less : (a b n : ℕ) → b ≡ a - 1 → 1 < a → a + n ≡ 1024 → b + (n + 1) ≡ 1024
      less a b n is heavy sum = omega arith

-- so few workers leave the first pass a weight
pub heavy : (script : Script) (workers worker : ℕ) (v : PassKnown JcrLaw) → HasHandedOut script workers worker v → worker < workers → workers ≤ 16 → 1 < v.weight
heavy script workers worker v out below few = let sum = out.weight in omega (arith, sum, below, few)
