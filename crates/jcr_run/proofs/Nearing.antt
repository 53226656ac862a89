-- Reading steps bring nearer what the next command asks for.
use Rattle.std.proofs.Common.{◌≡◌, ◌<◌, ◌≤◌, ◌+◌, ◌*◌, ◌⊎◌, inl, inr, ℕ, true, false, cond, Bool, ◌&&◌, Some, None, Option, List, [], Result, Ok, Err, IfOk, is_some, refl, sym, ap, ◌∙◌, subst, arith}
use Rattle.std.specs.Prelude.{IfSome, is_none, option_map, slice_get}
use Rattle.std.specs.Option.{option_map_or}
use Rattle.std.specs.declared.alloc.AllocError.{AllocError}
use mathlib.Core.Bool.{false≢true}
use Rattle.jr_part.specs.declared.need.Need.{Need}
use Rattle.oak_machine.specs.History.{Past}
use Rattle.oak_machine.specs.Laws.{Says, Starts, after}
use Rattle.oak_machine.specs.Runs.{AreNodes}
use Rattle.oak_port.specs.Ports.{ActedAlone, IsWait, LastsLess, Makes, Seat, Shown, Steps}
use Rattle.oak_port.specs.declared.task.StepOut.{StepOut}
use Rattle.oak_port.specs.declared.task.StepOut.TheVariants as out
use Rattle.jcr_trans.specs.declared.command.Command.{Command}
use Rattle.jcr_law.specs.declared.law.JcrLaw.{JcrLaw}
use Rattle.jcr_law.specs.State.{Call}
use Rattle.jcr_held.specs.Holds.{Holds}
use Rattle.jcr_held.specs.Unread.{IsWanted, unread}
use Rattle.jcr_held.specs.declared.held.Held.{Held}
use Rattle.jcr_steps.specs.declared.answers.Changed.{Changed}
use Rattle.jcr_steps.specs.declared.answers.Changed.TheVariants as changed
use Rattle.jcr_steps.specs.declared.answers.Listed.{Listed}
use Rattle.jcr_steps.specs.declared.answers.Listed.TheVariants as listed
use Rattle.jcr_steps.specs.declared.answers.Loaded.{Loaded}
use Rattle.jcr_steps.specs.declared.answers.Loaded.TheVariants as loaded
use Rattle.jcr_steps.specs.Answered.{changed_told, listed_by, loaded_by}
use Rattle.jcr_run.specs.declared.run.Fetch.{Fetch}
use Rattle.jcr_run.specs.declared.run.Fetch.TheVariants as fetch
use Rattle.jcr_run.specs.declared.run.SessionRun.{SessionRun}
use Rattle.jcr_run.specs.Nearing.{EndsSooner, HasNeared, LessIsUnread, unread_of}
use Rattle.jcr_run.specs.Standing.{IsBeside, IsCalled, IsWantedBy, IsWantedNext, Stands, due_for, is_events, lacks_changes, may_read}
use Rattle.jcr_run.proofs.Lawful.{at_between}
use Rattle.jcr_run.proofs.Nexts.{reads_between, reads_next, same_next}
use Rattle.jcr_run.proofs.Waiting.{called_beside}

-- ---- what is being done ends sooner

pub nobody : (o : Option (List Seat)) (others : Past) → is_some o ≡ true → IfSome o (λ seats. others ≡ []) → others ≡ []
nobody (Some seats) others some h = h
nobody None others some h = absurd (false≢true some)

module _ (starts : Starts) (says : Says) (old new : Shown) (answer : StepOut) (steps : Steps starts says old new answer) where
  acted : is_some old.beside.seats ≡ true → ActedAlone old new answer
  acted alone =
      let none : steps.others ≡ [] = nobody old.beside.seats steps.others alone steps.alone in record {
        own = steps.own;
        grown = steps.grows.grown ∙ ap (λ (o : Past). after steps.own (after o old.history)) none;
        makes = subst (λ (o : Past). Makes (after o old.history) old.session old.work answer steps.own new.work) none steps.makes;
      }

  sooner : (before now : ℕ) → LastsLess before now old new answer → (IsWait answer → ⊥) → EndsSooner before now old
  sooner before now lowers never alone = by (lowers (acted alone))
    where
      by : IsWait answer ⊎ (now < before) → now < before
      by (inl wait) = absurd (never wait)
      by (inr x) = x

  -- or it waits
  pub sooner_by : (before now : ℕ) → LastsLess before now old new answer → IsWait answer ⊎ EndsSooner before now old
  sooner_by before now lowers = by answer refl
    where
      by : (a : StepOut) → a ≡ answer → IsWait answer ⊎ EndsSooner before now old
      by (out.Wait q) is = inl (subst IsWait is tt)
      by a is = inr (sooner before now lowers (λ wait. subst IsWait (sym is) wait))

  -- also where memory was refused
  pub memory_sooner : (before now : ℕ) → answer ≡ out.Memory → LastsLess before now old new answer → EndsSooner before now old
  memory_sooner before now memory lowers = sooner before now lowers (λ wait. subst IsWait memory wait)

  pub load_sooner : (before now : ℕ) → LastsLess before now old new answer → loaded_by answer ≡ loaded.Going → EndsSooner before now old
  load_sooner before now lowers going = sooner before now lowers (unwaited answer going)
    where
      is_going : Loaded → Bool
      is_going loaded.Going = true
      is_going _ = false

      unwaited : (a : StepOut) → loaded_by a ≡ loaded.Going → IsWait a → ⊥
      unwaited (out.Wait q) h wait = false≢true (ap is_going h)
      unwaited a h wait = wait

  pub changes_sooner : (before now : ℕ) → LastsLess before now old new answer → changed_told answer ≡ changed.Going → EndsSooner before now old
  changes_sooner before now lowers going = sooner before now lowers (unwaited answer going)
    where
      is_going : Changed → Bool
      is_going changed.Going = true
      is_going _ = false

      unwaited : (a : StepOut) → changed_told a ≡ changed.Going → IsWait a → ⊥
      unwaited (out.Wait q) h wait = false≢true (ap is_going h)
      unwaited a h wait = wait

  pub list_sooner : (before now : ℕ) → LastsLess before now old new answer → listed_by answer ≡ listed.Going → EndsSooner before now old
  list_sooner before now lowers going = sooner before now lowers (unwaited answer going)
    where
      is_going : Listed → Bool
      is_going listed.Going = true
      is_going _ = false

      unwaited : (a : StepOut) → listed_by a ≡ listed.Going → IsWait a → ⊥
      unwaited (out.Wait q) h wait = false≢true (ap is_going h)
      unwaited a h wait = wait

-- ---- how much is still to be known

pub unread_is : (c : Call) (run : SessionRun) (m : Command) → slice_get run.commands run.index ≡ Some m
    → unread_of c run ≡ 2 * (unread c run.held m + cond (lacks_changes run) 1 0) + cond (is_some run.fetch) 0 1
unread_is c run m next = ap (λ (o : Option Command). 2 * (option_map_or (λ (x : Command). unread c run.held x) o 0
    + cond (lacks_changes run) 1 0) + cond (is_some run.fetch) 0 1) next

-- nothing of the changes lacks for a command that reads the tree
unread_tree : (c : Call) (run : SessionRun) (m : Command) → slice_get run.commands run.index ≡ Some m → is_events (due_for run) ≡ false
    → unread_of c run ≡ 2 * (unread c run.held m + 0) + cond (is_some run.fetch) 0 1
unread_tree c run m next tree = unread_is c run m next ∙
    ap (λ b. 2 * (unread c run.held m + cond (b && (is_some run.held.cursor && is_none run.changes)) 1 0) + cond (is_some run.fetch) 0 1) tree

pub less_unread : (sooner : Type 0) (b : Bool) (before now : ℕ) → b ≡ false → now < before → LessIsUnread sooner b before now
less_unread sooner b before now is less = subst (λ (x : Bool). LessIsUnread sooner x before now) (sym is) less

at_most : (sooner : Type 0) (b : Bool) (before now : ℕ) → LessIsUnread sooner b before now → now ≤ before
at_most sooner true before now (same, soon) = omega arith
at_most sooner false before now less = omega arith

-- ---- the call with which a session stands

-- it is the only one
pub same_call : (law : JcrLaw) (p : Shown) (c d : Call) → IsCalled law p c → IsCalled law p d → c ≡ d
same_call law p c d a b = ap (λ (o : Option Call). elim o [ Some y ↦ y | None ↦ c ]) (sym a ∙ b)

pub holds_called : (law : JcrLaw) (p : Shown) (run : SessionRun) → Stands law p run → may_read run ≡ true → (c : Call) → IsCalled law p c → Holds c run.held
holds_called law p run stands reads c is =
    let here = (at_between law p run stands (reads_between run reads)).1 in
    subst (λ (d : Call). Holds d run.held) (same_call law p here.call c here.is is) here.holds

-- what is being read is wanted
wanted_called : (law : JcrLaw) (p : Shown) (run : SessionRun) (n : Need) → Stands law p (record run { fetch = Some (fetch.Tree n) }) → may_read run ≡ true → (c : Call) (m : Command) → IsCalled law p c → slice_get run.commands run.index ≡ Some m → IsWanted c run.held m n
wanted_called law p run n stands reads c m is next =
    let here = (at_between law p (record run { fetch = Some (fetch.Tree n) }) stands (reads_between (record run { fetch = Some (fetch.Tree n) }) reads)).1 in
    subst (λ (d : Call). IsWanted d run.held m n) (same_call law p here.call c here.is is) (here.wanted m next)

-- ---- what was being read is known now

found_less : (c : Call) (run : SessionRun) (m : Command) (n : Need) (held : Held) → slice_get run.commands run.index ≡ Some m
    → is_events (due_for run) ≡ false → run.fetch ≡ None → unread c held m < unread c run.held m
    → unread_of c (record run { held = held }) < unread_of c (record run { fetch = Some (fetch.Tree n) })
found_less c run m n held next tree none less =
    by (unread_of c (record run { held = held })) (unread_of c (record run { fetch = Some (fetch.Tree n) })) (unread c held m) (unread c run.held m)
    (unread_tree c (record run { held = held }) m next tree ∙ ap (λ (o : Option Fetch). 2 * (unread c held m + 0) + cond (is_some o) 0 1) none)
    (unread_tree c (record run { fetch = Some (fetch.Tree n) }) m next tree) less
  where
    by : (x y u v : ℕ) → x ≡ 2 * (u + 0) + 1 → y ≡ 2 * (v + 0) + 0 → u < v → x < y
    by x y u v p q h = omega arith

pub found_nears : (sooner : Type 0) (law : JcrLaw) (p : Shown) (run : SessionRun) (n : Need) (held known : Held)
    → Stands law p (record run { fetch = Some (fetch.Tree n) }) → may_read run ≡ true → run.fetch ≡ None → held ≡ known
    → ((c : Call) (m : Command) → IsWanted c run.held m n → unread c known m < unread c run.held m)
    → HasNeared sooner law p (record run { fetch = Some (fetch.Tree n) }) (record run { held = held })
found_nears sooner law p run n held known stands reads none is less c called =
    let m = reads_next run reads in
    let at = record run { fetch = Some (fetch.Tree n) } in
    let here = (at_between law p at stands (reads_between at reads)).1 in
    less_unread sooner (is_some run.fetch) (unread_of c (record run { fetch = Some (fetch.Tree n) })) (unread_of c (record run { held = held }))
    (ap (λ (o : Option Fetch). is_some o) none)
    (found_less c run m.0 n held m.1 here.for none
    (subst (λ (h : Held). unread c h m.0 < unread c run.held m.0) (sym is) (less c m.0 (wanted_called law p run n stands reads c m.0 called m.1))))

-- ---- what is read next

-- it is wanted
pub wanted_by : (run : SessionRun) (held : Held) (x : Command) (made : Result (Option Need) AllocError) → slice_get run.commands run.index ≡ Some x → ((c : Call) → Holds c run.held → IfOk made (λ load. IfSome load (IsWanted c held x)))
    → IfOk made (λ load. (c : Call) → Holds c run.held → IsWantedNext c (record run { held = held; fetch = option_map fetch.Tree load }))
wanted_by run held x (Ok load) next h = λ c holds m is.
    of_tree c m load (subst (λ (n : Command). IfSome load (IsWanted c held n)) (same_next run.commands run.index x m next is) (h c holds))
  where
    of_tree : (c : Call) (m : Command) (o : Option Need) → IfSome o (IsWanted c held m) → IfSome (option_map fetch.Tree o) (IsWantedBy c held m)
    of_tree c m None wanted = tt
    of_tree c m (Some n) wanted = wanted
wanted_by run held x (Err e) next h = tt

-- no more is to be known for that
pub no_more_unread : (c : Call) (run : SessionRun) (m : Command) (held : Held) → slice_get run.commands run.index ≡ Some m
    → is_events (due_for run) ≡ false → unread c held m ≤ unread c run.held m → unread_of c (record run { held = held }) ≤ unread_of c run
no_more_unread c run m held next tree less =
    by (unread_of c (record run { held = held })) (unread_of c run) (unread c held m) (unread c run.held m) (cond (is_some run.fetch) 0 1)
    (unread_tree c (record run { held = held }) m next tree) (unread_tree c run m next tree) less
  where
    by : (x y u v k : ℕ) → x ≡ 2 * (u + 0) + k → y ≡ 2 * (v + 0) + k → u ≤ v → x ≤ y
    by x y u v k p q h = omega arith

begun_less : (c : Call) (run : SessionRun) (n : Fetch) → run.fetch ≡ None → unread_of c (record run { fetch = Some n }) < unread_of c run
begun_less c run n none =
    by (2 * (option_map_or (λ (x : Command). unread c run.held x) (slice_get run.commands run.index) 0 + cond (lacks_changes run) 1 0)) (unread_of c run)
    (ap (λ (o : Option Fetch). 2 * (option_map_or (λ (x : Command). unread c run.held x) (slice_get run.commands run.index) 0
    + cond (lacks_changes run) 1 0) + cond (is_some o) 0 1) none)
  where
    by : (u y : ℕ) → y ≡ u + 1 → u + 0 < y
    by u y p = omega arith

-- what has begun to be read is being read, or known
pub begun_nears : (sooner : Type 0) (law later : JcrLaw) (old mid : Shown) (run now : SessionRun) (n : Fetch) → later ≡ law → AreNodes old.history.clusters old.history.sessions → IsBeside law old mid → run.fetch ≡ None
    → HasNeared sooner later mid (record run { fetch = Some n }) now → HasNeared ⊥ law old run now
begun_nears sooner law later old mid run now n laws nodes beside none near c called =
    less_unread ⊥ (is_some run.fetch && is_some now.fetch) (unread_of c run) (unread_of c now) (ap (λ (o : Option Fetch). is_some o && is_some now.fetch) none)
    (by (unread_of c run) (unread_of c (record run { fetch = Some n })) (unread_of c now) (begun_less c run n none)
    (at_most sooner (is_some now.fetch) (unread_of c (record run { fetch = Some n })) (unread_of c now)
    (subst (λ (l : JcrLaw). HasNeared sooner l mid (record run { fetch = Some n }) now) laws near c (called_beside law old mid beside nodes c called))))
  where
    by : (x y z : ℕ) → y < x → z ≤ y → z < x
    by x y z p q = omega arith

pub next_nears : (law : JcrLaw) (p : Shown) (run mid now : SessionRun) → run.fetch ≡ None → mid.fetch ≡ None → ((c : Call) → IsCalled law p c → unread_of c mid ≤ unread_of c run) → HasNeared ⊥ law p mid now → HasNeared ⊥ law p run now
next_nears law p run mid now none none_mid fewer near c called =
    less_unread ⊥ (is_some run.fetch && is_some now.fetch) (unread_of c run) (unread_of c now) (ap (λ (o : Option Fetch). is_some o && is_some now.fetch) none)
    (by (unread_of c run) (unread_of c mid) (unread_of c now) (fewer c called)
    (subst (λ (b : Bool). LessIsUnread ⊥ b (unread_of c mid) (unread_of c now)) (ap (λ (o : Option Fetch). is_some o && is_some now.fetch) none_mid) (near c called)))
  where
    by : (x y z : ℕ) → y ≤ x → z < y → z < x
    by x y z p q = omega arith

-- what is less to be known is so whatever ends sooner
pub nears_sooner : (sooner : Type 0) (law : JcrLaw) (p : Shown) (run now : SessionRun) → HasNeared ⊥ law p run now → HasNeared sooner law p run now
nears_sooner sooner law p run now near c called = by (is_some run.fetch && is_some now.fetch) (unread_of c run) (unread_of c now) (near c called)
  where
    by : (b : Bool) (before later : ℕ) → LessIsUnread ⊥ b before later → LessIsUnread sooner b before later
    by true before later (same, never) = absurd never
    by false before later less = less
