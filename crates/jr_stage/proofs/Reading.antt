-- Reading steps one after another, and a turn behind them.
use Rattle.std.proofs.Common.{◌≡◌, ◌⊎◌, inl, inr, ℕ, ◌+◌, ◌<◌, ◌≤◌, Bool, true, false, cond, not, ◌||◌, ◌&&◌, Some, None, Option, Result, Ok, Err, refl, sym, ap, ◌∙◌, subst, arith, is_some}
use Rattle.std.specs.Prelude.{IfOk, slice_get}
use Rattle.std.specs.Option.{option_map, option_map_or}
use mathlib.Core.Bool.{false≢true}
use Rattle.oak_port.specs.Ports.{Shown}
use Rattle.oak_world.specs.Seen.{shown_at}
use Rattle.jcr_law.specs.declared.law.JcrLaw.{JcrLaw}
use Rattle.jcr_run.specs.Nearing.{stages_left}
use Rattle.jcr_run.specs.Standing.{StandsAt, is_committing, is_working}
use Rattle.jcr_run.specs.declared.run.Fetch.{Fetch}
use Rattle.jcr_run.specs.declared.run.Phase.{Phase}
use Rattle.jcr_run.specs.declared.run.Phase.TheVariants as phase
use Rattle.jcr_run.specs.declared.run.SessionRun.{SessionRun}
use Rattle.jcr_run.specs.declared.turn.Turn.{Turn}
use Rattle.jcr_run.specs.declared.turn.Turn.TheVariants as turn
use Rattle.jr_script.specs.declared.script.Entry.{Entry}
use Rattle.jr_stage.specs.declared.stage.Seat.{Seat}
use Rattle.jr_stage.specs.declared.stage.Stage.{Stage}
use Rattle.jr_stage.specs.Nearing.{IsAsNear, IsFurther, IsSooner, ReadsLess, ReadsNearer, ReadsThrough, StaysNearer, StepsNearer, commits_at, left_at, phase_at, place_at, reads_at, steps_at, unread_at, works_at}
use Rattle.jr_stage.specs.Stages.{ComesBehind, ComesShort, HasCome, HasOnlyRead, IsComeOrFurther, IsReadOrApart, IsStage, ReadsOrComes, ReadsOrTurns, comes_to}

-- ---- numbers

less_than : (a b c : ℕ) → a < b → b ≤ c → a < c
less_than a b c h k = omega arith

under : (a b c : ℕ) → a ≤ b → b < c → a < c
under a b c h k = omega arith

at_most : (a b : ℕ) → a ≡ b → a ≤ b
at_most a b h = omega arith

below : (a b : ℕ) → a < b → a ≤ b
below a b h = omega arith

no_more : (a b c : ℕ) → a ≤ b → b ≤ c → a ≤ c
no_more a b c h k = omega arith

some_more : (n : ℕ) → 0 < n + 1
some_more n = omega arith

one_more : (a b : ℕ) → a < b → a + 1 < b + 1
one_more a b h = omega arith

apart_numbers : {A : Type 0} (a b : ℕ) → a < b → a ≡ b → A
apart_numbers a b h k = absurd (omega arith)

-- ---- how near a session comes

-- nearer, behind what leaves it nearer or as near, and before that
pub further_behind : (old mid new : Stage) (s : ℕ) → IsFurther old mid s ⊎ IsAsNear old mid s → IsFurther mid new s → IsFurther old new s
further_behind old mid new s (inl first) more = record {
  left = under (left_at new s) (left_at mid s) (left_at old s) (below (left_at new s) (left_at mid s) more.left) first.left;
  place = under (place_at new s) (place_at mid s) (place_at old s) (below (place_at new s) (place_at mid s) more.place) first.place;
}
further_behind old mid new s (inr first) more = record {
  left = subst (λ (n : ℕ). left_at new s < n) first.left more.left;
  place = subst (λ (n : ℕ). place_at new s < n) first.place more.place;
}

pub further_before : (old mid new : Stage) (s : ℕ) → IsFurther old mid s → IsFurther mid new s ⊎ IsAsNear mid new s → IsFurther old new s
further_before old mid new s first (inl more) = further_behind old mid new s (inl first) more
further_before old mid new s first (inr more) = record {
  left = subst (λ (n : ℕ). n < left_at old s) (sym more.left) first.left;
  place = subst (λ (n : ℕ). n < place_at old s) (sym more.place) first.place;
}

near_more : (old mid new : Stage) (s : ℕ) → IsFurther old mid s ⊎ IsAsNear old mid s → IsFurther mid new s ⊎ IsAsNear mid new s → IsFurther old new s ⊎ IsAsNear old new s
near_more old mid new s first (inl more) = inl (further_behind old mid new s first more)
near_more old mid new s (inl first) (inr more) = inl (further_before old mid new s first (inr more))
near_more old mid new s (inr first) (inr more) = inr (record {
  left = more.left ∙ first.left;
  place = more.place ∙ first.place;
  works = more.works ∙ first.works;
  steps = λ works. no_more (steps_at new s) (steps_at mid s) (steps_at old s) (more.steps (first.works ∙ works)) (first.steps works);
})

-- it has no more left
pub near_left : (old new : Stage) (s : ℕ) → IsFurther old new s ⊎ IsAsNear old new s → left_at new s ≤ left_at old s
near_left old new s (inl more) = below (left_at new s) (left_at old s) more.left
near_left old new s (inr same) = at_most (left_at new s) (left_at old s) same.left

-- a task is under way two stages before the reply
working_left : (f : Phase) → is_working f ≡ true → stages_left f ≡ 2
working_left (phase.Committing a) h = refl
working_left phase.Detaching h = refl
working_left (phase.Working e) h = refl
working_left phase.Tidying h = refl
working_left phase.Outside h = absurd (false≢true h)
working_left phase.Between h = absurd (false≢true h)
working_left (phase.Moved v) h = absurd (false≢true h)
working_left (phase.Committed e a) h = absurd (false≢true h)
working_left (phase.Told t) h = absurd (false≢true h)
working_left (phase.Tidied t) h = absurd (false≢true h)
working_left phase.Over h = absurd (false≢true h)

pub place_working : (stage : Stage) (s : ℕ) → works_at stage s ≡ true → place_at stage s ≡ 2
place_working stage s works = by (phase_at stage s) works
  where
    by : (o : Option Phase) → option_map_or is_working o false ≡ true → option_map_or stages_left o 0 ≡ 2
    by None works = absurd (false≢true works)
    by (Some f) works = working_left f works

-- a step brings it nearer behind that too
pub step_nearer : (old mid new : Stage) (s : ℕ) → IsFurther old mid s ⊎ IsAsNear old mid s → StepsNearer mid new s → StepsNearer old new s
step_nearer old mid new s first (inl more) = inl (further_behind old mid new s first more)
step_nearer old mid new s (inl first) (inr same) = inl (record {
  left = subst (λ (n : ℕ). n < left_at old s) (sym same.left) first.left;
  place = subst (λ (n : ℕ). n < place_at old s) (sym (places_same mid new s same)) first.place;
})
  where
    places_same : (mid new : Stage) (s : ℕ) → IsSooner mid new s → place_at new s ≡ place_at mid s
    places_same mid new s same = place_working new s same.now ∙ sym (place_working mid s same.before)
step_nearer old mid new s (inr first) (inr same) = inr (record {
  before = sym first.works ∙ same.before;
  now = same.now;
  left = same.left ∙ first.left;
  steps = less_than (steps_at new s) (steps_at mid s) (steps_at old s) same.steps (first.steps (sym first.works ∙ same.before));
})

-- ---- reading steps alone

pub only_none : (stage : Stage) (s : ℕ) → IsStage stage → HasOnlyRead stage stage s
only_none stage s is = record {
  script = refl;
  stage = is;
  past = refl;
  others = λ t apart. refl;
  last = λ h. h;
  saves = refl;
  commits = refl;
  near = inr (record { left = refl; place = refl; works = refl; steps = λ works. at_most (steps_at stage s) (steps_at stage s) refl });
  comes = λ idle e. refl;
}

module _ (old mid new : Stage) (s : ℕ) (first : HasOnlyRead old mid s) where
  pub only_more : HasOnlyRead mid new s → HasOnlyRead old new s
  only_more more = record {
    script = more.script ∙ first.script;
    stage = more.stage;
    past = more.past ∙ first.past;
    others = λ t apart. more.others t apart ∙ first.others t apart;
    last = λ h. more.last (first.last h);
    saves = more.saves ∙ first.saves;
    commits = more.commits ∙ first.commits;
    near = near_more old mid new s first.near more.near;
    comes = λ idle e. more.comes (first.commits ∙ idle) e ∙ first.comes idle e;
  }

-- where no commit is under way nothing comes to where an entry waits
pub short_still : (old mid : Stage) (s : ℕ) → HasOnlyRead old mid s → commits_at old s ≡ false → (until : Option Entry) → comes_to old s until ≡ false → comes_to mid s until ≡ false
short_still old mid s read idle None short = refl
short_still old mid s read idle (Some e) short = read.comes idle e ∙ short

-- ---- a turn behind reading steps

module _ (old mid new : Stage) (s : ℕ) (read : HasOnlyRead old mid s) where
  behind : commits_at old s ≡ false → (answer : Turn) → ComesBehind mid new s answer → ComesBehind old new s answer
  behind idle answer c = record {
    mid = c.mid;
    reads = only_more old mid c.mid s read c.reads;
    short = λ until short. c.short until (short_still old mid s read idle until short);
    come = c.come;
  }

  -- reading steps, or a turn, behind reading steps
  pub behind_reads : {X Y : Type 0} → (X → Y) → (answer : Turn) → IsReadOrApart old s answer → ReadsOrComes X mid new s answer → ReadsOrComes Y old new s answer
  behind_reads more turn.Read idle h = (only_more old mid new s read h.0, more h.1)
  behind_reads more (turn.Stepped k) idle h = behind idle (turn.Stepped k) h
  behind_reads more (turn.Said i) idle h = behind idle (turn.Said i) h
  behind_reads more (turn.Waiting q) idle h = behind idle (turn.Waiting q) h
  behind_reads more turn.Ended idle h = behind idle turn.Ended h
  behind_reads more turn.Memory idle h = behind idle turn.Memory h

-- where no commit is under way each answer comes apart from one
pub apart_by : (stage : Stage) (s : ℕ) (answer : Turn) → commits_at stage s ≡ false → IsReadOrApart stage s answer
apart_by stage s turn.Read idle = tt
apart_by stage s (turn.Stepped k) idle = idle
apart_by stage s (turn.Said i) idle = idle
apart_by stage s (turn.Waiting q) idle = idle
apart_by stage s turn.Ended idle = idle
apart_by stage s turn.Memory idle = idle

-- a turn with no reading steps before it
pub comes_alone : (old new : Stage) (s : ℕ) (answer : Turn) → IsStage old → HasCome old new s answer → ComesBehind old new s answer
comes_alone old new s answer is come = record { mid = old; reads = only_none old s is; short = λ until short. short; come = come }

-- an answer that is none of a reading step stands where the answer is told of reading steps with less behind them
pub comes_anyway : (X Y : Type 0) (old new : Stage) (s : ℕ) (answer : Turn) → (answer ≡ turn.Read → ⊥) → ReadsOrComes X old new s answer → ReadsOrComes Y old new s answer
comes_anyway X Y old new s turn.Read none h = absurd (none refl)
comes_anyway X Y old new s (turn.Stepped k) none h = h
comes_anyway X Y old new s (turn.Said i) none h = h
comes_anyway X Y old new s (turn.Waiting q) none h = h
comes_anyway X Y old new s turn.Ended none h = h
comes_anyway X Y old new s turn.Memory none h = h

-- what an answer tells of reading steps, by the arm that it falls to
pub read_as : (X : Type 0) (old new : Stage) (s : ℕ) (answer : Turn) → answer ≡ turn.Read → ReadsOrComes X old new s answer → HasOnlyRead old new s × X
read_as X old new s answer is h = subst (λ (a : Turn). ReadsOrComes X old new s a) is h

pub turned_as : (X : Type 0) (old new : Stage) (s : ℕ) (until : Option Entry) (answer : Turn) → answer ≡ turn.Read → ReadsOrTurns X old new s until answer → HasOnlyRead old new s × X
turned_as X old new s until answer is h = subst (λ (a : Turn). ReadsOrTurns X old new s until a) is h

-- ---- until a commit has come

-- reading steps were made, and the commit of s has not come to where the entry waits for it
pub record HasReadShort (first stage : Stage) (s : ℕ) (until : Option Entry) : Type 0 where
  pub only : HasOnlyRead first stage s
  pub short : comes_to stage s until ≡ false

pub short_begins : (stage : Stage) (s : ℕ) (until : Option Entry) → IsStage stage → comes_to stage s until ≡ false → HasReadShort stage stage s until
short_begins stage s until is short = record { only = only_none stage s is; short = short }

module _ (first stage new : Stage) (s : ℕ) (until : Option Entry) (has : HasReadShort first stage s until) where
  short_behind : (answer : Turn) → ComesBehind stage new s answer → ComesShort first new s until answer
  short_behind answer c = record {
    mid = c.mid;
    reads = only_more first stage c.mid s has.only c.reads;
    short = c.short until has.short;
    come = c.come;
  }

  -- a turn ends them
  pub turns_to : (X Y : Type 0) (answer : Turn) → (answer ≡ turn.Read → ⊥) → ReadsOrComes X stage new s answer → ReadsOrTurns Y first new s until answer
  turns_to X Y turn.Read none h = absurd (none refl)
  turns_to X Y (turn.Stepped k) none h = short_behind (turn.Stepped k) h
  turns_to X Y (turn.Said i) none h = short_behind (turn.Said i) h
  turns_to X Y (turn.Waiting q) none h = short_behind (turn.Waiting q) h
  turns_to X Y turn.Ended none h = short_behind turn.Ended h
  turns_to X Y turn.Memory none h = short_behind turn.Memory h

  turned_behind : (answer : Turn) → ComesShort stage new s until answer → ComesShort first new s until answer
  turned_behind answer c = record { mid = c.mid; reads = only_more first stage c.mid s has.only c.reads; short = c.short; come = c.come }

  -- so does one that was made behind more of them
  pub turns_on : (X Y : Type 0) (answer : Turn) → (answer ≡ turn.Read → ⊥) → ReadsOrTurns X stage new s until answer → ReadsOrTurns Y first new s until answer
  turns_on X Y turn.Read none h = absurd (none refl)
  turns_on X Y (turn.Stepped k) none h = turned_behind (turn.Stepped k) h
  turns_on X Y (turn.Said i) none h = turned_behind (turn.Said i) h
  turns_on X Y (turn.Waiting q) none h = turned_behind (turn.Waiting q) h
  turns_on X Y turn.Ended none h = turned_behind turn.Ended h
  turns_on X Y turn.Memory none h = turned_behind turn.Memory h

  pub short_more : HasOnlyRead stage new s → comes_to new s until ≡ false → HasReadShort first new s until
  short_more more short = record { only = only_more first stage new s has.only more; short = short }

-- ---- where a session stands

-- the session stands where it stood, and its commit has not come
pub record HasReadHere (first stage : Stage) (s : ℕ) (until : Option Entry) : Type 0 where
  pub reads : HasReadShort first stage s until
  pub here : place_at stage s ≡ place_at first s

pub here_begins : (stage : Stage) (s : ℕ) (until : Option Entry) → IsStage stage → comes_to stage s until ≡ false → HasReadHere stage stage s until
here_begins stage s until is short = record { reads = short_begins stage s until is short; here = refl }

module _ (first stage new : Stage) (s : ℕ) (until : Option Entry) (has : HasReadHere first stage s until) (more : HasOnlyRead stage new s) where
  here_only : HasOnlyRead first new s
  here_only = only_more first stage new s has.reads.only more

  pub here_come : comes_to new s until ≡ true → HasOnlyRead first new s × IsComeOrFurther first new s until
  here_come there = (here_only, inl there)

  pub here_moved : (place_at new s ≡ place_at first s → ⊥) → HasOnlyRead first new s × IsComeOrFurther first new s until
  here_moved moved = (here_only, inr (by here_only.near))
    where
      by : IsFurther first new s ⊎ IsAsNear first new s → IsFurther first new s
      by (inl further) = further
      by (inr same) = absurd (moved same.place)

  module _ (same : place_at new s ≡ place_at first s) where
    pub here_more : comes_to new s until ≡ false → HasReadHere first new s until
    here_more short = record { reads = short_more first stage new s until has.reads more short; here = same }

    pub here_less : ReadsLess stage new s → unread_at new s < unread_at stage s
    here_less (inr less) = less
    here_less (inl further) = apart_numbers (place_at new s) (place_at stage s) further.place (same ∙ sym has.here)

-- where a commit hasn't come, the session is nearer
pub further_left : (old new : Stage) (s : ℕ) (until : Option Entry) → comes_to new s until ≡ false → IsComeOrFurther old new s until → left_at new s < left_at old s
further_left old new s until short (inl there) = absurd (false≢true (sym short ∙ there))
further_left old new s until short (inr further) = further.left

-- ---- what is being read

-- before a command alone something is read for it: no commit is under way
pub reading_apart : (stage : Stage) (s : ℕ) → IsStage stage → reads_at stage s ≡ true → commits_at stage s ≡ false
reading_apart stage s is reads = by (slice_get stage.seats.items s) refl reads
  where
    apart : (law : JcrLaw) (p : Shown) (run : SessionRun) → is_some run.fetch ≡ true → (f : Phase) → StandsAt law p run f → is_committing f ≡ false
    apart law p run some (phase.Committing pledge) at = absurd (false≢true (sym (ap is_some at.1.unread) ∙ some))
    apart law p run some phase.Outside at = refl
    apart law p run some phase.Between at = refl
    apart law p run some (phase.Moved v) at = refl
    apart law p run some phase.Detaching at = refl
    apart law p run some (phase.Committed e pledge) at = refl
    apart law p run some (phase.Working e) at = refl
    apart law p run some (phase.Told t) at = refl
    apart law p run some phase.Tidying at = refl
    apart law p run some (phase.Tidied t) at = refl
    apart law p run some phase.Over at = refl

    by : (o : Option Seat) → slice_get stage.seats.items s ≡ o → option_map_or (λ (x : Seat). is_some x.run.fetch) o false ≡ true → option_map_or is_committing (option_map (λ (x : Seat). x.run.phase) o) false ≡ false
    by None at some = refl
    by (Some seat) at some = apart stage.world.law (shown_at 0 stage.world s) seat.run some seat.run.phase ((is.each s seat at).stands 0).at

-- what is begun to be read, or read on, is read through
pub through_less : (old mid new : Stage) (s : ℕ) → IsFurther old mid s ⊎ IsAsNear old mid s → IsFurther mid new s ⊎ IsAsNear mid new s → ReadsNearer old mid s → ReadsThrough mid new s → ReadsLess old new s
through_less old mid new s first more (inl further) through = inl (further_before old mid new s further.0 more)
through_less old mid new s first more (inr near) (inl further) = inl (further_behind old mid new s first further)
through_less old mid new s first more (inr near) (inr through) = inr (by (reads_at old s) (reads_at mid s) refl near)
  where
    by : (a b : Bool) → reads_at mid s ≡ b → StaysNearer (a && b) old mid s → unread_at new s < unread_at old s
    by true true reads h = less_than (unread_at new s) (unread_at mid s) (unread_at old s) (through.1 reads) (at_most (unread_at mid s) (unread_at old s) h.0)
    by true false reads less = under (unread_at new s) (unread_at mid s) (unread_at old s) through.0 less
    by false b reads less = under (unread_at new s) (unread_at mid s) (unread_at old s) through.0 less

-- a reading step, and those of what is being read behind it
module _ (old mid new : Stage) (s : ℕ) (read : HasOnlyRead old mid s) (near : ReadsNearer old mid s) where
  look_by : (answer : Turn) → IsReadOrApart mid s answer → ReadsOrComes (ReadsThrough mid new s) mid new s answer → ReadsOrComes (ReadsLess old new s) old new s answer
  look_by turn.Read idle h = (only_more old mid new s read h.0, through_less old mid new s read.near h.0.near near h.1)
  look_by (turn.Stepped k) idle h = behind old mid new s read (sym read.commits ∙ idle) (turn.Stepped k) h
  look_by (turn.Said i) idle h = behind old mid new s read (sym read.commits ∙ idle) (turn.Said i) h
  look_by (turn.Waiting q) idle h = behind old mid new s read (sym read.commits ∙ idle) (turn.Waiting q) h
  look_by turn.Ended idle h = behind old mid new s read (sym read.commits ∙ idle) turn.Ended h
  look_by turn.Memory idle h = behind old mid new s read (sym read.commits ∙ idle) turn.Memory h

  pub look_through : {E : Type 0} (result : Result Turn E) → IfOk result (IsReadOrApart mid s) → IfOk result (ReadsOrComes (ReadsThrough mid new s) mid new s) → IfOk result (ReadsOrComes (ReadsLess old new s) old new s)
  look_through (Ok answer) apart h = look_by answer apart h
  look_through (Err e) apart h = tt

-- so far no more may still be read, and less where something was being read and is no longer
pub record HasReadAlong (first stage : Stage) (s : ℕ) : Type 0 where
  pub most : unread_at stage s ≤ unread_at first s
  pub less : reads_at stage s ≡ false → reads_at first s ≡ true → unread_at stage s < unread_at first s

-- so far the session is nearer, or that
pub record HasReadSoFar (first stage : Stage) (s : ℕ) : Type 0 where
  pub only : HasOnlyRead first stage s
  pub along : IsFurther first stage s ⊎ HasReadAlong first stage s

pub reading_begins : (stage : Stage) (s : ℕ) → IsStage stage → HasReadSoFar stage stage s
reading_begins stage s is = record {
  only = only_none stage s is;
  along = inr (record {
    most = at_most (unread_at stage s) (unread_at stage s) refl;
    less = λ none reads. absurd (false≢true (sym none ∙ reads));
  });
}

pub reading_over : (first stage : Stage) (s : ℕ) → HasReadSoFar first stage s → reads_at stage s ≡ false → HasOnlyRead first stage s × ReadsThrough first stage s
reading_over first stage s has none = (has.only, by has.along)
  where
    by : IsFurther first stage s ⊎ HasReadAlong first stage s → ReadsThrough first stage s
    by (inl further) = inl further
    by (inr along) = inr (along.most, along.less none)

module _ (first stage new : Stage) (s : ℕ) (has : HasReadSoFar first stage s) (reads : reads_at stage s ≡ true) (only : HasOnlyRead stage new s) (near : ReadsNearer stage new s) where
  near_by : StaysNearer (reads_at stage s && reads_at new s) stage new s → (b : Bool) → reads_at new s ≡ b → StaysNearer b stage new s
  near_by stays b is = subst (λ (x : Bool). StaysNearer x stage new s) (ap (λ x. x && reads_at new s) reads ∙ is) stays

  along_more : StaysNearer (reads_at stage s && reads_at new s) stage new s → HasReadAlong first stage s → HasReadAlong first new s
  along_more stays along = record {
    most = no_more (unread_at new s) (unread_at stage s) (unread_at first s) (now_most (reads_at new s) refl) along.most;
    less = λ none began. less_than (unread_at new s) (unread_at stage s) (unread_at first s) (near_by stays false none) along.most;
  }
    where
      now_most : (b : Bool) → reads_at new s ≡ b → unread_at new s ≤ unread_at stage s
      now_most true is = at_most (unread_at new s) (unread_at stage s) (near_by stays true is).0
      now_most false is = below (unread_at new s) (unread_at stage s) (near_by stays false is)

  pub reading_more : HasReadSoFar first new s
  reading_more = record { only = only_more first stage new s has.only only; along = by near has.along }
    where
      by : ReadsNearer stage new s → IsFurther first stage s ⊎ HasReadAlong first stage s → IsFurther first new s ⊎ HasReadAlong first new s
      by (inl further) along = inl (further_behind first stage new s has.only.near further.0)
      by (inr stays) (inl further) = inl (further_before first stage new s further only.near)
      by (inr stays) (inr along) = inr (along_more stays along)

  -- while something is being read fewer steps are left of it
  pub reading_sooner : cond (reads_at new s) (steps_at new s + 1) 0 < cond (reads_at stage s) (steps_at stage s + 1) 0
  reading_sooner = subst (λ (b : Bool). cond (reads_at new s) (steps_at new s + 1) 0 < cond b (steps_at stage s + 1) 0) (sym reads) (by (reads_at new s) refl near)
    where
      by : (b : Bool) → reads_at new s ≡ b → ReadsNearer stage new s → cond b (steps_at new s + 1) 0 < steps_at stage s + 1
      by true is (inl further) = absurd (false≢true (sym further.1 ∙ is))
      by true is (inr stays) = one_more (steps_at new s) (steps_at stage s) (near_by stays true is).1
      by false is h = some_more (steps_at stage s)
