-- A step of reading leaves its session where it stood, with what was found.
use Rattle.std.proofs.Common.{◌≡◌, ℕ, Bool, true, false, Some, None, Option, List, nat_eq, Result, Ok, Err, IfOk, OnErr, refl, sym, ap, ◌∙◌, subst}
use Rattle.std.specs.FinMap.{is_sorted}
use mathlib.Core.Bool.{false≢true}
use Rattle.jr_path.specs.Names.{name_cmp}
use Rattle.jr_path.specs.declared.name.Name.{Name}
use Rattle.jr_path.specs.declared.path.Path.{Path}
use Rattle.jr_rev.specs.declared.revision.Revision.{Revision}
use Rattle.jr_tree.specs.declared.shared.CommitChanges.{CommitChanges}
use Rattle.jr_tree.specs.declared.tree.Node.{Node}
use Rattle.jr_tree.specs.Trees.{IsTree, dated_children_of, node_at}
use Rattle.jr_part.specs.declared.need.Need.TheVariants as need
use Rattle.jr_part.proofs.Children.{children_sorted}
use Rattle.oak_machine.specs.declared.event.StepKind.{StepKind}
use Rattle.oak_port.specs.Ports.{Idle, OthersAlone, Shown, Starting, Steps, Work}
use Rattle.oak_port.specs.declared.task.StepOut.{StepOut}
use Rattle.oak_port.specs.declared.task.StepOut.TheVariants as out
use Rattle.oak_port.specs.declared.task.Task.{Task}
use Rattle.oak_port.specs.declared.task.Task.TheVariants as task
use Rattle.oak_port.specs.declared.task.TaskEnd.TheVariants as end
use Rattle.jcr_law.specs.declared.law.JcrLaw.{JcrLaw}
use Rattle.jcr_law.specs.Lasting.{says_of, starts_of}
use Rattle.jcr_law.specs.Starting.{call_based, call_has_base}
use Rattle.jcr_law.specs.State.{Call}
use Rattle.jcr_held.specs.Holds.{Holds}
use Rattle.jcr_held.specs.declared.held.Held.{Held}
use Rattle.jcr_steps.specs.declared.answers.Listed.{Listed}
use Rattle.jcr_steps.specs.declared.answers.Listed.TheVariants as listed
use Rattle.jcr_steps.specs.declared.answers.Loaded.{Loaded}
use Rattle.jcr_steps.specs.declared.answers.Loaded.TheVariants as loaded
use Rattle.jcr_run.specs.declared.run.Fetch.{Fetch}
use Rattle.jcr_run.specs.declared.run.Fetch.TheVariants as fetch
use Rattle.jcr_run.specs.declared.run.SessionRun.{SessionRun}
use Rattle.jcr_steps.specs.Answered.{IsListAnswer, IsLoadAnswer, listed_by, loaded_by}
use Rattle.jcr_run.specs.Standing.{AreSince, HasLooked, HasMadeReading, IsCalled, IsFetchFor, IsIn, IsReading, IsReadyNext, IsRefused, IsSame, IsWantedNext, Stands, may_read}
use Rattle.jcr_run.proofs.Coming.{list_comes, load_comes}
use Rattle.jcr_run.proofs.Lawful.{at_between}
use Rattle.jcr_run.proofs.Looking.{read_looked, read_refused}
use Rattle.jcr_run.proofs.Nexts.{reads_between, unwanted}
use Rattle.jcr_run.proofs.Since.{since_beside}
use Rattle.jcr_run.proofs.Reading.{HasStepped, beside_itself, list_found, list_refused, list_went, node_found, node_refused, node_went}
use Rattle.jcr_run.proofs.Waiting.{by_waits}

-- ---- what an answer tells

abbrev loaded_number : Loaded → ℕ
loaded_number loaded.Going = 0
loaded_number (loaded.Found f) = 1
loaded_number loaded.Refused = 2

other_loaded : {A : Type 0} (x y : Loaded) → nat_eq (loaded_number x) (loaded_number y) ≡ false → x ≡ y → A
other_loaded x y other same = absurd (false≢true (sym other ∙ (ap (λ (d : Loaded). nat_eq (loaded_number d) (loaded_number y)) same ∙ itself y)))
  where
    itself : (z : Loaded) → nat_eq (loaded_number z) (loaded_number z) ≡ true
    itself loaded.Going = refl
    itself (loaded.Found f) = refl
    itself loaded.Refused = refl

load_goes : (a : StepOut) → IsLoadAnswer a → loaded_by a ≡ loaded.Going → (k : StepKind) × (a ≡ out.Went k)
load_goes (out.Went k) is h = (k, refl)
load_goes (out.Ready (end.Node f)) is h = other_loaded (loaded.Found f) loaded.Going refl h
load_goes out.Memory is h = other_loaded loaded.Refused loaded.Going refl h
load_goes a is h = absurd is

found_of : (o d : Option Node) → loaded.Found o ≡ loaded.Found d → o ≡ d
found_of o d h = ap (λ (x : Loaded). elim x [ loaded.Found f ↦ f | loaded.Going ↦ o | loaded.Refused ↦ o ]) h

load_finds : (a : StepOut) (found : Option Node) → IsLoadAnswer a → loaded_by a ≡ loaded.Found found → a ≡ out.Ready (end.Node found)
load_finds (out.Went k) found is h = other_loaded loaded.Going (loaded.Found found) refl h
load_finds (out.Ready (end.Node f)) found is h = ap (λ (o : Option Node). out.Ready (end.Node o)) (found_of f found h)
load_finds out.Memory found is h = other_loaded loaded.Refused (loaded.Found found) refl h
load_finds a found is h = absurd is

load_stops : (a : StepOut) → IsLoadAnswer a → loaded_by a ≡ loaded.Refused → a ≡ out.Memory
load_stops (out.Went k) is h = other_loaded loaded.Going loaded.Refused refl h
load_stops (out.Ready (end.Node f)) is h = other_loaded (loaded.Found f) loaded.Refused refl h
load_stops out.Memory is h = refl
load_stops a is h = absurd is

abbrev listed_number : Listed → ℕ
listed_number listed.Going = 0
listed_number (listed.Names f) = 1
listed_number listed.Refused = 2

other_listed : {A : Type 0} (x y : Listed) → nat_eq (listed_number x) (listed_number y) ≡ false → x ≡ y → A
other_listed x y other same = absurd (false≢true (sym other ∙ (ap (λ (d : Listed). nat_eq (listed_number d) (listed_number y)) same ∙ itself y)))
  where
    itself : (z : Listed) → nat_eq (listed_number z) (listed_number z) ≡ true
    itself listed.Going = refl
    itself (listed.Names f) = refl
    itself listed.Refused = refl

list_goes : (a : StepOut) → IsListAnswer a → listed_by a ≡ listed.Going → (k : StepKind) × (a ≡ out.Went k)
list_goes (out.Went k) is h = (k, refl)
list_goes (out.Ready (end.Children f)) is h = other_listed (listed.Names f) listed.Going refl h
list_goes out.Memory is h = other_listed listed.Refused listed.Going refl h
list_goes a is h = absurd is

names_of : (o d : List (Name × Option Revision)) → listed.Names o ≡ listed.Names d → o ≡ d
names_of o d h = ap (λ (x : Listed). elim x [ listed.Names f ↦ f | listed.Going ↦ o | listed.Refused ↦ o ]) h

list_finds : (a : StepOut) (names : List (Name × Option Revision)) → IsListAnswer a → listed_by a ≡ listed.Names names → a ≡ out.Ready (end.Children names)
list_finds (out.Went k) names is h = other_listed listed.Going (listed.Names names) refl h
list_finds (out.Ready (end.Children f)) names is h = ap (λ (o : List (Name × Option Revision)). out.Ready (end.Children o)) (names_of f names h)
list_finds out.Memory names is h = other_listed listed.Refused (listed.Names names) refl h
list_finds a names is h = absurd is

list_stops : (a : StepOut) → IsListAnswer a → listed_by a ≡ listed.Refused → a ≡ out.Memory
list_stops (out.Went k) is h = other_listed listed.Going listed.Refused refl h
list_stops (out.Ready (end.Children f)) is h = other_listed (listed.Names f) listed.Refused refl h
list_stops out.Memory is h = refl
list_stops a is h = absurd is

-- nothing is being read
pub unfetched : (run : SessionRun) → run.fetch ≡ None → IsFetchFor run run.fetch
unfetched run none = subst (λ (o : Option Fetch). IsFetchFor run o) (sym none) tt

-- what is read is for the command, whether it is being read or not
fetch_like : (run : SessionRun) (n : Fetch) → IsFetchFor run (Some n) → IsFetchFor (record run { fetch = Some n }) (Some n)
fetch_like run (fetch.Tree n) suits = suits
fetch_like run (fetch.Changes v) suits = suits

-- a session is called on a tree
pub called_tree : {attached : Bool} (law : JcrLaw) (p : Shown) (c : Call) → IsIn law p attached → IsCalled law p c → IsTree c.base
called_tree law p c inside is =
    subst (λ (y : Call). IsTree y.base) (sym (call_based law p.history.begin p.history.past p.session c is))
    (inside.trees p.history.past inside.run p.session c.who.base (call_has_base law p.history.begin p.history.past p.session c is))

-- ---- a step of reading a node

module _ (law : JcrLaw) (old new : Shown) (run : SessionRun) (path : Path) (stands : Stands law old (record run { fetch = Some (fetch.Tree (need.Node path)) })) (reads : may_read run ≡ true) (none : run.fetch ≡ None)
    (answer : StepOut) (steps : Steps (starts_of law) (says_of law) old new answer) where
  abbrev loading : SessionRun
  loading = record run { fetch = Some (fetch.Tree (need.Node path)) }

  pub load_busy : old.work ≡ Starting (task.Load path)
  load_busy = (at_between law old loading stands (reads_between loading reads)).1.reads

  load_is : IsLoadAnswer answer
  load_is = load_comes (starts_of law) (says_of law) old new answer steps path load_busy

  abbrev By : StepOut → Type 0
  By a = Steps (starts_of law) (says_of law) old new a

  pub load_going : loaded_by answer ≡ loaded.Going → HasLooked law old new loading loading
  load_going h =
      let k = load_goes answer load_is h in
      let x = node_went law old new path stands.nodes k.0 load_busy (subst By k.1 steps) in
      read_looked law old new loading stands reads x.beside loading (record { session = refl; commands = refl; index = refl; phase = refl; attached = refl }) (λ c holds is. holds) x.work_is
      (at_between law old loading stands (reads_between loading reads)).1.for
      (λ c is since. since_beside law old new x.beside stands.nodes c is run.changes since) (λ c is wanted. wanted)

  load_ended : (held : Held) → (x : HasStepped law old new path stands.nodes Idle) → ((c : Call) → Holds c run.held → IsCalled law old c → Holds c held) → HasLooked law old new loading (record run { held = held }) × IsRefused new (record run { held = held })
  load_ended held x holds = (
    read_looked law old new loading stands reads x.beside (record run { held = held }) (record { session = refl; commands = refl; index = refl; phase = refl; attached = refl }) holds (subst (λ (o : Option Fetch). IsReading new.work o) (sym none) x.work_is)
        (unfetched (record run { held = held }) none) (λ c is since. since_beside law old new x.beside stands.nodes c is run.changes since) (λ c is wanted. unwanted c (record run { held = held }) none),
    read_refused law old new loading stands reads x.beside (record run { held = held }) (record { session = refl; commands = refl; index = refl; phase = refl; attached = refl }) holds (subst (λ (o : Option Fetch). IsReading new.work o) (sym none) x.work_is)
        (unfetched (record run { held = held }) none) (λ c is since. since_beside law old new x.beside stands.nodes c is run.changes since) none,
  )

  pub load_found : (found : Option Node) (held : Held) → loaded_by answer ≡ loaded.Found found → ((c : Call) → Holds c run.held → found ≡ node_at c.base path → Holds c held)
      → HasLooked law old new loading (record run { held = held }) × IsRefused new (record run { held = held })
  load_found found held h holds =
      let x = node_found law old new path stands.nodes found load_busy (subst By (load_finds answer found load_is h) steps) in
      load_ended held x.0 (λ c has is. holds c has (x.1 c is))

  pub load_refused : loaded_by answer ≡ loaded.Refused → HasLooked law old new loading run × IsRefused new run
  load_refused h = load_ended run.held (node_refused law old new path stands.nodes load_busy (subst By (load_stops answer load_is h) steps)) (λ c has is. has)

-- ---- a step of reading the names of children

module _ (law : JcrLaw) (old new : Shown) (run : SessionRun) (path : Path) (stands : Stands law old (record run { fetch = Some (fetch.Tree (need.Children path)) })) (reads : may_read run ≡ true) (none : run.fetch ≡ None)
    (answer : StepOut) (steps : Steps (starts_of law) (says_of law) old new answer) where
  abbrev listing : SessionRun
  listing = record run { fetch = Some (fetch.Tree (need.Children path)) }

  pub list_busy : old.work ≡ Starting (task.List path)
  list_busy = (at_between law old listing stands (reads_between listing reads)).1.reads

  list_is : IsListAnswer answer
  list_is = list_comes (starts_of law) (says_of law) old new answer steps path list_busy

  abbrev ByList : StepOut → Type 0
  ByList a = Steps (starts_of law) (says_of law) old new a

  pub list_going : listed_by answer ≡ listed.Going → HasLooked law old new listing listing
  list_going h =
      let k = list_goes answer list_is h in
      let x = list_went law old new path stands.nodes k.0 list_busy (subst ByList k.1 steps) in
      read_looked law old new listing stands reads x.beside listing (record { session = refl; commands = refl; index = refl; phase = refl; attached = refl }) (λ c holds is. holds) x.work_is
      (at_between law old listing stands (reads_between listing reads)).1.for
      (λ c is since. since_beside law old new x.beside stands.nodes c is run.changes since) (λ c is wanted. wanted)

  list_ended : (held : Held) → (x : HasStepped law old new path stands.nodes Idle) → ((c : Call) → Holds c run.held → IsCalled law old c → Holds c held) → HasLooked law old new listing (record run { held = held }) × IsRefused new (record run { held = held })
  list_ended held x holds = (
    read_looked law old new listing stands reads x.beside (record run { held = held }) (record { session = refl; commands = refl; index = refl; phase = refl; attached = refl }) holds (subst (λ (o : Option Fetch). IsReading new.work o) (sym none) x.work_is)
        (unfetched (record run { held = held }) none) (λ c is since. since_beside law old new x.beside stands.nodes c is run.changes since) (λ c is wanted. unwanted c (record run { held = held }) none),
    read_refused law old new listing stands reads x.beside (record run { held = held }) (record { session = refl; commands = refl; index = refl; phase = refl; attached = refl }) holds (subst (λ (o : Option Fetch). IsReading new.work o) (sym none) x.work_is)
        (unfetched (record run { held = held }) none) (λ c is since. since_beside law old new x.beside stands.nodes c is run.changes since) none,
  )

  pub names_found : (names : List (Name × Option Revision)) (held : Held) → listed_by answer ≡ listed.Names names → ((c : Call) → Holds c run.held → names ≡ dated_children_of c.base path → Holds c held)
      → HasLooked law old new listing (record run { held = held }) × IsRefused new (record run { held = held })
  names_found names held h holds =
      let x = list_found law old new path stands.nodes names list_busy (subst ByList (list_finds answer names list_is h) steps) in
      list_ended held x.0 (λ c has is. holds c has (x.1 c is))

  -- they rise
  pub names_rise : (names : List (Name × Option Revision)) → listed_by answer ≡ listed.Names names → is_sorted name_cmp names ≡ true
  names_rise names h =
      let here = at_between law old listing stands (reads_between listing reads) in
      let x = list_found law old new path stands.nodes names list_busy (subst ByList (list_finds answer names list_is h) steps) in
      subst (λ (ns : List (Name × Option Revision)). is_sorted name_cmp ns ≡ true) (sym (x.1 here.1.call here.1.is))
      (children_sorted path here.1.call.base (called_tree law old here.1.call here.0 here.1.is).paths)

  pub names_refused : listed_by answer ≡ listed.Refused → HasLooked law old new listing run × IsRefused new run
  names_refused h = list_ended run.held (list_refused law old new path stands.nodes list_busy (subst ByList (list_stops answer list_is h) steps)) (λ c has is. has)

-- ---- before a step

module _ (law : JcrLaw) (p : Shown) (run : SessionRun) (stands : Stands law p run) (reads : may_read run ≡ true) where
  idle_here : run.fetch ≡ None → IsReading p.work None
  idle_here none = subst (λ (o : Option Fetch). IsReading p.work o) none (at_between law p run stands (reads_between run reads)).1.reads

  -- with what is held otherwise
  pub held_looked : (now : SessionRun) → run.fetch ≡ None → now ≡ record run { held = now.held } → ((c : Call) → Holds c run.held → Holds c now.held) → HasLooked law p p run now × IsRefused p now
  held_looked now none same holds =
      let unread : now.fetch ≡ None = ap (λ (r : SessionRun). r.fetch) same ∙ none in
      let is : IsSame run now = record { session = ap (λ (r : SessionRun). r.session) same; commands = ap (λ (r : SessionRun). r.commands) same; index = ap (λ (r : SessionRun). r.index) same; phase = ap (λ (r : SessionRun). r.phase) same; attached = ap (λ (r : SessionRun). r.attached) same } in
      let beside = beside_itself law p stands.run_is in
      let since : (c : Call) → IsCalled law p c → AreSince p.history c run.changes → AreSince p.history c now.changes =
      λ c called before. subst (λ (o : Option (List CommitChanges)). AreSince p.history c o) (sym (ap (λ (r : SessionRun). r.changes) same)) before in
      let work : IsReading p.work now.fetch = subst (λ (o : Option Fetch). IsReading p.work o) (sym unread) (idle_here none) in (
        read_looked law p p run stands reads beside now is (λ c has called. holds c has) work (unfetched now unread) since (λ c called wanted. unwanted c now unread),
        read_refused law p p run stands reads beside now is (λ c has called. holds c has) work (unfetched now unread) since unread,
      )

  -- what is read next is begun
  pub begun_looked : (new : Shown) (t : Task) (n : Fetch) → OthersAlone (starts_of law) (says_of law) p new (Starting t) p.room → IsReading (Starting t) (Some n) → IsFetchFor run (Some n) → ((c : Call) → IsCalled law p c → IsWantedNext c (record run { fetch = Some n })) → HasLooked law p new run (record run { fetch = Some n })
  begun_looked new t n waits is suits wanted =
      let beside = by_waits law p new (Starting t) p.room waits in
      read_looked law p new run stands reads beside (record run { fetch = Some n }) (record { session = refl; commands = refl; index = refl; phase = refl; attached = refl }) (λ c has called. has)
      (subst (λ (w : Work). IsReading w (Some n)) (sym waits.work_is) is) (fetch_like run n suits)
      (λ c called since. since_beside law p new beside stands.nodes c called run.changes since) (λ c called before. wanted c called)

  pub unbegun_looked : (new : Shown) → run.fetch ≡ None → OthersAlone (starts_of law) (says_of law) p new Idle p.room → HasLooked law p new run run × IsRefused new run
  unbegun_looked new none waits =
      let work : IsReading new.work run.fetch = subst (λ (o : Option Fetch). IsReading new.work o) (sym none) waits.work_is in
      let beside = by_waits law p new Idle p.room waits in (
        read_looked law p new run stands reads beside run (record { session = refl; commands = refl; index = refl; phase = refl; attached = refl }) (λ c has called. has) work (unfetched run none)
            (λ c called since. since_beside law p new beside stands.nodes c called run.changes since) (λ c called wanted. wanted),
        read_refused law p new run stands reads beside run (record { session = refl; commands = refl; index = refl; phase = refl; attached = refl }) (λ c has called. has) work (unfetched run none)
            (λ c called since. since_beside law p new beside stands.nodes c called run.changes since) none,
      )

-- ---- what was made of a reading step

pub read_made : {E : Type 0} (made : Result Bool E) (old new : Shown) (run now : SessionRun) → may_read run ≡ true → IfOk made (λ b. b ≡ true) → IfOk made (HasMadeReading old new run now)
read_made (Ok b) old new run now reads is = record { none = λ h. absurd (false≢true (sym h ∙ is)); prepared = λ h k. absurd (false≢true (sym h ∙ is)); due = λ h. reads }
read_made (Err e) old new run now reads is = tt

pub read_none : (p : Shown) (run now : SessionRun) → now.fetch ≡ None → IsReadyNext now → HasMadeReading p p run now false
read_none p run now none ready = record { none = λ h. refl; prepared = λ h k. record { done = none; ready = ready }; due = λ h. absurd (false≢true h) }

pub read_like : {E : Type 0} (made : Result Bool E) (old new : Shown) (a b now : SessionRun) → may_read b ≡ may_read a → IfOk made (HasMadeReading old new a now) → IfOk made (HasMadeReading old new b now)
read_like (Ok x) old new a b now same h = record { none = h.none; prepared = λ f r. h.prepared f (sym same ∙ r); due = λ t. same ∙ h.due t }
read_like (Err e) old new a b now same h = tt

pub err_with : {T E : Type 0} (made : Result T E) (A B : Type 0) → A → OnErr made B → OnErr made (A × B)
err_with (Ok t) A B a h = tt
err_with (Err e) A B a h = (a, h)
