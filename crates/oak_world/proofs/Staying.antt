-- What a session does, it may still do after events of others.
use Rattle.std.proofs.Common.{◌≡◌, inl, inr, ℕ, Bool, true, false, ◌||◌, Some, List, [], ◌∷◌, ◌++◌, map, refl, sym, ap, subst, ◌∙◌, None}
use Rattle.std.specs.List.{list_any}
use Rattle.jr_path.specs.declared.path.Path.{Path}
use Rattle.jr_rev.specs.declared.revision.Revision.{Revision}
use Rattle.oak_commit.specs.Clashing.{Met}
use Rattle.oak_commit.specs.Committing.{Committing}
use Rattle.oak_commit.specs.declared.look.Look.{Look}
use Rattle.oak_machine.specs.declared.event.Event.{Event}
use Rattle.oak_machine.specs.declared.event.Event.TheVariants as event
use Rattle.oak_machine.specs.History.{History, Past}
use Rattle.oak_machine.specs.Commits.{is_drawn, is_ended}
use Rattle.oak_machine.specs.Laws.{AreOthers, Says, Starts, after, is_event_of}
use Rattle.oak_machine.specs.Runs.{AreNodes, IsRun, IsRunOf, StartsLast}
use Rattle.oak_machine.specs.Sessions.{has_login, is_login_of}
use Rattle.oak_machine.proofs.Induction.{neither}
use Rattle.core_clash.specs.Core.{root_of}
use Rattle.core_keep.specs.Formers.{Formers}
use Rattle.core_tidy.proofs.Since.{stay_left}
use Rattle.core_clash.specs.Views.{In}
use Rattle.core_clash.proofs.Basics.{or_right}
use Rattle.core_nodes.proofs.Pasts.{still_drawn}
use Rattle.core_world.proofs.Truths.{root_stays}
use Rattle.oak_step.specs.declared.work.Work.{Work}
use Rattle.oak_step.specs.declared.work.Work.TheVariants as work
use Rattle.oak_world.specs.Kept.{May, scene}
use Rattle.oak_world.specs.Looks.{IsLookingOn}
use Rattle.oak_world.proofs.Ends.{tell_lasts}
use Rattle.oak_world.proofs.Lasting.{upkeep_lasts}
use Rattle.oak_world.proofs.Others.{attached_left}
use Rattle.oak_world.specs.Steps.{IsPresent}
use Rattle.oak_store.specs.Tables.{Table}
use Rattle.oak_world.specs.Worlds.{Story, live, once_looked}

-- ---- events of others

login_is : (past : Past) (q : ℕ) (e : Event) → is_event_of past q e ≡ false → is_login_of q e ≡ false
login_is past q (event.Login t v) h = h
login_is past q _ h = refl

-- what no event of some is, they leave
left_by : (past : Past) (q : ℕ) (is : ℕ → Event → Bool) → ((e : Event) → is_event_of past q e ≡ false → is q e ≡ false) → (own before : Past) → list_any (is_event_of past q) own ≡ false → list_any (is q) (own ++ before) ≡ list_any (is q) before
left_by past q is none [] before h = refl
left_by past q is none (e ∷ own) before h =
    let k = neither (is_event_of past q e) (list_any (is_event_of past q) own) h in
    ap (λ b. b || list_any (is q) (own ++ before)) (none e k.0) ∙ left_by past q is none own before k.1

pub login_left : (q : ℕ) (own before : Past) → AreOthers q own before → has_login (own ++ before) q ≡ has_login before q
login_left q own before others = left_by (own ++ before) q is_login_of (login_is (own ++ before) q) own before others

pub come_left : (h : History) (q : ℕ) (own : Past) → AreOthers q own h.past → IsPresent h q → IsPresent (after own h) q
come_left h q own others come = record { login = login_left q own h.past others ∙ come.login; stays = stay_left q own h.past others ∙ come.stays }

-- ---- what lasts

pub ended_lasts : (r : Revision) (own before : Past) → is_ended before r ≡ true → is_ended (own ++ before) r ≡ true
ended_lasts r [] before h = h
ended_lasts r (e ∷ own) before h = or_right _ (is_ended (own ++ before) r) (ended_lasts r own before h)

drawn_lasts : (r : Revision) (own before : Past) → is_drawn before r ≡ true → is_drawn (own ++ before) r ≡ true
drawn_lasts r [] before h = h
drawn_lasts r (event.Draw d ∷ own) before h = still_drawn _ d (own ++ before) r (drawn_lasts r own before h)
drawn_lasts r (_ ∷ own) before h = drawn_lasts r own before h

-- the commit roots of drawn revisions
roots_last : (starts : Starts) (says : Says) (clusters : ℕ) (sessions : List ℕ) → AreNodes clusters sessions → (own before : Past) (r : Revision) → IsRunOf starts says clusters sessions None (own ++ before) → is_drawn before r ≡ true → root_of (own ++ before) r ≡ root_of before r
roots_last starts says clusters sessions nodes [] before r run drawn = refl
roots_last starts says clusters sessions nodes (e ∷ own) before r run drawn =
    root_stays starts says clusters sessions None nodes e (own ++ before) r run (drawn_lasts r own before drawn)
    ∙ roots_last starts says clusters sessions nodes own before r run.1 drawn

pub same_roots : (f g : Met → Path) (ms : List Met) → ((m : Met) → In m ms → f m ≡ g m) → map f ms ≡ map g ms
same_roots f g [] same = refl
same_roots f g (m ∷ ms) same = ap (λ x. x ∷ map f ms) (same m (inl refl)) ∙ ap (λ xs. g m ∷ xs) (same_roots f g ms (λ k h. same k (inr h)))

module _ (starts : Starts) (says : Says) (last : StartsLast starts says) (h : Story) (nodes : AreNodes h.clusters h.sessions) (run : IsRun starts says (live h)) (q : ℕ) (own : Past) (now : IsRun starts says (after own (live h))) (others : AreOthers q own h.past) (t u : Table) (formers more : Formers) where
  -- of a committer what it is to mark was drawn, it will meet whom it would have met, and it looks on
  pub may_last : (v : Work) → ((c : Committing) → v ≡ work.Commit c → (f : Met) → In f (once_looked t c).writer.due → is_drawn h.past f.other ≡ true) → ((c : Committing) → v ≡ work.Commit c → once_looked u c ≡ once_looked t c) → ((c : Committing) → v ≡ work.Commit c → (k : Look) → c.looking ≡ Some k → IsLookingOn u more c k)
      → May starts (scene t formers (live h)) q v → May starts (scene u more (after own (live h))) q v
  may_last work.Rest drawn same looks may = tt
  may_last work.Login drawn same looks may = login_left q own h.past others ∙ may
  may_last work.End drawn same looks may = come_left (live h) q own others may
  may_last work.Refresh drawn same looks may = (come_left (live h) q own others may.0, attached_left q own h.past others ∙ may.1)
  may_last (work.Read r) drawn same looks may = come_left (live h) q own others may
  may_last (work.Changes r) drawn same looks may = (come_left (live h) q own others may.0, attached_left q own h.past others ∙ may.1)
  may_last (work.Plan edit marks) drawn same looks may = (come_left (live h) q own others may.0, attached_left q own h.past others ∙ may.1, last (live h) own q edit marks (record { nodes = nodes; run = run; later = now; others = others }) may.2)
  may_last (work.Commit c) drawn same looks may = record {
    come = come_left (live h) q own others may.come;
    unended = may.unended;
    roots = subst (λ (d : Committing). d.roots ≡ map (λ f. root_of (own ++ h.past) f.other) d.writer.due) (sym (same c refl))
        (may.roots ∙ sym (same_roots (λ f. root_of (own ++ h.past) f.other) (λ f. root_of h.past f.other) (once_looked t c).writer.due (λ f i. roots_last starts says h.clusters h.sessions nodes own h.past f.other now (drawn c refl f i))));
    looks = looks c refl;
  }
  may_last (work.Upkeep u) drawn same looks may = (come_left (live h) q own others may.0, upkeep_lasts starts says h nodes q own now others u may.1)
  may_last (work.Move r) drawn same looks may = (come_left (live h) q own others may.0, ended_lasts r own h.past may.1, may.2)
  may_last (work.Tidy x) drawn same looks may = (come_left (live h) q own others may.0, may.1)
  may_last (work.Told e) drawn same looks may = (come_left (live h) q own others may.0, tell_lasts (live h) q own others e may.1)
