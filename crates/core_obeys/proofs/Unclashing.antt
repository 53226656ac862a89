-- A commit that clashes with no other draw outside its base isn't refused, and its command isn't answered with 10.
use Rattle.std.proofs.Common.{◌≡◌, ◌≢◌, ℕ, Bool, true, false, cond, Option, None, Some, List, [], ◌∷◌, ◌++◌, is_some, arith, refl, sym, ap, ◌∙◌, subst}
use Rattle.std.specs.Option.{unwrap_or}
use Rattle.std.specs.Fmt.{digits}
use Rattle.std.specs.Prelude.{◌||◌, slice_get}
use Rattle.std.proofs.lemmas.Bool.{and_parts, false≢true}
use Rattle.std.proofs.lemmas.Option.{none-some, some_pair_parts}
use Rattle.jr_path.specs.declared.name.Name.{Name}
use Rattle.jr_path.specs.declared.path.Item.{Item}
use Rattle.jr_rev.specs.declared.revision.Revision.{Revision}
use Rattle.jr_rev.specs.Revisions.{is_same}
use Rattle.jr_rev.proofs.Order.{same_revision}
use Rattle.jr_items.specs.Refusals.{clash_refusal, out_of_memory}
use Rattle.jr_tree.specs.Trees.{Nodes}
use Rattle.oak_machine.specs.declared.event.Draw.{Draw}
use Rattle.oak_machine.specs.declared.event.Event.{Event}
use Rattle.oak_machine.specs.declared.event.Event.TheVariants as event
use Rattle.oak_machine.specs.History.{Begin, History, Past}
use Rattle.oak_machine.specs.Commits.{draw_of, is_committed, is_drawn, is_in_flight, is_refused, marks_of, refusal_of, tree_at}
use Rattle.oak_machine.specs.Laws.{Says, Starts}
use Rattle.oak_machine.specs.Runs.{AreNodes, IsRunOf, MayRefuse, was_live_beside}
use Rattle.oak_machine.proofs.Induction.{committed_is_drawn, still_drawn}
use Rattle.core_heads.proofs.Runs.{fresh_run}
use Rattle.core_clash.specs.Sound.{Cause}
use Rattle.core_clash.proofs.Complete.{meets_clashing}
use Rattle.core_clash.proofs.Pasts.{cause_later, live_drawn as live_beside}
use Rattle.jcr_trans.specs.Answers.{Answer, Done, Refused, ShowsItems, ShowsNames, ShowsNothing, ShowsProperties, ShowsProperty, ShowsRevision, ShowsText, ShowsVector}
use Rattle.jcr_trans.specs.Texts.{answer_text}
use Rattle.jcr_trans.specs.declared.command.Command.{Command}
use Rattle.jcr_trans.specs.declared.command.Command.TheVariants as command
use Rattle.jcr_version.specs.Edits.{checked_in_version}
use Rattle.jcr_law.specs.declared.law.JcrLaw.{JcrLaw}
use Rattle.jcr_law.specs.AfterDraw.{AfterDraw, accepted, clash_told, stop_told, unmade}
use Rattle.jcr_law.specs.Commits.{committed_answer, version_answer}
use Rattle.jcr_law.specs.Law.{no_text}
use Rattle.jcr_law.specs.State.{Call}
use Rattle.jcr_law.specs.Tasks.{stopped_at}
use Rattle.core_obeys.specs.Answering.{NameOthers}
use Rattle.core_clash.specs.Unclashing.{IsUnclashing}

module _ (clusters : ℕ) (sessions : List ℕ) (nodes : AreNodes clusters sessions) (begin : Begin) (starts : Starts) (says : Says) where
  -- what was drawn keeps its draw
  kept : (e : Event) (past : Past) (r : Revision) → IsRunOf starts says clusters sessions begin (e ∷ past) → is_drawn past r ≡ true → draw_of (e ∷ past) r ≡ draw_of past r
  kept (event.Draw d) past r run drawn = elim (is_same r d.revision) as (λ b. is_same r d.revision ≡ b → cond b (Some d) (draw_of past r) ≡ draw_of past r) [
    | true ↦ λ same. absurd (false≢true (sym (ap (λ (o : Option Draw). is_some o) (fresh_run clusters sessions nodes begin starts says d past run).fresh) ∙ subst (λ (q : Revision). is_drawn past q ≡ true) (same_revision r d.revision same) drawn))
    | false ↦ λ other. refl
  ] refl
  kept e past r run drawn = refl

  drawn_later : (e : Event) (past : Past) (o : Revision) → is_drawn past o ≡ true → is_drawn (e ∷ past) o ≡ true
  drawn_later (event.Draw d) past o h = still_drawn (is_same o d.revision) d past o h
  drawn_later e past o h = h

  -- what lives beside another was drawn
  live_drawn : (past : Past) (r o : Revision) → IsRunOf starts says clusters sessions begin past → was_live_beside past r o ≡ true → is_drawn past o ≡ true
  live_drawn [] r o run h = absurd (false≢true h)
  live_drawn (e ∷ past) r o run h =
      by (is_committed (e ∷ past) o) (is_in_flight (e ∷ past) o) refl refl (live_drawn past r o run.1) (and_parts (is_drawn (e ∷ past) r) _ h).1
    where
      by : (a b : Bool) → is_committed (e ∷ past) o ≡ a → is_in_flight (e ∷ past) o ≡ b → (was_live_beside past r o ≡ true → is_drawn past o ≡ true)
          → (a || b || was_live_beside past r o) ≡ true → is_drawn (e ∷ past) o ≡ true
      by true b committed flying before k = committed_is_drawn starts says clusters sessions begin (λ q x h. sym (same_revision x q h)) (e ∷ past) o run committed
      by false true committed flying before k = (and_parts (is_drawn (e ∷ past) o) _ flying).0
      by false false committed flying before k = drawn_later e past o (before k)

  -- what comes later changes no draw of a cause
  cause_more : (e : Event) (past : Past) (r : Revision) (item : Item) (o : Revision) → IsRunOf starts says clusters sessions begin (e ∷ past) → Cause past r item o → Cause (e ∷ past) r item o
  cause_more e past r item o run c = cause_later e past r item o (kept e past r run (live_beside past r o c.live)) (kept e past o run c.other) c

  -- a refusal that names another has its cause
  pub cause_of : (past : Past) (r : Revision) (item : Item) (o : Revision) → IsRunOf starts says clusters sessions begin past → refusal_of past r ≡ Some (item, o) → r ≢ o → Cause past r item o
  cause_of [] r item o run is another = absurd (none-some (item, o) is)
  cause_of (event.Refuse q i x ∷ past) r item o run is another = elim (is_same r q) as (λ b. is_same r q ≡ b → cond b (Some (i, x)) (refusal_of past r) ≡ Some (item, o) → Cause (event.Refuse q i x ∷ past) r item o) [
    | true ↦ λ same named. let parts = some_pair_parts i item x o named in here (same_revision r q same) parts.0 parts.1
    | false ↦ λ other named. cause_more (event.Refuse q i x) past r item o run (cause_of past r item o run.1 named another)
  ] refl is
    where
      now : MayRefuse past r item o → Cause past r item o
      now may = record {
        another = another;
        other = live_drawn past r o run.1 may.live;
        met = may.met;
        outside = may.outside;
        live = may.live;
      }

      here : r ≡ q → i ≡ item → x ≡ o → Cause (event.Refuse q i x ∷ past) r item o
      here same of from = cause_more (event.Refuse q i x) past r item o run
          (now (subst (λ (y : Item). MayRefuse past r y o) of (subst (λ (y : Revision). MayRefuse past r i y) from (subst (λ (y : Revision). MayRefuse past y i x) (sym same) run.0))))
  cause_of (e ∷ past) r item o run is another = cause_more e past r item o run (cause_of past r item o run.1 is another)

  -- what clashes with no other outside its base isn't refused, where refusals name others
  pub unrefused : (past : Past) (r : Revision) → IsRunOf starts says clusters sessions begin past → NameOthers past → IsUnclashing past r → refusal_of past r ≡ None
  unrefused past r run others apart = by (refusal_of past r) refl
    where
      by : (o : Option (Item × Revision)) → refusal_of past r ≡ o → refusal_of past r ≡ None
      by None is = is
      by (Some (item, o)) is =
          let c = cause_of past r item o run is (others r item o is) in
          absurd (false≢true (sym (apart o c.another c.other c.outside) ∙ meets_clashing (marks_of past r) (marks_of past o) item c.met))

  -- what is refused for something is refused
  refused_is : (past : Past) (r : Revision) (x : Item × Revision) → refusal_of past r ≡ Some x → is_refused past r ≡ true
  refused_is [] r x is = absurd (none-some x is)
  refused_is (event.Refuse q i o ∷ past) r x is = elim (is_same r q) as (λ b. cond b (Some (i, o)) (refusal_of past r) ≡ Some x → (b || is_refused past r) ≡ true) [
    | true ↦ λ named. refl
    | false ↦ λ named. refused_is past r x named
  ] is
  refused_is (e ∷ past) r x is = refused_is past r x is

  -- and stays refused for that
  refused_still : (later past : Past) (r : Revision) (x : Item × Revision) → IsRunOf starts says clusters sessions begin (later ++ past) → refusal_of past r ≡ Some x → refusal_of (later ++ past) r ≡ Some x
  refused_still [] past r x run is = is
  refused_still (event.Refuse q i o ∷ later) past r x run is = elim (is_same r q) as (λ b. is_same r q ≡ b → cond b (Some (i, o)) (refusal_of (later ++ past) r) ≡ Some x) [
    | true ↦ λ same. absurd (false≢true (sym run.0.open_.not_refused ∙ subst (λ (y : Revision). is_refused (later ++ past) y ≡ true) (same_revision r q same) (refused_is (later ++ past) r x (refused_still later past r x run.1 is))))
    | false ↦ λ other. refused_still later past r x run.1 is
  ] refl
  refused_still (e ∷ later) past r x run is = refused_still later past r x run.1 is

  -- so they named others before
  pub named_others : (later past : Past) → IsRunOf starts says clusters sessions begin (later ++ past) → NameOthers (later ++ past) → NameOthers past
  named_others later past run others r item o is = others r item o (refused_still later past r (item, o) run is)

-- ---- texts

-- the byte of a text at a place
abbrev byte_at : ℕ → List ℕ → Option ℕ
byte_at n text = slice_get text n

no_ten : (item : Item) (o : Revision) → byte_at 4 (no_text (clash_refusal item o)) ≡ Some 48
unfolding digits
no_ten item o = refl

no_fourteen : (position : ℕ) → byte_at 4 (no_text (stopped_at position)) ≡ Some 52
unfolding digits
no_fourteen position = refl

no_sixteen : byte_at 4 (no_text out_of_memory) ≡ Some 54
unfolding digits
no_sixteen = refl

begins_no : (item : Item) (o : Revision) → byte_at 0 (no_text (clash_refusal item o)) ≡ Some 110
begins_no item o = refl

-- an answer that is no refusal
abbrev is_shown : Answer → Bool
is_shown (Refused n ds) = false
is_shown _ = true

shows_ok : (a : Answer) → is_shown a ≡ true → byte_at 0 (answer_text a) ≡ Some 111
shows_ok Done h = refl
shows_ok (ShowsProperty x) h = refl
shows_ok (ShowsNames x) h = refl
shows_ok (ShowsRevision x) h = refl
shows_ok (ShowsVector x) h = refl
shows_ok ShowsNothing h = refl
shows_ok (ShowsProperties x) h = refl
shows_ok (ShowsText x) h = refl
shows_ok (ShowsItems x) h = refl
shows_ok (Refused n ds) h = cc

-- a version's name is shown, or nothing
version_shown : (o : Option Name) → is_shown (version_answer o) ≡ true
version_shown None = refl
version_shown (Some n) = refl

committed_shown : (c : Call) (t : Nodes) (r : Revision) (m : Command) → is_shown (committed_answer c t r m) ≡ true
committed_shown c t r (command.Lock p deep) = refl
committed_shown c t r (command.Checkin p) = version_shown (checked_in_version t p)
committed_shown c t r m = refl

same_byte : (a b : ℕ) → Some a ≡ Some b → a ≡ b
same_byte a b e = ap (λ o. unwrap_or o a) e

-- once a draw was made that isn't refused, the reply is no 10
pub no_clash_told : (law : JcrLaw) (h : History) (s : ℕ) (m : Command) (d : Draw) (text : List ℕ) (item : Item) (o : Revision)
    → refusal_of h.past d.revision ≡ None → AfterDraw law h s m d text → text ≢ no_text (clash_refusal item o)
no_clash_told law h s m d _ item o none (accepted c made call) e =
    let n : 111 ≡ 110 = same_byte 111 110 (sym (shows_ok (committed_answer c (tree_at h.begin h.past d.base) d.revision m) (committed_shown c (tree_at h.begin h.past d.base) d.revision m)) ∙ (ap (byte_at 0) e ∙ begins_no item o)) in omega (arith, n)
no_clash_told law h s m d _ item o none (clash_told i q is) e = absurd (false≢true (ap (λ (x : Option (Item × Revision)). is_some x) (sym none ∙ is)))
no_clash_told law h s m d _ item o none (stop_told k p at is) e =
    let n : 52 ≡ 48 = same_byte 52 48 (sym (no_fourteen p) ∙ (ap (byte_at 4) e ∙ no_ten item o)) in omega (arith, n)
no_clash_told law h s m d _ item o none (unmade none_made) e =
    let n : 54 ≡ 48 = same_byte 54 48 (sym no_sixteen ∙ (ap (byte_at 4) e ∙ no_ten item o)) in omega (arith, n)
