-- What is held after a command was answered.
use Rattle.std.proofs.Common.{◌≡◌, ◌+◌, ℕ, Bool, true, false, cond, List, [], Some, refl, sym, ap, ◌∙◌, subst}
use Rattle.std.specs.Prelude.{IfOk, OnErr, OnOk, Result, Ok, Err, min}
use Rattle.std.specs.List.{All}
use Rattle.std.specs.String.{string_bytes}
use Rattle.std.specs.declared.alloc.AllocError.{AllocError}
use Rattle.std.specs.declared.alloc.Global.{Global}
use Rattle.std.specs.declared.string.String.{String}
use Rattle.std.proofs.lemmas.Bool.{false≢true, true≢false}
use Rattle.jr_part.specs.Parts.{Knowledge, LacksNothing}
use Rattle.jr_overlay.specs.Drafts.{Steps, with_steps}
use Rattle.jr_overlay.specs.Overlays.{AreOver, Changed, known_view, view_of, whole_view}
use Rattle.jr_tree.specs.declared.shared.Refusal.{Refusal}
use Rattle.jr_tree.specs.declared.shared.Who.{Who}
use Rattle.jr_tree.specs.Trees.{Nodes}
use Rattle.jr_types.specs.declared.TypeDef.{TypeDef}
use Rattle.jr_items.specs.Refusals.{out_of_memory}
use Rattle.jcr_observe.specs.declared.event.Filter.{Filter}
use Rattle.jr_path.specs.declared.path.Path.{Path}
use Rattle.jcr_fill.specs.Makings.{Making, making}
use Rattle.jcr_trans.specs.Answers.{Answer, Done}
use Rattle.jcr_trans.specs.Texts.{answer_text}
use Rattle.jcr_trans.specs.declared.command.Command.{Command}
use Rattle.jcr_trans.specs.declared.command.Command.TheVariants as command
use Rattle.jcr_view.specs.Needs.{needs_of}
use Rattle.jcr_view.specs.Outcomes.{Evaluated, CommandOutcome, eval, is_viewed, is_writing, made_outcome, outcome, shown_outcome, written_outcome}
use Rattle.jcr_read.specs.Reading.{refused, shown}
use Rattle.jcr_view.specs.Parts.{IsPartOf}
use Rattle.jcr_law.specs.declared.state.State.{State}
use Rattle.jcr_law.specs.State.{Call, accepted, counted, is_ok_text, used, viewed}
use Rattle.jcr_law.specs.Calls.{call_after, with_state}
use Rattle.jcr_held.specs.declared.held.Held.{Held}
use Rattle.jcr_held.specs.Accepts.{IsFilterOf}
use Rattle.jcr_held.specs.Alike.{AreAlike, with_drawn}
use Rattle.jcr_held.specs.Holds.{Holds, HoldsView}
use Rattle.jcr_held.specs.Sees.{IsSeen, Sees, outcome_of, with_outcome}
use Rattle.jcr_held.proofs.Holding.{holds_alike, view_settled}

-- ---- identifiers are counted

-- the call's own state is one with which it has
holds_own : (c : Call) (x : Held) → Holds c x → Holds (with_state c c.state) x
holds_own c x h = record {
  types = h.types;
  who = h.who ∙ ap (λ (n : ℕ). record c.who { ids = n }) h.ids;
  ids = refl;
  tokens = h.tokens;
  cursor = h.cursor;
  view = h.view;
  earlier = h.earlier;
  references = h.references;
}

holds_counted : (c : Call) (x : Held) (state : State) (ok drew : Bool) (m : Command) → Holds (with_state c state) x
    → Holds (with_state c (counted ok drew m state)) (with_drawn x (used ok drew m))
holds_counted c x state ok drew m h = record {
  types = h.types;
  who = ap (λ (w : Who). record w { ids = min (w.ids + used ok drew m) 16777215 }) h.who;
  ids = refl;
  tokens = h.tokens;
  cursor = h.cursor;
  view = h.view;
  earlier = h.earlier;
  references = h.references;
}

-- once it observes
observed : (c : Call) (x : Held) (p : Path) (deep : Bool) (mask : ℕ) → Holds c x
    → Holds (with_state c (accepted c (command.Observe p deep mask)))
    (record x { cursor = Some (record { at = x.who.base; filter = record { path = p; deep = deep; mask = mask } }) })
observed c x p deep mask h = record {
  types = h.types;
  who = h.who ∙ ap (λ (n : ℕ). record c.who { ids = n }) h.ids;
  ids = refl;
  tokens = h.tokens;
  cursor = ap (λ (w : Who). Some (record { at = w.base; filter = record { path = p; deep = deep; mask = mask } })) h.who;
  view = h.view;
  earlier = h.earlier;
  references = h.references;
}

pub holds_observed : (c : Call) (x y : Held) (m : Command) (f : Filter) → IsFilterOf m f
    → AreAlike (with_drawn (record x { cursor = Some (record { at = x.who.base; filter = f }) }) (used true false m)) y → Holds c x
    → Holds (call_after true false c m) y
holds_observed c x y (command.Observe p deep mask) f is alike h =
    holds_alike _ _ y alike
    (subst (λ (g : Filter). Holds (call_after true false c (command.Observe p deep mask))
    (with_drawn (record x { cursor = Some (record { at = x.who.base; filter = g }) }) 0)) (sym is)
    (holds_counted c _ (accepted c (command.Observe p deep mask)) true false (command.Observe p deep mask) (observed c x p deep mask h)))
holds_observed c x y m f is alike h = absurd is

-- ---- commands of the view

viewed_uses_none : (ok : Bool) (m : Command) → is_viewed m ≡ true → used ok false m ≡ 0
viewed_uses_none ok (command.Lock p deep) h = refl
viewed_uses_none ok (command.Checkin p) h = refl
viewed_uses_none ok command.Checkpoint h = absurd (false≢true h)
viewed_uses_none ok m h = refl

abbrev is_done : Answer → Bool
is_done Done = true
is_done a = false

-- a command that isn't accepted makes nothing
unaccepted_makes_none : (writes : Bool) (ids : ℕ) (made : Result Making Refusal) (shown : Answer)
    → is_ok_text (answer_text (cond writes (made_outcome ids made) (shown_outcome ids shown)).answer) ≡ false
    → ((cond writes (made_outcome ids made) (shown_outcome ids shown)).steps ≡ [])
    × ((cond writes (made_outcome ids made) (shown_outcome ids shown)).ids ≡ ids)
unaccepted_makes_none true ids (Ok m) shown h = absurd (true≢false h)
unaccepted_makes_none true ids (Err r) shown h = (refl, refl)
unaccepted_makes_none false ids made shown h = (refl, refl)

refused_makes_none : (writes : Bool) (ids : ℕ) (made : Result Making Refusal) (shown : Answer) (r : Refusal)
    → (cond writes (made_outcome ids made) (shown_outcome ids shown)).answer ≡ refused r
    → ((cond writes (made_outcome ids made) (shown_outcome ids shown)).steps ≡ [])
    × ((cond writes (made_outcome ids made) (shown_outcome ids shown)).ids ≡ ids)
refused_makes_none true ids (Ok m) shown r h = absurd (true≢false (ap is_done h))
refused_makes_none true ids (Err e) shown r h = (refl, refl)
refused_makes_none false ids made shown r h = (refl, refl)

-- what makes nothing leaves what is held
leaves : (x : Held) (o : CommandOutcome) → o.steps ≡ [] → o.ids ≡ x.who.ids → with_outcome x o ≡ x
leaves x o none drawn =
    ap (λ (s : Steps). record x { pending = with_steps x.part.nodes x.pending s; who = record x.who { ids = o.ids } }) none
    ∙ ap (λ (n : ℕ). record x { who = record x.who { ids = n } }) drawn

refused_leaves : (x : Held) (m : Command) (r : Refusal) → (outcome_of x m).answer ≡ refused r
    → with_outcome x (outcome_of x m) ≡ x
refused_leaves x m r h =
    let none = refused_makes_none (is_writing m) x.who.ids
    (written_outcome x.types x.who (known_view x.part x.pending) m (making [] x.who.ids))
    (shown x.types (known_view x.part x.pending) x.part.nodes m) r h in
    leaves x (outcome_of x m) none.0 none.1

-- a refusal that is told leaves all as it was
pub told_leaves : (x y : Held) (m : Command) (r : Refusal) (Q : String Global → Type 0) (result : Result (String Global) AllocError) → y ≡ x
    → (¬ (r ≡ out_of_memory) → (outcome_of x m).answer ≡ refused r)
    → IfOk result (λ text. ¬ (r ≡ out_of_memory) × Q text) → OnOk result (y ≡ with_outcome x (outcome_of x m))
told_leaves x y m r Q (Ok text) same refuses told = same ∙ sym (refused_leaves x m r (refuses told.0))
told_leaves x y m r Q (Err e) same refuses told = tt

unaccepted_leaves : (x : Held) (m : Command) → is_ok_text (answer_text (outcome_of x m).answer) ≡ false
    → with_outcome x (outcome_of x m) ≡ x
unaccepted_leaves x m h =
    let none = unaccepted_makes_none (is_writing m) x.who.ids
    (written_outcome x.types x.who (known_view x.part x.pending) m (making [] x.who.ids))
    (shown x.types (known_view x.part x.pending) x.part.nodes m) h in
    leaves x (outcome_of x m) none.0 none.1

-- the command takes or drops a lock token
abbrev pub is_of_tokens : Command → Bool
is_of_tokens (command.Token t) = true
is_of_tokens (command.DropToken t) = true
is_of_tokens m = false

pub of_no_token : (m : Command) → ((t : List ℕ) → ¬ (m ≡ command.Token t)) → ((t : List ℕ) → ¬ (m ≡ command.DropToken t))
    → is_of_tokens m ≡ false
of_no_token (command.Token t) takes drops = absurd (takes t refl)
of_no_token (command.DropToken t) takes drops = absurd (drops t refl)
of_no_token m takes drops = refl

accepted_viewed : (c : Call) (m : Command) → is_viewed m ≡ true → is_of_tokens m ≡ false
    → accepted c m ≡ viewed (eval c.types c.who c.base c.state.view m) c.state
accepted_viewed c command.Save h other = absurd (false≢true h)
accepted_viewed c (command.Refresh false) h other = absurd (false≢true h)
accepted_viewed c (command.Token t) h other = absurd (true≢false other)
accepted_viewed c (command.DropToken t) h other = absurd (true≢false other)
accepted_viewed c (command.Lock p deep) h other = absurd (false≢true h)
accepted_viewed c (command.Observe p deep mask) h other = absurd (false≢true h)
accepted_viewed c command.Events h other = absurd (false≢true h)
accepted_viewed c m h other = ap (λ b. cond b (viewed (eval c.types c.who c.base c.state.view m) c.state) c.state) h

module _ (enough : (types : List TypeDef) (who : Who) (t : Nodes) (k : Knowledge) (p : Changed) (m : Command)
    → IsPartOf t k p → All (LacksNothing k) (needs_of who k p m)
    → outcome types who (known_view k p) k.nodes m ≡ outcome types who (whole_view (view_of t p)) t m)
    (over : (types : List TypeDef) (who : Who) (t : Nodes) (k : Knowledge) (p : Changed) (m : Command)
    → IsPartOf t k p → All (LacksNothing k) (needs_of who k p m)
    → AreOver t (with_steps k.nodes p (outcome types who (known_view k p) k.nodes m).steps))
    (view : (types : List TypeDef) (who : Who) (t : Nodes) (k : Knowledge) (p : Changed) (m : Command)
    → IsPartOf t k p → All (LacksNothing k) (needs_of who k p m)
    → view_of t (with_steps k.nodes p (outcome types who (known_view k p) k.nodes m).steps)
    ≡ (eval types who t (view_of t p) m).view)
    (c : Call) (x : Held) (m : Command) (holds : Holds c x) (settled : x.is_kept ≡ false)
    (known : All (LacksNothing x.part) (needs_of x.who x.part x.pending m)) where
  abbrev o : CommandOutcome
  o = outcome_of x m

  abbrev e : Evaluated
  e = eval c.types c.who c.base c.state.view m

  seen : HoldsView c x.part x.pending false
  seen = view_settled c x settled holds

  -- what is known is seen as the law has it
  as_law : (P : CommandOutcome → Type 0)
      → P (outcome c.types c.who (whole_view c.state.view) c.base m) → P o
  as_law P h = subst P (sym (enough x.types x.who c.base x.part x.pending m seen.0 known
      ∙ ap (λ (t : List TypeDef). outcome t x.who (whole_view (view_of c.base x.pending)) c.base m) holds.types
      ∙ ap (λ (w : Who). outcome c.types w (whole_view (view_of c.base x.pending)) c.base m) holds.who
      ∙ ap (λ (v : Nodes). outcome c.types c.who (whole_view v) c.base m) seen.1)) h

  evaluated_same : eval x.types x.who c.base (view_of c.base x.pending) m ≡ e
  evaluated_same =
      ap (λ (t : List TypeDef). eval t x.who c.base (view_of c.base x.pending) m) holds.types
      ∙ ap (λ (w : Who). eval c.types w c.base (view_of c.base x.pending) m) holds.who
      ∙ ap (λ (v : Nodes). eval c.types c.who c.base v m) seen.1

  view_after : HoldsView (with_state c (viewed e c.state)) x.part (with_steps x.part.nodes x.pending o.steps) false
  view_after = (
    record {
      tree = seen.0.tree;
      order = seen.0.order;
      agrees = seen.0.agrees;
      over = over x.types x.who c.base x.part x.pending m seen.0 known;
    },
    view x.types x.who c.base x.part x.pending m seen.0 known ∙ ap (λ (d : Evaluated). d.view) evaluated_same,
  )

  counts : Holds (with_state c (viewed e c.state)) (with_outcome x o)
  counts = record {
    types = holds.types;
    who = ap (λ (w : Who). record w { ids = o.ids }) holds.who
        ∙ as_law (λ (d : CommandOutcome). record c.who { ids = d.ids } ≡ record c.who { ids = e.ids }) refl;
    ids = refl;
    tokens = holds.tokens;
    cursor = holds.cursor;
    view = subst (λ (b : Bool). HoldsView (with_state c (viewed e c.state)) x.part (with_steps x.part.nodes x.pending o.steps) b)
        (sym settled) view_after;
    earlier = holds.earlier;
    references = holds.references;
  }

  counts_or : is_viewed m ≡ true → is_of_tokens m ≡ false → (b : Bool) → is_ok_text (answer_text o.answer) ≡ b
      → Holds (with_state c (cond b (accepted c m) c.state)) (with_outcome x o)
  counts_or of_view other true is =
      subst (λ (s : State). Holds (with_state c s) (with_outcome x o)) (sym (accepted_viewed c m of_view other)) counts
  counts_or of_view other false is =
      subst (λ (y : Held). Holds (with_state c c.state) y) (sym (unaccepted_leaves x m is)) (holds_own c x holds)

  pub is_seen : is_viewed m ≡ true → is_of_tokens m ≡ false → (text : List ℕ) → text ≡ answer_text o.answer
      → IsSeen c m (with_drawn (with_outcome x o) 0) text
  is_seen of_view other text is = record {
    text = is ∙ as_law (λ (d : CommandOutcome). answer_text d.answer ≡ answer_text e.answer) refl;
    holds = subst (λ (n : ℕ). Holds (call_after (is_ok_text text) false c m) (with_drawn (with_outcome x o) n))
        (viewed_uses_none (is_ok_text text) m of_view)
        (holds_counted c (with_outcome x o) (cond (is_ok_text text) (accepted c m) c.state) (is_ok_text text) false m
        (counts_or of_view other (is_ok_text text) (ap is_ok_text (sym is))));
  }

  -- the command is answered so, or all is as it was
  pub sees : is_viewed m ≡ true → is_of_tokens m ≡ false → (result : Result (String Global) AllocError) (y : Held)
      → IfOk result (λ text. string_bytes text ≡ answer_text o.answer)
      → OnOk result (AreAlike (with_drawn (with_outcome x o) 0) y) → OnErr result (y ≡ x) → Sees c m y result
  sees of_view other (Ok text) y told counted same =
      let seen : IsSeen c m (with_drawn (with_outcome x o) 0) (string_bytes text) = is_seen of_view other (string_bytes text) told in
      record { text = seen.text; holds = holds_alike _ (with_drawn (with_outcome x o) 0) y counted seen.holds }
  sees of_view other (Err e) y told counted same = subst (λ (z : Held). Holds c z) (sym same) holds
