-- How a cut grows along a run: a part that is one stays one when events come later.
use Rattle.std.proofs.Common.{◌≡◌, ℕ, Bool, true, false, cond, not, ◌&&◌, ◌||◌, None, Some, Option, List, [], ◌∷◌, ◌++◌, refl, sym, ap, ◌∙◌}
use Rattle.std.specs.Option.{option_map_or}
use mathlib.Core.Bool.{false≢true}
use Rattle.oak_machine.specs.declared.event.Event.{Event}
use Rattle.oak_machine.specs.History.{Past}
use Rattle.jr_script.specs.declared.script.Script.{Script}
use Rattle.jr_script.specs.declared.script.Entry.TheVariants as entry
use Rattle.jr_stage.specs.Places.{is_own, is_at_last, is_next, next_of, is_commit, is_write_or_mark, is_of_turn}
use Rattle.jr_stage.specs.Parts.{Rule, by_entry, Part, part_session, is_part_over, must_end, may_end, goes_on, is_turn, is_part, events_of, IsCut}
use Rattle.jr_stage.specs.Growing.{looks_ahead, LookBack, knows_next, is_step_quiet, StaysPart, StayParts}

both : (a b x c d : Bool) → a ≡ b → c ≡ d → (not a && x && c) ≡ (not b && x && d)
both a b x c d p q = ap (λ (u : Bool). not u && x && c) p ∙ ap (λ (w : Bool). not b && x && w) q

module _ (script : Script) where
  same_must : (rule : Rule) (before part : Past) (l m : List Event) → looks_ahead rule ≡ false → must_end script rule before part l ≡ must_end script rule before part m
  same_must (by_entry (entry.Last s)) before part l m h = absurd (false≢true (sym h))
  same_must rule before part l m h = refl

  same_may : (rule : Rule) (before part : Past) (l m : List Event) → looks_ahead rule ≡ false → may_end script rule before part l ≡ may_end script rule before part m
  same_may (by_entry (entry.Last s)) before part l m h = absurd (false≢true (sym h))
  same_may rule before part l m h = refl

  same_way : (rule : Rule) (before part : Past) (l m : List Event) → looks_ahead rule ≡ false → goes_on script rule before part l ≡ goes_on script rule before part m
  same_way rule before [] l m h = refl
  same_way rule before (e ∷ part) l m h = both _ _ (is_of_turn script (part ++ before) (part_session rule) e) _ _ (same_must rule before part (e ∷ l) (e ∷ m) h) (same_way rule before part (e ∷ l) (e ∷ m) h)

  two : (a b c d : Bool) → a ≡ b → c ≡ d → (a && c) ≡ (b && d)
  two a b c d p q = ap (λ (u : Bool). u && c) p ∙ ap (λ (w : Bool). b && w) q

  -- whether the events are a part doesn't hang on what comes later
  pub same_part : (rule : Rule) (before part : Past) (l m : List Event) → looks_ahead rule ≡ false → is_part script rule before part l ≡ is_part script rule before part m
  same_part (by_entry (entry.Turn s)) before part l m h = ap (λ (w : Bool). is_turn script s before part && w) (same_way (by_entry (entry.Turn s)) before part l m h)
  same_part rule before part l m h = two _ _ _ _ (same_may rule before part l m h) (same_way rule before part l m h)

  -- a cut of parts that don't look ahead stays one, whatever comes later
  pub cut_stays : (parts : List Part) (l m : List Event) → LookBack parts → IsCut script parts l → IsCut script parts m
  cut_stays [] l m back cut = tt
  cut_stays (p ∷ parts) l m back cut = (sym (same_part p.rule (events_of parts) p.events l m back.0) ∙ cut.0, cut_stays parts _ _ back.1 cut.1)

  -- so a run of such entries adds part after part
  pub one_more : (p : Part) (parts : List Part) → LookBack parts → IsCut script parts [] → is_part script p.rule (events_of parts) p.events [] ≡ true → IsCut script (p ∷ parts) []
  one_more p parts back cut part = (part, cut_stays parts [] _ back cut)

-- the next event of s stays, once there is one
pub next_stays : (past : Past) (s : ℕ) (later more : List Event) (f : Event) → next_of past s later ≡ Some f → next_of past s (later ++ more) ≡ Some f
next_stays past s [] more f h = absurd (none_is_some h)
  where
    nothing : Option Event
    nothing = None

    none_is_some : nothing ≡ Some f → ⊥
    none_is_some e = false≢true (ap (λ (o : Option Event). option_map_or (λ x. true) o false) e)
next_stays past s (e ∷ later) more f h = by (is_own past s e) (next_of (e ∷ past) s later) (next_of (e ∷ past) s (later ++ more)) (next_stays (e ∷ past) s later more f) h
  where
    by : (b : Bool) (o q : Option Event) → (o ≡ Some f → q ≡ Some f) → cond b (Some e) o ≡ Some f → cond b (Some e) q ≡ Some f
    by true o q rest k = k
    by false o q rest k = rest k

halves : (a b : Bool) → (a && b) ≡ true → (a ≡ true) × (b ≡ true)
halves true b h = (refl, h)
halves false b h = absurd (false≢true h)

-- an own event is the next one
own_is_next : (test : Event → Bool) (past : Past) (s : ℕ) (e : Event) (later : List Event) → is_own past s e ≡ true → is_next test past s (e ∷ later) ≡ test e
own_is_next test past s e later own = ap (λ (b : Bool). option_map_or test (cond b (Some e) (next_of (e ∷ past) s later)) false) own

module _ (script : Script) (s : ℕ) where
  abbrev waits : Rule
  waits = by_entry (entry.Last s)

  -- what must end looks at the first event that is the session's own, where it looks ahead at all
  same_last_must : (before part : Past) (e : Event) (l m : List Event) → (is_own (part ++ before) s e || not (is_at_last (part ++ before) s)) ≡ true → must_end script waits before part (e ∷ l) ≡ must_end script waits before part (e ∷ m)
  same_last_must before part e l m knows = by (is_own (part ++ before) s e) (is_at_last (part ++ before) s) refl refl knows
    where
      by : (own last : Bool) → is_own (part ++ before) s e ≡ own → is_at_last (part ++ before) s ≡ last → (own || not last) ≡ true → must_end script waits before part (e ∷ l) ≡ must_end script waits before part (e ∷ m)
      by true last own at k =
          ap (λ (b : Bool). is_part_over script waits before part || (is_at_last (part ++ before) s && b))
          (own_is_next is_commit (part ++ before) s e l own ∙ sym (own_is_next is_commit (part ++ before) s e m own))
      by false false own at k =
          ap (λ (b : Bool). is_part_over script waits before part || (b && is_next is_commit (part ++ before) s (e ∷ l))) at
          ∙ sym (ap (λ (b : Bool). is_part_over script waits before part || (b && is_next is_commit (part ++ before) s (e ∷ m))) at)
      by false true own at k = absurd (false≢true k)

  same_last_way : (before part : Past) (l m : List Event) → knows_next s before part ≡ true → goes_on script waits before part l ≡ goes_on script waits before part m
  same_last_way before [] l m knows = refl
  same_last_way before (e ∷ part) l m knows =
      let h = halves _ _ knows in
      both _ _ (is_of_turn script (part ++ before) s e) _ _ (same_last_must before part e l m h.0) (same_last_way before part (e ∷ l) (e ∷ m) h.1)

  still : (d a n k : Bool) → (d || (a && not n)) ≡ true → (d || not k) ≡ true → (d || (a && not k)) ≡ true
  still true a n k h e = refl
  still false true n k h e = e
  still false false n k h e = h

  -- a part that waits for a last write stays one, where the next event of its session, once there is one, is no Write or Mark
  pub last_part_stays : (before part : Past) (l m : List Event) → knows_next s before part ≡ true → is_step_quiet script waits s before part m ≡ true
      → is_part script waits before part l ≡ true → is_part script waits before part m ≡ true
  last_part_stays before part l m knows quiet h =
      let k = halves _ _ h in
      let ends : may_end script waits before part m ≡ true = still (is_part_over script waits before part) (is_at_last (part ++ before) s) (is_next is_write_or_mark (part ++ before) s l) (is_next is_write_or_mark (part ++ before) s m) k.0 quiet in
      ap (λ (b : Bool). b && goes_on script waits before part m) ends ∙ (sym (same_last_way before part l m knows) ∙ k.1)

module _ (script : Script) where
  part_stays : (rule : Rule) (before part : Past) (l m : List Event) → StaysPart script rule before part m → is_part script rule before part l ≡ true → is_part script rule before part m ≡ true
  part_stays (by_entry (entry.Last s)) before part l m stays h = last_part_stays script s before part l m stays.0 stays.1 h
  part_stays rule before part l m stays h = sym (same_part script rule before part l m refl) ∙ h

  -- a cut grows, of whatever parts
  pub cut_grows : (parts : List Part) (l m : List Event) → StayParts script parts m → IsCut script parts l → IsCut script parts m
  cut_grows [] l m stay cut = tt
  cut_grows (p ∷ parts) l m stay cut = (part_stays p.rule (events_of parts) p.events l m stay.0 cut.0, cut_grows parts _ _ stay.1 cut.1)

  -- what is under way doesn't hang on what comes later, where each place knows the next event that counts there
  pub way_stays : (rule : Rule) (before part : Past) (l m : List Event) → knows_next (part_session rule) before part ≡ true → goes_on script rule before part l ≡ goes_on script rule before part m
  way_stays (by_entry (entry.Last s)) before part l m knows = same_last_way script s before part l m knows
  way_stays rule before part l m knows = same_way script rule before part l m refl

  -- the part under way goes on by an event of its session's turns, where it need not have ended before
  pub part_grows : (rule : Rule) (before part : Past) (e : Event) → knows_next (part_session rule) before part ≡ true → goes_on script rule before part [] ≡ true
      → must_end script rule before part (e ∷ []) ≡ false → is_of_turn script (part ++ before) (part_session rule) e ≡ true → goes_on script rule before (e ∷ part) [] ≡ true
  part_grows rule before part e knows goes may own =
      both _ false _ _ true may (sym (way_stays rule before part [] (e ∷ []) knows) ∙ goes) ∙ ap (λ (w : Bool). w && true) own
