-- What a step of a session adds, by what is told of it: nothing, an event, or the end of a revision with a head that moves; and none of it is another session's.
use mathlib.Core.Bool.{false≢true}
use Rattle.std.proofs.Common.{◌≡◌, ◌⊎◌, inl, inr, ℕ, ◌+◌, Bool, true, false, cond, ◌||◌, Option, Some, None, [], ◌∷◌, ◌++◌, length, refl, sym, ap, ◌∙◌, subst, arith, length-append}
use Rattle.std.specs.Prelude.{◌==◌, reverse}
use Rattle.std.specs.List.{list_any}
use Rattle.std.specs.Option.{option_map_or}
use Rattle.jr_rev.specs.declared.revision.Revision.{Revision}
use Rattle.jr_rev.specs.declared.vector.RevVec.{RevVec}
use Rattle.oak_machine.specs.declared.event.Draw.{Draw}
use Rattle.oak_machine.specs.declared.event.Event.{Event}
use Rattle.oak_machine.specs.declared.event.Event.TheVariants as event
use Rattle.oak_machine.specs.declared.event.StepKind.{StepKind}
use Rattle.oak_machine.specs.declared.event.StepKind.TheVariants as kind
use Rattle.oak_machine.specs.History.{History, Past}
use Rattle.oak_machine.specs.Commits.{draw_of}
use Rattle.oak_machine.specs.Laws.{AreOthers, is_event_of}
use Rattle.oak_machine.specs.Steps.{is_appended_by, is_kind, kinds_for, leaves_went}
use Rattle.oak_machine.proofs.Induction.{first_of_both}
use Rattle.core_world.proofs.Flights.{number_itself, same_number}
use Rattle.oak_port.specs.declared.task.StepOut.{StepOut}
use Rattle.oak_port.specs.declared.task.StepOut.TheVariants as out
use Rattle.oak_port.specs.declared.task.Task.TheVariants as task
use Rattle.oak_port.specs.declared.task.TaskEnd.TheVariants as end
use Rattle.oak_port.specs.Ports.{AreOfStep, Awaiting, Deciding, Detaching, IsFinish, Learning, Makes, BoundsOn, Collecting, CollectsOn, Passing, Publishing, SplitsOn, Starting, Sweeping, SweepsOn, Undoing, Work as Shows, Writing, WritesOn, last_kind}
use Rattle.oak_world.proofs.Asking.{of_kind, tested}
use Rattle.jr_shared.proofs.Lists.{flipped}
use Rattle.jr_shared.specs.Meanings.{own_events}

-- ---- how much is added

-- what a step adds: nothing; events; or either nothing or that it split, where its answer doesn't
-- tell which
pub data Adds : Type 0 where
  Nothing : Adds
  Events : Adds
  Either : Adds

abbrev adds : Shows → StepOut → Adds
adds w out.Memory = Nothing
adds w (out.Wait q) = Nothing
adds (Starting (task.Load p)) o = Nothing
adds (Starting (task.List p)) o = Nothing
adds (Starting (task.Changes since)) o = Nothing
adds (Starting (task.Split p)) (out.Went kind.Read) = Nothing
adds (Starting (task.Split p)) (out.Ready e) = Either
adds Collecting (out.Went kind.Read) = Nothing
adds (Writing r) (out.Went kind.Read) = Nothing
adds w o = Events

abbrev is_head : Event → Bool
is_head (event.Head k v) = true
is_head _ = false

-- an event that moves no head, or the end of a revision and a head that moves
abbrev IsAdded : Past → Type 0
IsAdded own = ((e : Event) × (own ≡ e ∷ []) × (is_head e ≡ false)) ⊎ ((k : ℕ) × (v : RevVec) × (r : Revision) × (own ≡ event.Head k v ∷ (event.End r ∷ [])))

abbrev pub IsShaped : ℕ → Adds → Past → Type 0
IsShaped s Events own = IsAdded own
IsShaped s Nothing own = own ≡ []
IsShaped s Either own = (own ≡ []) ⊎ (own ≡ event.Went s kind.Split ∷ [])

finished : (r : Revision) (own : Past) → IsFinish r own → IsAdded own
finished r own (inl e) = inl (event.End r, e, refl)
finished r own (inr m) = inr (m.0, m.1, r, m.2)

-- a commit that writes adds an event, but where it reads a previous document
written : (s : ℕ) (r : Revision) (k : StepKind) (own : Past) (now : Shows) → (k ≡ kind.Read → ⊥) → WritesOn s r k own now → IsAdded own
written s r k own now counted (inl m) = inl (event.Went s kind.Write, m.1, refl)
written s r k own now counted (inr (inl m)) = absurd (counted m.0)
written s r k own now counted (inr (inr (inl m))) = inl (event.Went s kind.Mark, m.1, refl)
written s r k own now counted (inr (inr (inr (inl m)))) = inl (event.Commit r, m.1, refl)
written s r k own now counted (inr (inr (inr (inr m)))) = inl (event.Refuse r m.0 m.1, m.3, refl)

looked : (s : ℕ) (r : Revision) (own : Past) (now : Shows) → WritesOn s r kind.Read own now → own ≡ []
looked s r own now (inl m) = let never : kind.Read ≡ kind.Write = m.0 in cc
looked s r own now (inr (inl m)) = m.1
looked s r own now (inr (inr (inl m))) = let never : kind.Read ≡ kind.Mark = m.0 in cc
looked s r own now (inr (inr (inr (inl m)))) = let never : kind.Read ≡ kind.Last = m.0 in cc
looked s r own now (inr (inr (inr (inr m)))) = elim m.2 [ inl e ↦ (let never : kind.Read ≡ kind.Mark = e in cc) | inr e ↦ (let never : kind.Read ≡ kind.Last = e in cc) ]

swept : (h : History) (s : ℕ) (r : Revision) (k : StepKind) (own : Past) (now : Shows) → SweepsOn h s r k own now → IsAdded own
swept h s r k own now (is, inl m) = inl (event.Went s kind.Sweep, m.0, refl)
swept h s r k own now (is, inr m) = inl (event.Sweep m.0 r, m.2, refl)

-- a split that goes on reads, or changes a document
split_read : (s : ℕ) (own : Past) → SplitsOn s kind.Read own → own ≡ []
split_read s own (inl m) = m.1
split_read s own (inr m) = let never : kind.Read ≡ kind.Split = m.0 in cc

split_made : (s : ℕ) (k : StepKind) (own : Past) → (k ≡ kind.Read → ⊥) → SplitsOn s k own → IsAdded own
split_made s k own counted (inl m) = absurd (counted m.0)
split_made s k own counted (inr m) = inl (event.Went s kind.Split, m.1, refl)

split_ends : (s : ℕ) (k : StepKind) (own : Past) → SplitsOn s k own → IsShaped s Either own
split_ends s k own (inl m) = inl m.1
split_ends s k own (inr m) = inr m.1

-- a collection reads a part of its bound, or takes that; then it reads, or changes a document
bounded : (s : ℕ) (own : Past) (now : Shows) → BoundsOn s own now → IsAdded own
bounded s own now (inl m) = inl (event.Went s kind.Bound, m.0, refl)
bounded s own now (inr m) = inl (event.Bound m.0 m.1, m.2, refl)

collected_read : (s : ℕ) (own : Past) → CollectsOn s kind.Read own → own ≡ []
collected_read s own (inl m) = m.1
collected_read s own (inr m) = let never : kind.Read ≡ kind.Collect = m.0 in cc

collected : (s : ℕ) (k : StepKind) (own : Past) → (k ≡ kind.Read → ⊥) → CollectsOn s k own → IsAdded own
collected s k own counted (inl m) = absurd (counted m.0)
collected s k own counted (inr m) = inl (event.Went s kind.Collect, m.1, refl)

pub shaped : (h : History) (s : ℕ) (w : Shows) (o : StepOut) (own : Past) (now : Shows) → Makes h s w o own now → IsShaped s (adds w o) own
shaped h s (Starting task.Login) (out.Ready (end.Pinned pin)) own now m = inl (event.Login s pin.base, m.0, refl)
shaped h s (Starting task.Refresh) (out.Ready (end.Pinned pin)) own now m = inl (event.Refresh s pin.base, m.0, refl)
shaped h s (Starting task.End) (out.Ready end.Ended) own now m = inl (event.Went s kind.End, m.0, refl)
shaped h s (Starting (task.Load p)) (out.Went k) own now m = m.1
shaped h s (Starting (task.Load p)) (out.Ready (end.Node found)) own now m = m.1
shaped h s (Starting (task.List p)) (out.Went k) own now m = m.1
shaped h s (Starting (task.List p)) (out.Ready (end.Children names)) own now m = m.1
shaped h s (Starting (task.Commit edit marks)) (out.Went k) own now m = inl (event.Draw m.0, m.3, refl)
shaped h s (Starting task.BackWrite) (out.Went k) own now m = inl (event.Went s kind.Back, m.3, refl)
shaped h s (Starting task.BackRead) (out.Went k) own now m = inl (event.Went s kind.Back, m.3, refl)
shaped h s (Starting task.Sweep) (out.Went k) own now m = inl (event.Went s kind.Sweep, m.3, refl)
shaped h s (Starting (task.Checkpoint i)) (out.Ready (end.Set None)) own now m = inl (event.Checkpoint i m.0, m.2, refl)
shaped h s (Starting (task.Release i)) (out.Ready (end.Set None)) own now m = inl (event.Release i, m.0, refl)
shaped h s (Starting (task.Release i)) (out.Ready end.NoCheckpoint) own now m = inl (event.Went s kind.Settings, m.1, refl)
shaped h s (Starting (task.Attach i)) (out.Ready (end.Set (Some pin))) own now m = inl (event.Attach s i, m.1, refl)
shaped h s (Starting (task.Attach i)) (out.Ready end.NoCheckpoint) own now m = inl (event.Went s kind.Settings, m.1, refl)
shaped h s (Starting task.Detach) (out.Went k) own now m = inl (event.Refresh s m.0, m.2, refl)
shaped h s (Starting (task.Changes since)) (out.Went k) own now m = m.1
shaped h s (Starting (task.Changes since)) (out.Ready (end.Changes found)) own now m = m.3
shaped h s (Starting task.Observe) (out.Ready (end.Pinned pin)) own now m = inl (event.Went s kind.Pin, m.1, refl)
shaped h s (Starting (task.Split p)) (out.Went kind.Read) own now m = split_read s own m.0
shaped h s (Starting (task.Split p)) (out.Went k) own now m = split_made s k own (λ e. cc) m.0
shaped h s (Starting (task.Split p)) (out.Ready (end.Split e)) own now m = split_ends s m.0 own m.1
shaped h s (Starting task.Collect) (out.Went k) own now m = bounded s own now m.1
shaped h s (Starting t) out.Memory own now m = m.0
shaped h s (Publishing r) (out.Went k) own now m = inl (event.Went s kind.Back, m.1, refl)
shaped h s (Publishing r) (out.Ready (end.Published o)) own now m = inl (event.Out m.0 r, m.3, refl)
shaped h s (Publishing r) out.Memory own now m = m.0
shaped h s (Learning u) (out.Ready (end.Learnt v)) own now m = inl (event.In m.0 v, m.3, refl)
shaped h s (Learning u) out.Memory own now m = m.0
shaped h s (Passing r) (out.Went k) own now m = swept h s r k own now m
shaped h s (Passing r) out.Memory own now m = m.0
shaped h s (Sweeping r) (out.Ready (end.Swept o)) own now m = inl (event.Went s kind.Learn, m.1, refl)
shaped h s (Sweeping r) out.Memory own now m = m.0
shaped h s Collecting (out.Went kind.Read) own now m = collected_read s own m.0
shaped h s Collecting (out.Went k) own now m = collected s k own (λ e. cc) m.0
shaped h s Collecting (out.Ready (end.Collected c)) own now m = inl (event.Went s kind.Collect, m.0, refl)
shaped h s Collecting out.Memory own now m = m.0
shaped h s (Detaching v) (out.Ready (end.Pinned pin)) own now m = inl (event.Detach s, m.1, refl)
shaped h s (Detaching v) out.Memory own now m = m.0
shaped h s (Writing r) (out.Went kind.Read) own now m = looked s r own now m
shaped h s (Writing r) (out.Went k) own now m = written s r k own now (λ e. cc) m
shaped h s (Writing r) out.Memory own now m = m.0
shaped h s (Undoing r e) (out.Went k) own now m = inl (event.Went s kind.Undo, m.1, refl)
shaped h s (Undoing r e) (out.Ready (end.Commit f)) own now m = finished r own m.1
shaped h s (Deciding r) (out.Went k) own now m = finished r own m.1
shaped h s (Awaiting r) (out.Wait q) own now m = m.0
shaped h s (Awaiting r) (out.Ready (end.Commit f)) own now m = inl (event.Refresh s m.2, m.4, refl)
shaped h s w o own now m = absurd m

no_length : (xs : Past) → length xs ≡ 0 → xs ≡ []
no_length [] e = refl
no_length (x ∷ xs) e = absurd (omega arith)

-- of two steps that are told alike, one adds no more than the other where it adds just what others and the other add
alike_added : (own mine others : Past) → IsAdded own → IsAdded mine → mine ++ others ≡ own → others ≡ []
alike_added own mine others (inl a) (inl b) h =
    let l : length mine + length others ≡ length own = sym (length-append mine others) ∙ ap length h in
    let p = ap length a.1 in
    let q = ap length b.1 in
    no_length others (omega (arith, l, p, q))
alike_added own mine others (inl a) (inr b) h =
    let l : length mine + length others ≡ length own = sym (length-append mine others) ∙ ap length h in
    let p = ap length a.1 in
    let q = ap length b.3 in
    absurd (omega (arith, l, p, q))
alike_added own mine others (inr a) (inl b) h =
    let first : b.0 ∷ others ≡ event.Head a.0 a.1 ∷ (event.End a.2 ∷ []) = sym (ap (λ (xs : Past). xs ++ others) b.1) ∙ h ∙ a.3 in
    let same : b.0 ≡ event.Head a.0 a.1 = cc in
    absurd (false≢true (sym b.2 ∙ ap is_head same))
alike_added own mine others (inr a) (inr b) h =
    let l : length mine + length others ≡ length own = sym (length-append mine others) ∙ ap length h in
    let p = ap length a.3 in
    let q = ap length b.3 in
    no_length others (omega (arith, l, p, q))

empty_second : (mine others : Past) → mine ++ others ≡ [] → others ≡ []
empty_second [] others h = h
empty_second (x ∷ mine) others h = absurd (cc)

-- a session's own event is none of others
never_theirs : {A : Type 0} (s : ℕ) (k : StepKind) (others past : Past) → others ≡ event.Went s k ∷ [] → AreOthers s others past → A
never_theirs s k others past is theirs =
    let same : ((s == s) || false) ≡ false = subst (λ (xs : Past). AreOthers s xs past) is theirs in
    absurd (false≢true (sym same ∙ ap (λ b. b || false) (number_itself s)))

-- of two ends of a split, one adds no more than the other and than others did
alike_ended : (s : ℕ) (past own mine others : Past) → AreOthers s others past → IsShaped s Either own → IsShaped s Either mine → mine ++ others ≡ own → others ≡ []
alike_ended s past own mine others theirs (inl a) b h = empty_second mine others (h ∙ a)
alike_ended s past own mine others theirs (inr a) (inl b) h = never_theirs s kind.Split others past (sym (ap (λ (xs : Past). xs ++ others) b) ∙ (h ∙ a)) theirs
alike_ended s past own mine others theirs (inr a) (inr b) h = alike_added own mine others (inl (event.Went s kind.Split, a, refl)) (inl (event.Went s kind.Split, b, refl)) h

-- where a step tells just what others and the same step added, others added nothing
pub none_between : (s : ℕ) (past : Past) (b : Adds) (own mine others : Past) → AreOthers s others past → IsShaped s b own → IsShaped s b mine → mine ++ others ≡ own → others ≡ []
none_between s past Events own mine others theirs a b h = alike_added own mine others a b h
none_between s past Nothing own mine others theirs a b h = empty_second mine others (h ∙ a)
none_between s past Either own mine others theirs a b h = alike_ended s past own mine others theirs a b h

-- ---- whose it is

not_theirs : (t s q : ℕ) → (t == s) ≡ true → (q == s) ≡ false → (t == q) ≡ false
not_theirs t s q own apart = subst (λ (n : ℕ). (n == q) ≡ false) (sym (same_number t s own)) (flipped q s apart)

revision_apart : (s q : ℕ) (o : Option Draw) → option_map_or (λ d. d.session == s) o false ≡ true → (q == s) ≡ false → option_map_or (λ d. d.session == q) o false ≡ false
revision_apart s q None own apart = refl
revision_apart s q (Some d) own apart = not_theirs d.session s q own apart

-- an event that a step of session s appends is none of another's
one_apart : (h : History) (s : ℕ) (k : StepKind) (e : Event) → list_any (is_kind k) (kinds_for h s (e ∷ [])) ≡ true → (q : ℕ) → (q == s) ≡ false → is_event_of (e ∷ h.past) q e ≡ false
one_apart h s k (event.Login t v) own q apart = not_theirs t s q (tested k _ _ own) apart
one_apart h s k (event.Refresh t v) own q apart = not_theirs t s q (tested k _ _ own) apart
one_apart h s k (event.Draw d) own q apart = not_theirs d.session s q (tested k _ _ own) apart
one_apart h s k (event.Commit r) own q apart = revision_apart s q (draw_of h.past r) (tested k _ _ own) apart
one_apart h s k (event.Refuse r item o) own q apart = revision_apart s q (draw_of h.past r) (tested k _ _ own) apart
one_apart h s k (event.Attach t id) own q apart = not_theirs t s q (tested k _ _ own) apart
one_apart h s k (event.Detach t) own q apart = not_theirs t s q (tested k _ _ own) apart
one_apart h s k (event.Split t path e) own q apart = absurd (false≢true own)
one_apart h s k (event.Collected t c) own q apart = absurd (false≢true own)
one_apart h s k (event.Went t x) own q apart = not_theirs t s q (first_of_both (t == s) (leaves_went x) (tested k _ _ own)) apart
one_apart h s k (event.Said t i text) own q apart = not_theirs t s q (tested k _ _ own) apart
one_apart h s k e own q apart = refl

-- the events of another session stay the same, where one event is added that isn't its own
pub own_kept : (past : Past) (q : ℕ) (e : Event) → is_event_of (e ∷ past) q e ≡ false → own_events (e ∷ past) q ≡ own_events past q
own_kept past q e none = ap (λ b. cond b (e ∷ own_events past q) (own_events past q)) none

module _ (h : History) (s q : ℕ) (apart : (q == s) ≡ false) where
  added_apart : (k : StepKind) (own : Past) → IsAdded own → is_appended_by h s k (reverse own) ≡ true → own_events (own ++ h.past) q ≡ own_events h.past q
  added_apart k own (inl a) t = subst (λ (xs : Past). own_events (xs ++ h.past) q ≡ own_events h.past q) (sym a.1)
      (own_kept h.past q a.0 (one_apart h s k a.0 (of_kind h s k a.0 [] (subst (λ (xs : Past). is_appended_by h s k (reverse xs) ≡ true) a.1 t)) q apart))
  added_apart k own (inr a) t = subst (λ (xs : Past). own_events (xs ++ h.past) q ≡ own_events h.past q) (sym a.3) refl

  none_apart : (own : Past) → own ≡ [] → own_events (own ++ h.past) q ≡ own_events h.past q
  none_apart own is = ap (λ (xs : Past). own_events (xs ++ h.past) q) is

  shaped_apart : (b : Adds) (k : StepKind) (own : Past) → IsShaped s b own → is_appended_by h s k (reverse own) ≡ true → own_events (own ++ h.past) q ≡ own_events h.past q
  shaped_apart Events k own a t = added_apart k own a t
  shaped_apart Nothing k own a t = none_apart own a
  shaped_apart Either k own (inl a) t = none_apart own a
  shaped_apart Either k own (inr a) t = added_apart k own (inl (event.Went s kind.Split, a, refl)) t

  -- what a step of session s adds is none of session q's
  pub step_apart : (w : Shows) (o : StepOut) (own : Past) (b : Adds) → IsShaped s b own → AreOfStep h s w o own → own_events (own ++ h.past) q ≡ own_events h.past q
  step_apart w (out.Went k) own b a t = shaped_apart b k own a t
  step_apart w (out.Ready e) own b a t = shaped_apart b (last_kind w own) own a t
  step_apart w _ own b a t = none_apart own t
