-- The commands of the sessions, while they are dealt and while they are taken.
use Rattle.std.proofs.Common.{◌≡◌, ◌≢◌, ℕ, zero, suc, ◌+◌, ◌<◌, ◌%◌, Bool, true, false, cond, Some, Option, List, [], ◌∷◌, ◌++◌, length, drop, replicate, refl, sym, ap, ◌∙◌, subst, arith}
use Rattle.std.specs.Prelude.{◌==◌, slice_get, slice_set}
use Rattle.std.specs.Option.{option_map_or}
use Rattle.std.proofs.lemmas.Bool.Decides.{nat_tests}
use Rattle.std.proofs.lemmas.List.{append-nil, append_assoc, length-replicate}
use Rattle.jcr_trans.specs.declared.command.Command.{Command}
use Rattle.jcr_trans.specs.declared.command.SessionScript.{SessionScript}
use Rattle.jr_script.specs.declared.script.Script.{Script}
use Rattle.jr_work.specs.Hands.{AreDealt, AreInHandOf, hand_from}
use Rattle.jr_stage.specs.Places.{commands_of}
use Rattle.jr_stage.proofs.Coming.{set_other}
use Rattle.jr_stage.proofs.Flying.{none_is_some, some_is_some}
use Rattle.jr_stage.proofs.Turning.{set_long, set_same}

-- the commands in hand
abbrev pub Hand : Type 0
Hand = List (List Command)

equal : (a b : ℕ) → (a == b) ≡ true → a ≡ b
equal a b h = grind (arith, nat_tests)

alike : (a b : ℕ) → a ≡ b → (a == b) ≡ true
alike a b h = grind (arith, nat_tests)

unlike : (a b : ℕ) → a ≢ b → (a == b) ≡ false
unlike a b h = grind (arith, nat_tests)

turned : (a b : ℕ) → (a == b) ≡ false → (b == a) ≡ false
turned a b h = grind (arith, nat_tests)

-- ---- one session more

module _ (workers worker s : ℕ) (x : SessionScript) (xs : List SessionScript) where
  pub hand_own : s % workers ≡ worker → hand_from workers worker s (x ∷ xs) ≡ x.commands ∷ hand_from workers worker (s + 1) xs
  hand_own own = ap (λ b. cond b (x.commands ∷ hand_from workers worker (s + 1) xs) (hand_from workers worker (s + 1) xs)) (alike (s % workers) worker own)

  pub hand_other : s % workers ≢ worker → hand_from workers worker s (x ∷ xs) ≡ hand_from workers worker (s + 1) xs
  hand_other other = ap (λ b. cond b (x.commands ∷ hand_from workers worker (s + 1) xs) (hand_from workers worker (s + 1) xs)) (unlike (s % workers) worker other)

-- ---- while they are dealt

-- the first s sessions are dealt, and these are left
pub record IsDealing (sessions rest : List SessionScript) (workers s : ℕ) (hands : List Hand) : Type 0 where
  pub many : length hands ≡ workers
  pub each : (w : ℕ) (hand : Hand) → slice_get hands w ≡ Some hand → hand ++ hand_from workers w s rest ≡ hand_from workers w 0 sessions

-- nothing is dealt yet
pub none_dealt : (sessions rest : List SessionScript) (workers : ℕ) (hands : List Hand) → rest ≡ sessions → hands ≡ replicate workers [] → IsDealing sessions rest workers 0 hands
none_dealt sessions rest workers hands same none = record {
  many = ap (λ (l : List Hand). length l) none ∙ length-replicate workers [];
  each = λ w hand at. ap (λ (h : Hand). h ++ hand_from workers w 0 rest) (empty workers w hand (ap (λ (l : List Hand). slice_get l w) (sym none) ∙ at)) ∙ ap (hand_from workers w 0) same;
}
  where
    empty : (n w : ℕ) (hand : Hand) → slice_get (replicate n []) w ≡ Some hand → hand ≡ []
    empty zero w hand at = none_is_some hand at
    empty (suc n) zero hand at = sym (some_is_some [] hand at)
    empty (suc n) (suc w) hand at = empty n w hand at

module _ (sessions rest later : List SessionScript) (workers s : ℕ) (hands now : List Hand) (x : SessionScript) (own new : Hand)
    (is : IsDealing sessions rest workers s hands) (left : rest ≡ x ∷ later) (at : slice_get hands (s % workers) ≡ Some own) (new_is : new ≡ own ++ x.commands ∷ []) (set : now ≡ slice_set hands (s % workers) new) where
  own_more : new ++ hand_from workers (s % workers) (s + 1) later ≡ hand_from workers (s % workers) 0 sessions
  own_more =
      ap (λ (h : Hand). h ++ hand_from workers (s % workers) (s + 1) later) new_is
      ∙ (append_assoc own (x.commands ∷ []) (hand_from workers (s % workers) (s + 1) later)
      ∙ (ap (λ (h : Hand). own ++ h) (sym (hand_own workers (s % workers) s x later refl))
      ∙ (ap (λ (l : List SessionScript). own ++ hand_from workers (s % workers) s l) (sym left) ∙ is.each (s % workers) own at)))

  other_still : (w : ℕ) (hand : Hand) → s % workers ≢ w → slice_get hands w ≡ Some hand → hand ++ hand_from workers w (s + 1) later ≡ hand_from workers w 0 sessions
  other_still w hand apart there =
      ap (λ (h : Hand). hand ++ h) (sym (hand_other workers w s x later apart))
      ∙ (ap (λ (l : List SessionScript). hand ++ hand_from workers w s l) (sym left) ∙ is.each w hand there)

  -- one session more is dealt
  pub dealt_more : IsDealing sessions later workers (s + 1) now
  dealt_more = record {
    many = ap (λ (l : List Hand). length l) set ∙ (set_long hands (s % workers) new ∙ is.many);
    each = λ w hand there. by w hand (ap (λ (l : List Hand). slice_get l w) (sym set) ∙ there) (w == s % workers) refl;
  }
    where
      by : (w : ℕ) (hand : Hand) → slice_get (slice_set hands (s % workers) new) w ≡ Some hand → (b : Bool) → (w == s % workers) ≡ b → hand ++ hand_from workers w (s + 1) later ≡ hand_from workers w 0 sessions
      by w hand there true same =
          let e : w ≡ s % workers = equal w (s % workers) same in
          let it : new ≡ hand = some_is_some new hand (sym (set_same hands (s % workers) new own at) ∙ (ap (slice_get (slice_set hands (s % workers) new)) (sym e) ∙ there)) in
          subst (λ (n : ℕ). hand ++ hand_from workers n (s + 1) later ≡ hand_from workers n 0 sessions) (sym e) (subst (λ (h : Hand). h ++ hand_from workers (s % workers) (s + 1) later ≡ hand_from workers (s % workers) 0 sessions) it own_more)
      by w hand there false apart = other_still w hand (different (turned w (s % workers) apart)) (sym (set_other hands (s % workers) w new apart) ∙ there)
        where
          different : {a b : ℕ} → (a == b) ≡ false → a ≢ b
          different {a = a} {b = b} h = grind (arith, nat_tests)

-- all are dealt
pub all_dealt : (sessions rest : List SessionScript) (workers s : ℕ) (hands : List Hand) → rest ≡ [] → IsDealing sessions rest workers s hands → AreDealt sessions workers hands
all_dealt sessions rest workers s hands none is = record {
  many = is.many;
  each = λ w hand at. sym (append-nil hand) ∙ (ap (λ (l : List SessionScript). hand ++ hand_from workers w s l) (sym none) ∙ is.each w hand at);
}

-- ---- while they are taken

module _ (script : Script) (workers worker s : ℕ) (hand : Hand) (below : s < length script.sessions) (is : AreInHandOf script.sessions workers worker s hand) where
  abbrev later : List SessionScript
  later = drop (s + 1) script.sessions

  -- session s is next
  there : (x : SessionScript) × (slice_get script.sessions s ≡ Some x) × (drop s script.sessions ≡ x ∷ later)
  there = by (at script.sessions s below)
    where
      next : suc s ≡ s + 1
      next = omega arith

      by : (x : SessionScript) × (slice_get script.sessions s ≡ Some x) × (drop s script.sessions ≡ x ∷ drop (suc s) script.sessions) → (x : SessionScript) × (slice_get script.sessions s ≡ Some x) × (drop s script.sessions ≡ x ∷ later)
      by (x, is, left) = (x, is, left ∙ ap (λ (n : ℕ). x ∷ drop n script.sessions) next)

      at : (xs : List SessionScript) (i : ℕ) → i < length xs → (x : SessionScript) × (slice_get xs i ≡ Some x) × (drop i xs ≡ x ∷ drop (suc i) xs)
      at [] i h = absurd (omega arith)
      at (x ∷ xs) zero h = (x, refl, refl)
      at (x ∷ xs) (suc i) h = at xs i (omega arith)

  -- that of another worker is passed over
  pub passed_by : s % workers ≢ worker → AreInHandOf script.sessions workers worker (s + 1) hand
  passed_by other = is ∙ (ap (hand_from workers worker s) there.2 ∙ hand_other workers worker s there.0 later other)

  module _ (own : s % workers ≡ worker) where
    whole : hand ≡ commands_of script s ∷ hand_from workers worker (s + 1) later
    whole =
        is ∙ (ap (hand_from workers worker s) there.2 ∙ (hand_own workers worker s there.0 later own
        ∙ ap (λ (c : List Command). c ∷ hand_from workers worker (s + 1) later) (sym (ap (λ (o : Option SessionScript). option_map_or (λ x. x.commands) o []) there.1))))

    -- the worker's own session has its commands in hand
    pub not_empty : {A : Type 0} → hand ≡ [] → A
    not_empty empty = none_is_some (commands_of script s) (ap (λ (l : Hand). slice_get l 0) (sym empty ∙ whole))

    pub own_taken : (c : List Command) (rest : Hand) → hand ≡ c ∷ rest → (c ≡ commands_of script s) × AreInHandOf script.sessions workers worker (s + 1) rest
    own_taken c rest took = (
      some_is_some c (commands_of script s) (ap (λ (l : Hand). slice_get l 0) (sym took ∙ whole)),
      ap (drop 1) (sym took ∙ whole),
    )
