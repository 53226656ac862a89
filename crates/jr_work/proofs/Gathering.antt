-- The passes of the workers are taken back, and what the world then tells.
use Rattle.std.proofs.Common.{◌≡◌, ℕ, ◌+◌, ◌<◌, ◌≤◌, ◌%◌, true, false, Some, None, length, refl, sym, ap, ◌∙◌, subst, arith}
use Rattle.std.specs.Prelude.{◌==◌}
use Rattle.std.proofs.lemmas.Bool.Decides.{nat_tests}
use Rattle.std.proofs.lemmas.List.Elements.{Contains-append_left, Contains-append_right}
use Rattle.std.proofs.lemmas.Nat.{mod_below}
use Rattle.oak_world.specs.Worlds.{WorldOf, live}
use Rattle.jcr_law.specs.declared.law.JcrLaw.{JcrLaw}
use Rattle.jr_script.specs.declared.script.Script.{Script}
use Rattle.jr_shared.specs.declared.locked.WorldFrame.{WorldFrame}
use Rattle.jr_shared.specs.Holds.{PassKnown}
use Rattle.jr_shared.specs.Meanings.{Owned, frame_of, owned_of}
use Rattle.seat_lock.specs.declared.rule.Round.TheVariants as round
use Rattle.seat_lock.specs.Views.{OwnsPart, joined}
use Rattle.jr_stage.specs.Places.{history_at, is_over}
use Rattle.jr_work.specs.Workers.{HasAll, HasHandedOut, HasOver, HasWorked, frame_for}
use Rattle.jr_work.proofs.Owning.{own_over}

-- the first pass, while those of the first n of so many workers are still to come
pub record IsGathering (script : Script) (workers n : ℕ) (v : PassKnown JcrLaw) : Type 0 where
  pub rest : v.round ≡ round.Idle
  pub frame : v.frame ≡ Some (frame_for script)
  pub weight : v.weight + n ≡ 1024
  pub over : (s : ℕ) → s < length script.sessions → n ≤ s % workers → HasOver script v s

equal : (a b : ℕ) → (a == b) ≡ true → a ≡ b
equal a b h = grind (arith, nat_tests)

later : (a n : ℕ) → n ≤ a → (a == n) ≡ false → n + 1 ≤ a
later a n h apart = grind (arith, nat_tests)

module _ (script : Script) (workers : ℕ) where
  pub gathering_begins : (v : PassKnown JcrLaw) → 1 ≤ workers → HasHandedOut script workers workers v → IsGathering script workers workers v
  gathering_begins v some out = record {
    rest = out.knows.rest;
    frame = out.knows.frame;
    weight = out.weight;
    over = λ s below above. none s (mod_below s workers (let h : 0 < workers = omega (arith, some) in h)) above;
  }
    where
      none : {A : Type 0} (s : ℕ) → s % workers < workers → workers ≤ s % workers → A
      none s less above = absurd (omega arith)

  pub gathering_ends : (v : PassKnown JcrLaw) → IsGathering script workers 0 v → HasAll script v
  gathering_ends v is = record { rest = is.rest; frame = is.frame; weight = let sum = is.weight in omega (arith, sum); over = λ s below. is.over s below (let h : 0 ≤ s % workers = omega arith in h) }

  module _ (n : ℕ) (v w u : PassKnown JcrLaw) (is : IsGathering script workers (n + 1) v) (worked : HasWorked script workers n w) (known : u ≡ joined v w) where
    -- who is over in one of the two passes is in both together
    in_first : (s : ℕ) → HasOver script v s → HasOver script u s
    in_first s (part, owns, over) = (part, subst (λ (x : PassKnown JcrLaw). OwnsPart x s part) (sym known) (Contains-append_left v.parts w.parts (s, part) owns), over)

    in_second : (s : ℕ) → HasOver script w s → HasOver script u s
    in_second s (part, owns, over) = (part, subst (λ (x : PassKnown JcrLaw). OwnsPart x s part) (sym known) (Contains-append_right v.parts w.parts (s, part) owns), over)

    over_in_both : (s : ℕ) → s < length script.sessions → n ≤ s % workers → HasOver script u s
    over_in_both s below above = elim (s % workers == n) as (λ b. (s % workers == n) ≡ b → HasOver script u s) [
      | true ↦ λ same. in_second s (worked.over s below (equal (s % workers) n same))
      | false ↦ λ apart. in_first s (is.over s below (later (s % workers) n above apart))
    ] refl

    -- the pass of one more worker is taken in
    pub gathered : IsGathering script workers n u
    gathered = record {
      rest = ap (λ (x : PassKnown JcrLaw). x.round) known ∙ is.rest;
      frame = ap (λ (x : PassKnown JcrLaw). x.frame) known ∙ is.frame;
      weight = sum v.weight w.weight u.weight (ap (λ (x : PassKnown JcrLaw). x.weight) known) worked.weight is.weight;
      over = over_in_both;
    }
      where
        sum : (a b c : ℕ) → c ≡ a + b → b ≡ 1 → a + (n + 1) ≡ 1024 → c + n ≡ 1024
        sum a b c is one all = omega arith

-- ---- the world that is given back

module _ (script : Script) (w : WorldOf JcrLaw) (frame : frame_of w ≡ frame_for script) where
  pub law_back : w.law ≡ (frame_for script).law
  law_back = ap (λ (f : WorldFrame JcrLaw). f.law) frame

  pub history_back : live w.history ≡ history_at script w.history.past
  history_back = ap (λ (f : WorldFrame JcrLaw). record { clusters = f.clusters; sessions = f.sessions; begin = None; past = w.history.past }) frame

-- a session that is over in the pass is in the world
pub over_back : (script : Script) (v : PassKnown JcrLaw) (w : WorldOf JcrLaw) (s : ℕ) → HasOver script v s → ((part : Owned) → OwnsPart v s part → owned_of w s ≡ part) → is_over script w.history.past s ≡ true
over_back script v w s (part, owns, over) parts = sym (own_over s script w.history.past) ∙ (ap (λ (p : Owned). is_over script p.events s) (parts part owns) ∙ over)
