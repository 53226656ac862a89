-- A call under one hold, from what the lock and the world say of its parts.
use mathlib.Core.List.{IsPrefix}
use Rattle.std.proofs.Common.{◌≡◌, ℕ, true, Some, ◌++◌, map, sym, ap, subst, ◌∙◌}
use Rattle.oak_machine.specs.declared.law.Law.{Ghosts}
use Rattle.oak_world.specs.Worlds.{WorldOf}
use Rattle.seat_lock.specs.declared.rule.Round.TheVariants as round
use Rattle.seat_lock.specs.Views.{OwnsAuthor, OwnsPart, new_places}
use Rattle.jr_shared.specs.declared.locked.LockedWorld.{LockedWorld}
use Rattle.jr_shared.specs.Meanings.{Owned, frame_of, journal_of, owned_of, steady_of}
use Rattle.jr_shared.specs.Holds.{IsGot, IsWhole, PassKnown, OneActed, OneHold, has_seat, owned_by}
use Rattle.jr_shared.proofs.Got.{some_part}
use Rattle.jr_shared.proofs.Lists.{found_part}

module _ {L : Type 0} where
  -- the world as the lock has it
  abbrev pub locked : WorldOf L → LockedWorld L
  locked w = record { world = w }

  -- what a pass knows while it has a world out
  abbrev pub with_out : LockedWorld L → PassKnown L → PassKnown L
  with_out x v = record v { round = round.Out x; steady = Some (steady_of x.world); seen = journal_of x.world }

  -- what it knows once it has given one back
  abbrev pub with_back : LockedWorld L → PassKnown L → PassKnown L
  with_back y v = record v { round = round.Idle; steady = Some (steady_of y.world); seen = journal_of y.world; places = v.places ++ new_places v.seen (journal_of y.world); parts = map (λ z. (z.0, owned_of y.world z.0)) v.parts }

  pub is_got : (law : Ghosts L) (old : PassKnown L) (got : WorldOf L) → IsWhole law got → old.frame ≡ Some (frame_of got) → IsPrefix old.seen (journal_of got)
      → ((q : ℕ) (part : Owned) → OwnsPart old q part → owned_of got q ≡ part) → (old.seen ≡ journal_of got → old.steady ≡ Some (steady_of got)) → IsGot law old got
  is_got law old got whole frame seen parts steady = record { whole = whole; frame_is = frame; seen = seen; parts = parts; steady_is = steady }

  pub one_hold : (law : Ghosts L) (old mid new : PassKnown L) (s : ℕ) (made : WorldOf L → WorldOf L → Type 0) (x y : LockedWorld L)
      → IsGot law old x.world → IsWhole law y.world → made x.world y.world → OneActed s x.world y.world → mid ≡ with_out x old → new ≡ with_back y mid → OneHold law old new s made
  one_hold law old mid new s made x y got whole is acts out back = record {
    got = x.world;
    left = y.world;
    got_is = got;
    left_whole = whole;
    made_is = is;
    alone = acts;
    known = back ∙ ap (with_back y) out;
  }

  -- the pass has its session while it has the world out
  pub has_author : (old mid : PassKnown L) (x : LockedWorld L) (s : ℕ) → has_seat old s ≡ true → mid ≡ with_out x old → OwnsAuthor mid s
  has_author old mid x s seat out =
      let p = some_part (owned_by old s) seat in
      (p.0, subst (λ (v : PassKnown L). OwnsPart v s p.0) (sym out) (found_part old.parts s p.0 p.1))

  -- the world that is given back goes on from the one that was got
  module _ (s : ℕ) (x z y : LockedWorld L) (got : z ≡ x) (acts : OneActed s x.world y.world) where
    pub on_longer : IsPrefix (journal_of z.world) (journal_of y.world)
    on_longer = subst (λ (u : LockedWorld L). IsPrefix (journal_of u.world) (journal_of y.world)) (sym got) acts.longer

    pub on_frame : frame_of y.world ≡ frame_of z.world
    on_frame = acts.frame_is ∙ ap (λ (u : LockedWorld L). frame_of u.world) (sym got)

    pub on_others : (mid : PassKnown L) → OwnsAuthor mid s → (q : ℕ) → (OwnsAuthor mid q → ⊥) → owned_of y.world q ≡ owned_of z.world q
    on_others mid has q not = acts.others q (λ is. not (subst (λ (n : ℕ). OwnsAuthor mid n) (sym is) has)) ∙ ap (λ (u : LockedWorld L). owned_of u.world q) (sym got)

    pub on_steady : journal_of y.world ≡ journal_of z.world → steady_of y.world ≡ steady_of z.world
    on_steady same = acts.steady_is (same ∙ ap (λ (u : LockedWorld L). journal_of u.world) got) ∙ ap (λ (u : LockedWorld L). steady_of u.world) (sym got)

  -- where the world that was got is given back
  pub on_kept : (x z : LockedWorld L) → z ≡ x → (q : ℕ) → owned_of x.world q ≡ owned_of z.world q
  on_kept x z got q = ap (λ (u : LockedWorld L). owned_of u.world q) (sym got)
