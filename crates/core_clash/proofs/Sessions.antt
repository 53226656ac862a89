-- A step of one session's committer leaves the others'.
use Rattle.std.proofs.Common.{◌≡◌, ℕ, Bool, true, false, cond, ◌⊎◌, inl, inr, Some, None, Option, List, [], ◌∷◌, refl, sym, ap, subst, ◌∙◌, is_some, arith}
use Rattle.std.specs.Prelude.{◌==◌}
use Rattle.std.proofs.lemmas.Bool.Decides.{nat_tests}
use mathlib.Core.Bool.{false≢true}
use Rattle.jr_path.specs.declared.path.Path.{Path}
use Rattle.jr_rev.specs.declared.revision.Revision.{Revision}
use Rattle.jr_rev.specs.Revisions.{is_same}
use Rattle.oak_machine.specs.declared.event.Draw.{Draw}
use Rattle.oak_machine.specs.History.{Past}
use Rattle.oak_machine.specs.Commits.{draw_of, is_committed, is_ended}
use Rattle.oak_machine.specs.Sessions.{is_stopped}
use Rattle.oak_commit.specs.Clashing.{Writer}
use Rattle.core_clash.specs.Core.{Docs, Moved, with_writer, MayWrite}
use Rattle.core_clash.specs.Sound.{Sound}
use Rattle.core_clash.specs.Sessions.{Running, Kept, core_of, IsTheirs, IsCarried, with_running}
use Rattle.core_clash.proofs.Basics.{decide, some_is, writer_mine, writer_other}

pub same_number : (q s : ℕ) → (q == s) ≡ true → q ≡ s
same_number q s h = grind (arith, nat_tests)

other_number : (q s : ℕ) → (q == s) ≡ false → q ≡ s → ⊥
other_number q s h e = grind (arith, nat_tests)

none_some : {X : Type 0} {A : Type 0} (x : X) → None ≡ Some x → A
none_some x h = absurd (false≢true (ap (λ (o : Option _). is_some o) h))

-- the writers of two sessions are of two draws
of_others : (past : Past) (writers : Revision → Writer) (s q : ℕ) (x y : Running) → IsTheirs past writers s x → IsTheirs past writers q y → (q == s) ≡ false → is_same y.draw.revision x.draw.revision ≡ false
of_others past writers s q x y tx ty apart = by (decide y.draw.revision x.draw.revision)
  where
    by : (y.draw.revision ≡ x.draw.revision) ⊎ (is_same y.draw.revision x.draw.revision ≡ false) → is_same y.draw.revision x.draw.revision ≡ false
    by (inr f) = f
    by (inl e) =
        let d : x.draw ≡ y.draw = some_is (sym ty.draw ∙ (ap (λ (r : Revision). draw_of past r) e ∙ tx.draw)) in
        let same : q ≡ s = sym ty.session ∙ (ap (λ (z : Draw). z.session) (sym d) ∙ tx.session) in
        absurd (other_number q s apart same)

module _ (k : Kept) (s : ℕ) (x : Running) (carried : IsCarried k) (here : k.running s ≡ Some x) (w : Writer) (committed : Bool) (number : ℕ) (docs : Docs) (moved : Moved) (past : Past) where
  abbrev r : Revision
  r = x.draw.revision

  abbrev pub after : Kept
  after = record { number = number; docs = docs; moved = moved; old = k.old; past = past; running = with_running k.running s (Some (record { draw = x.draw; writer = w; committed = committed })) }

  -- a step that changes the writer of one draw
  pub carried_step : ((q : Revision) → draw_of past q ≡ draw_of k.past q) → ((q : Revision) → is_ended past q ≡ is_ended k.past q) → ((q : Revision) → is_same q r ≡ false → is_committed past q ≡ is_committed k.past q) → is_committed past r ≡ committed → Sound (core_of after (with_writer carried.writers r w)) → IsCarried after
  carried_step draws ends commits point sound = record {
    writers = with_writer carried.writers r w;
    sound = sound;
    theirs = λ q y. by q y (q == s) refl;
  }
    where
      mine : IsTheirs k.past carried.writers s x
      mine = carried.theirs s x here

      by : (q : ℕ) (y : Running) (b : Bool) → (q == s) ≡ b → cond b (Some (record { draw = x.draw; writer = w; committed = committed })) (k.running q) ≡ Some y → IsTheirs past (with_writer carried.writers r w) q y
      by q y true t h =
          let e : record { draw = x.draw; writer = w; committed = committed } ≡ y = sym (some_is h) in
          subst (λ (z : Running). IsTheirs past (with_writer carried.writers r w) q z) e (record {
            session = mine.session ∙ sym (same_number q s t);
            draw = draws r ∙ mine.draw;
            unended = ends r ∙ mine.unended;
            committed = point;
            writer = writer_mine carried.writers r w;
          })
      by q y false f h =
          let its = carried.theirs q y h in
          let other = of_others k.past carried.writers s q x y mine its f in
          record {
            session = its.session;
            draw = draws y.draw.revision ∙ its.draw;
            unended = ends y.draw.revision ∙ its.unended;
            committed = commits y.draw.revision other ∙ its.committed;
            writer = writer_other carried.writers r w y.draw.revision other ∙ its.writer;
          }

-- what a committer may do, by what its session keeps
pub may_write : (k : Kept) (s : ℕ) (x : Running) (p : Path) (rest : List Path) (carried : IsCarried k) → is_stopped k.past x.draw.revision.cluster ≡ false → k.running s ≡ Some x → x.committed ≡ false → x.writer.undoing ≡ false → x.writer.due ≡ [] → x.writer.left ≡ p ∷ rest → MayWrite (core_of k carried.writers) x.draw p rest
may_write k s x p rest carried unstopped here uncommitted going due left =
    let mine = carried.theirs s x here in
    record {
      going = record { running = unstopped; draw = mine.draw; unended = mine.unended; uncommitted = mine.committed ∙ uncommitted; going = ap (λ (w : Writer). w.undoing) mine.writer ∙ going };
      unmet = ap (λ (w : Writer). w.due) mine.writer ∙ due;
      next = ap (λ (w : Writer). w.left) mine.writer ∙ left;
    }

-- a draw of a session that has none in flight, and the end of one
module _ (k : Kept) (s : ℕ) (carried : IsCarried k) (number : ℕ) (docs : Docs) (moved : Moved) (past : Past) where
  -- what holds of the committers of other sessions, where past and writers keep what they tell
  abbrev pub KeepsOthers : (Revision → Writer) → Type 0
  KeepsOthers writers = (q : ℕ) (y : Running) → (q == s) ≡ false → k.running q ≡ Some y → IsTheirs past writers q y

  pub carried_draw : (x : Running) (writers : Revision → Writer) → KeepsOthers writers → IsTheirs past writers s x → Sound (record { number = number; docs = docs; moved = moved; old = k.old; past = past; writers = writers }) → IsCarried (record { number = number; docs = docs; moved = moved; old = k.old; past = past; running = with_running k.running s (Some x) })
  carried_draw x writers others mine sound = record { writers = writers; sound = sound; theirs = λ q y. by q y (q == s) refl }
    where
      by : (q : ℕ) (y : Running) (b : Bool) → (q == s) ≡ b → cond b (Some x) (k.running q) ≡ Some y → IsTheirs past writers q y
      by q y true t h = subst (λ (z : Running). IsTheirs past writers q z) (sym (some_is h)) (subst (λ (n : ℕ). IsTheirs past writers n x) (sym (same_number q s t)) mine)
      by q y false f h = others q y f h

  pub carried_finish : (writers : Revision → Writer) → KeepsOthers writers → Sound (record { number = number; docs = docs; moved = moved; old = k.old; past = past; writers = writers }) → IsCarried (record { number = number; docs = docs; moved = moved; old = k.old; past = past; running = with_running k.running s None })
  carried_finish writers others sound = record { writers = writers; sound = sound; theirs = λ q y. by q y (q == s) refl }
    where
      by : (q : ℕ) (y : Running) (b : Bool) → (q == s) ≡ b → cond b None (k.running q) ≡ Some y → IsTheirs past writers q y
      by q y true t h = none_some y h
      by q y false f h = others q y f h
