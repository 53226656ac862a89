-- Two sessions write /a/p and /b/p, one from each end: each meets the other. Then one after the other.
use Rattle.std.proofs.Common.{◌≡◌, ℕ, true, false, inl, inr, Some, None, List, [], ◌∷◌, refl, sym, ap, pos, subst}
use mathlib.Core.Bool.{false≢true}
use Rattle.std.specs.Prelude.{codes}
use Rattle.jr_value.specs.declared.value.Property.TheVariants.{Single}
use Rattle.jr_value.specs.declared.value.Value.TheVariants.{Long}
use Rattle.jr_rev.specs.declared.revision.Revision.{Revision}
use Rattle.jr_rev.specs.Revisions.{is_same}
use Rattle.core_clash.proofs.Basics.{same_revision}
use Rattle.jr_rev.specs.Vectors.{sees, start, start_of, with_entry}
use Rattle.jr_tree.specs.declared.edit.Write.TheVariants.{Put}
use Rattle.jr_path.specs.declared.path.DocId.TheVariants as id
use Rattle.oak_clash.specs.declared.mark.Mark.{Mark}
use Rattle.oak_clash.specs.declared.mark.MarkAt.{MarkAt}
use Rattle.oak_clash.specs.declared.mark.Mark.TheVariants as mark
use Rattle.oak_doc.specs.declared.document.Document.{Document}
use Rattle.oak_doc.specs.Updates.{document_of, changed}
use Rattle.oak_doc.specs.declared.update.Change.TheVariants.{Deleted}
use Rattle.oak_machine.specs.declared.event.Draw.{Draw}
use Rattle.oak_machine.specs.declared.event.Event.TheVariants as event
use Rattle.oak_machine.specs.declared.event.StepKind.TheVariants as kind
use Rattle.oak_machine.specs.Commits.{is_committed}
use Rattle.oak_commit.specs.Clashing.{Met, marked, noted}
use Rattle.core_clash.specs.Views.{In, mark_at}
use Rattle.core_clash.specs.Core.{Core, Docs, with_document, core_drawn, core_written, core_after_mark, core_last, core_undone, core_finished, is_path}
use Rattle.core_clash.specs.Sound.{IsRooted}
use Rattle.core_clash.specs.Steps.{at_start, Reached, begun, more, draw, write, last, finish}

abbrev a : List (List ℕ)
a = codes "a" ∷ []

abbrev b : List (List ℕ)
b = codes "b" ∷ []

abbrev p : List ℕ
p = codes "p"

abbrev at : ℕ → Revision
at t = record { time = t; counter = 0; cluster = 1 }

abbrev there : List (List ℕ) → Document
there q = changed (document_of None (id.Node q)) (Deleted (at 0) false)

abbrev docs : Docs
docs = with_document (with_document (with_document (λ q. None) [] (there [])) a (there a)) b (there b)

abbrev both : ℕ → ℕ → Draw
both t s = record {
  revision = at t;
  session = s;
  base = with_entry (start 1) (at 1);
  edit = record { writes = Put a p (Single (Long (pos t))) ∷ Put b p (Single (Long (pos t))) ∷ [] };
  marks = record { path = a; mark = mark.Prop p } ∷ record { path = b; mark = mark.Prop p } ∷ [];
}

abbrev s0 : Core
s0 = at_start (λ r. is_same r (start_of 1)) 1 docs (λ p. [])

-- both draw; the first writes /a, the second /a and /b, the first /b
abbrev s1 : Core
s1 = core_written (core_drawn (core_drawn s0 (both 2 0) (a ∷ b ∷ [])) (both 3 1) (a ∷ b ∷ [])) (both 2 0) a (b ∷ [])

abbrev s2 : Core
s2 = core_written s1 (both 3 1) a (b ∷ [])

-- the second has met the first at /a
abbrev f3 : Met
f3 = record { other = at 2; mine = record { path = a; name = Some p }; theirs = record { path = a; name = Some p } }

met_first : (s2.writers (at 3)).due ≡ f3 ∷ []
met_first = refl

-- the document of /a tells the first's commit root, the topmost node
told : IsRooted (s2.docs a) (at 2) []
told = refl

-- it marks the first, and writes /b
abbrev s3 : Core
s3 = core_written (core_after_mark s2 (both 3 1) f3 []) (both 3 1) b []

none_met : (s3.writers (at 3)).due ≡ []
none_met = refl

-- the first meets the second at /b, and marks it
abbrev s4 : Core
s4 = core_written s3 (both 2 0) b []

abbrev f2 : Met
f2 = record { other = at 3; mine = record { path = b; name = Some p }; theirs = record { path = b; name = Some p } }

met_second : (s4.writers (at 2)).due ≡ f2 ∷ []
met_second = refl

abbrev s5 : Core
s5 = core_last (core_last (core_after_mark s4 (both 2 0) f2 []) (both 3 1)) (both 2 0)

-- both are refused, each with its own item and the other
both_refused : s5.past
    ≡ event.Refuse (at 2) (record { path = a; name = Some p }) (at 3)
    ∷ event.Refuse (at 3) (record { path = b; name = Some p }) (at 2)
    ∷ event.Went 0 kind.Mark ∷ event.Went 0 kind.Write ∷ event.Went 1 kind.Write ∷ event.Went 1 kind.Mark ∷ event.Went 1 kind.Write ∷ event.Went 0 kind.Write
    ∷ event.Draw (both 3 1) ∷ event.Draw (both 2 0) ∷ []
both_refused = refl

-- where the second marks only after the first has committed, it is refused at its mark
abbrev t3 : Core
t3 = core_after_mark (core_last (core_written s2 (both 2 0) b []) (both 2 0)) (both 3 1) f3 []

refused_at_mark : t3.past
    ≡ event.Refuse (at 3) (record { path = a; name = Some p }) (at 2)
    ∷ event.Commit (at 2)
    ∷ event.Went 0 kind.Write ∷ event.Went 1 kind.Write ∷ event.Went 0 kind.Write ∷ event.Draw (both 3 1) ∷ event.Draw (both 2 0) ∷ []
refused_at_mark = refl

-- it undoes /a, and nothing of it is left
undone : marked ((core_undone t3 (both 3 1) a []).docs a) (at 3) (mark.Prop p) ≡ false
undone = refl

-- a commit that is reached whole, over documents that aren't there yet
abbrev z0 : Core
z0 = at_start (λ r. is_same r (start_of 1)) 1 (λ q. None) (λ p. [])

begun_there : Reached z0
begun_there = begun (λ r. is_same r (start_of 1)) 1 (λ q. None) (λ p. []) (record { listed = λ q r m h. absurd (false≢true h); ordered = λ q. tt; marks = λ q r m h. absurd (false≢true h); notes = λ q r h. absurd (false≢true h); roots = λ q r h. absurd (false≢true h); collisions = λ q r. refl })

not_start : at 2 ≡ start_of 1 → ⊥
not_start e = false≢true (ap (λ (x : Revision). is_same x (start_of 1)) e)

covers : (q : List (List ℕ)) (m : Mark) → In (mark_at q m) (both 2 0).marks → In q (a ∷ b ∷ [])
covers q m (inl e) = inl (ap (λ (x : MarkAt). x.path) e)
covers q m (inr (inl e)) = inr (inl (ap (λ (x : MarkAt). x.path) e))
covers q m (inr (inr h)) = absurd h

apart : In a (b ∷ []) → ⊥
apart (inl e) = false≢true (ap (λ (x : List (List ℕ)). is_path a x) (sym e))
apart (inr h) = h

abbrev z1 : Core
z1 = core_drawn z0 (both 2 0) (a ∷ b ∷ [])

abbrev z2 : Core
z2 = core_written z1 (both 2 0) a (b ∷ [])

abbrev z3 : Core
z3 = core_written z2 (both 2 0) b []

abbrev z4 : Core
z4 = core_last z3 (both 2 0)

abbrev z5 : Core
z5 = core_finished z4 (both 2 0)

reached_1 : Reached z1
reached_1 = more begun_there (draw (both 2 0) (a ∷ b ∷ []) (record { begins = record { fresh = refl; later = λ r. refl; itself = refl; settled = λ o h. absurd (false≢true h); start = refl; started = not_start }; sees_old = λ o h. subst (λ (x : Revision). sees (both 2 0).base x ≡ true) (sym (same_revision o (start_of 1) h)) refl; new = refl; covers = covers; once = (apart, (λ h. h, tt)); entries = λ m item. (λ h. h, λ h. h) }) (λ o h. absurd (false≢true h)))

reached_2 : Reached z2
reached_2 = more reached_1 (write (both 2 0) a (b ∷ []) (record { going = record { running = refl; draw = refl; unended = refl; uncommitted = refl; going = refl }; unmet = refl; next = refl }))

reached_3 : Reached z3
reached_3 = more reached_2 (write (both 2 0) b [] (record { going = record { running = refl; draw = refl; unended = refl; uncommitted = refl; going = refl }; unmet = refl; next = refl }))

reached_4 : Reached z4
reached_4 = more reached_3 (last (both 2 0) (record { going = record { running = refl; draw = refl; unended = refl; uncommitted = refl; going = refl }; unmet = refl; none_left = refl }))

reached_5 : Reached z5
reached_5 = more reached_4 (finish (both 2 0) (record { draw = refl; unended = refl; done = inl refl }))

committed_whole : is_committed z5.past (at 2) ≡ true
committed_whole = refl

noted_at_root : noted (z5.docs []) (at 2) ≡ true
noted_at_root = refl
