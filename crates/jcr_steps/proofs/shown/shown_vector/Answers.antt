use Rattle.std.proofs.Common.{◌≡◌, ◌<◌, ◌≤◌, None, Some, length, get_or, sym, ◌∙◌, arith}
use mathlib.Core.Bool.{false≢true}
use Rattle.jr_rev.proofs.Joined.{fits_none, fits_some, nothing_next, revision_next}
use Rattle.jcr_steps.proofs.Showing.{entry_get, next_room, whole_shown}
use Rattle.jcr_steps.proofs.shown.shown_vector.Goals as goal
use Rattle.jcr_steps.proofs.shown.shown_vector.Goals.{in-Some, in_default}

pub loop-i-preserved : goal.loop-i-preserved
loop-i-preserved c =
    let v = c.args.vector.now in
    let i = c.loop-i.i in
    let inv = c.loop-i.invariant in
    let eight = c.requires.eight in
    let within : i < length v = omega (arith, c.loop-i-test.true) in
    elim c.match-get.branch [
      | in-Some w ↦
          (let is : get_or v i None ≡ Some w.in-Some.revision = sym (entry_get v i) ∙ (sym c.get.ensures ∙ w.in-Some.is) in
          rw (w.first-is, w.text-is) (record {
            left = revision_next _ c.loop-i.text.bytes w.put_next.new.text.bytes v i c.loop-i.first w.in-Some.revision within is w.put_next.ensures.text inv.left;
            fits = fits_some v i w.in-Some.revision within is w.put_next.ensures.fits inv.fits;
            start = λ first. absurd (false≢true first);
            room = λ first. next_room c.loop-i.first i (length c.loop-i.text.bytes) (length w.put_next.new.text.bytes) inv.start inv.room w.put_next.ensures.few;
          }))
      | in_default w ↦
          (let is : get_or v i None ≡ None = sym (entry_get v i) ∙ (sym c.get.ensures ∙ w.in_default.is) in
          rw (w.first-is, w.text-is) (record {
            left = nothing_next _ c.loop-i.text.bytes v i c.loop-i.first within is inv.left;
            fits = fits_none v i within is inv.fits;
            start = inv.start;
            room = λ first. (let less = inv.room first in omega arith);
          }))
    ]

pub returns-clause-text : goal.returns-clause-text
returns-clause-text c =
    let eight = c.requires.eight in
    let past : length c.args.vector.now ≤ c.loop-i.i = omega (arith, c.loop-i-test.false) in
    whole_shown c.loop-i.text.bytes c.push_str-2.new.self.bytes c.args.vector.now c.loop-i.i c.loop-i.first past c.loop-i.invariant.fits c.loop-i.invariant.left c.push_str-2.ensures.bytes
