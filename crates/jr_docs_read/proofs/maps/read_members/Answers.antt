use Rattle.std.proofs.Common.{◌≡◌, refl, sym, ap, ◌∙◌}
use Rattle.std.proofs.lemmas.Result.{err_from_is_err_and}
use Rattle.std.specs.BTreeMap.{insert_entry}
use Rattle.serde_json.specs.View.{members_view}
use Rattle.jr_docs_read.proofs.Answered.{handed}
use Rattle.jr_docs_read.proofs.Entered.{members_left, of_map}
use Rattle.jr_docs_read.proofs.Left.{first_entry, next_left}
use Rattle.jr_docs_read.proofs.maps.read_members.Goals as goal

pub loop-name-init : goal.loop-name-init
loop-name-init g c = (
  λ es h is none.
      let gives : c.into_iter-name-iterator.result ≡ c.args.members.now.entries = c.into_iter-name-iterator.ensures.into_iter_gives.0 in
      members_left g.K.Key.text g.F.Form.shown g.K.Key.fits g.F.Form.fits g.K.Ord.cmp g.met.K.Key.one_text g.met.K.Ord.total g.met.K.Key.exact es _ _ h (is ∙ ap members_view (sym gives)) none,
  λ h. h,
)

pub loop-name-preserved : goal.loop-name-preserved
loop-name-preserved g c = (
  λ es h is none.
      next_left (of_map g.K.Key.text g.F.Form.shown g.K.Key.fits g.F.Form.fits g.K.Ord.cmp) _ _ c.in-Some.name.now c.in-Some.value.now _ _ es c.in-Some.ensures.steps (c.loop-name.invariant.0 es h is none) refl
      (λ e of. c.in_ok-read_member.ensures.complete e.0 e.1 of.0.0 of.0.1 (of.1 ∙ sym c.as_str.ensures.value) of.2),
  λ h. c.in_ok-read_member.ensures.in_range (c.loop-name.invariant.1 h),
)

pub returns-clause-in_range : goal.returns-clause-in_range
returns-clause-in_range g c h = c.loop-name.invariant.1 h

pub returns-in_err-read_member-clause-complete : goal.returns-in_err-read_member-clause-complete
returns-in_err-read_member-clause-complete g c es h is none =
    let q = err_from_is_err_and c.from_residual.result c.from_residual.ensures.1 in
    let x = first_entry (of_map g.K.Key.text g.F.Form.shown g.K.Key.fits g.F.Form.fits g.K.Ord.cmp) _ _ c.in-Some.name.now c.in-Some.value.now _ es c.in-Some.ensures.steps (c.loop-name.invariant.0 es h is none) refl in
    rw (q.1, q.2) (handed (λ (u : Unit {0}). c.read_member.new.map ≡ insert_entry g.K.Ord.cmp c.loop-name.map x.0.0 x.0.1) (λ (u : Unit {0}). c.read_member.new.map ≡ es) _
    (c.in_err-read_member.ensures.complete x.0.0 x.0.1 x.1.0.0 x.1.0.1 (x.1.1 ∙ sym c.as_str.ensures.value) x.1.2))
