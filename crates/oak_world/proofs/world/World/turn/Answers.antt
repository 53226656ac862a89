-- There is a seat for each session.
use Rattle.std.specs.Vec.{vec_len}
use Rattle.std.proofs.Common.{rules, ◌≡◌, ◌<◌, ◌≤◌, ◌∙◌, inl, inr, None, is_some, length, refl, slice_get, subst, sym, true, ℕ}
use Rattle.std.proofs.lemmas.List.{length-map}
use Rattle.oak_world.specs.Worlds.{WorldOf, shown_actor}
use Rattle.oak_world.proofs.Keeping.{none_behind, there_within}
use Rattle.oak_world.proofs.world.World.turn.Goals as goal

pub returns-then-actor-len : goal.returns-then-actor-len
returns-then-actor-len g c =
    let items : vec_len c.self.inside.actors ≡ length c.self.inside.actors.items = search rules in
    inr (
      refl,
      inl (subst (λ (w : WorldOf _). slice_get w.history.sessions c.args.actor ≡ None) c.self.view_is
          (none_behind c.args.actor c.self.inside.journal.sessions (subst (λ (n : ℕ). n ≤ c.args.actor) (c.len.ensures ∙ (items ∙ sym (sym (c.self.invariant.0.0).seats ∙ length-map c.self.inside.actors.items shown_actor))) c.if-actor-len.true))),
    )

pub due-requires : goal.due-requires
due-requires g c =
    let items : vec_len c.self.inside.actors ≡ length c.self.inside.actors.items = search rules in
    subst (λ (w : WorldOf _). is_some (slice_get w.history.sessions c.args.actor) ≡ true) c.self.view_is
    (there_within c.args.actor c.self.inside.journal.sessions (subst (λ (n : ℕ). c.args.actor < n) (c.len.ensures ∙ (items ∙ sym (sym (c.self.invariant.0.0).seats ∙ length-map c.self.inside.actors.items shown_actor))) c.if-actor-len.false))

pub step-requires-clause-there : goal.step-requires-clause-there
step-requires-clause-there g c =
    let items : vec_len c.self.inside.actors ≡ length c.self.inside.actors.items = search rules in
    subst (λ (w : WorldOf _). is_some (slice_get w.history.sessions c.args.actor) ≡ true) c.self.view_is
    (there_within c.args.actor c.self.inside.journal.sessions (subst (λ (n : ℕ). c.args.actor < n) (c.len.ensures ∙ (items ∙ sym (sym (c.self.invariant.0.0).seats ∙ length-map c.self.inside.actors.items shown_actor))) c.if-actor-len.false))
