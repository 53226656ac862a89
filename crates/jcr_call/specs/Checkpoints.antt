-- What a `checkpoint` of a session begins with.
use Rattle.std.specs.Prelude.{◌≡◌, ◌+◌, None, Some, string_bytes}
use Rattle.jr_tree.specs.declared.shared.Refusal.{Refusal}
use Rattle.jr_tree.specs.declared.shared.Who.{Who}
use Rattle.jcr_ref.specs.Drawn.{too_many_ids}
use Rattle.jcr_trans.specs.Answers.{ShowsText}
use Rattle.jcr_trans.specs.Texts.{answer_text}
use Rattle.jcr_law.specs.Law.{no_text}
use Rattle.jcr_law.specs.State.{next_id}
use Rattle.jcr_call.specs.declared.checkpoints.NextCheckpoint.{NextCheckpoint}
use Rattle.jcr_call.specs.declared.checkpoints.NextCheckpoint.TheVariants as next

-- what a `checkpoint` begins with has the next identifier of the session, which hasn't drawn all,
-- and the reply that shows it; or the reply that the session has drawn all its identifiers
abbrev pub IsNextOf : Who → NextCheckpoint → Type 0
IsNextOf who (next.Named id reply) =
    (too_many_ids (who.ids + 1) ≡ None) × (id ≡ next_id who)
    × (string_bytes reply ≡ answer_text (ShowsText (next_id who)))
IsNextOf who (next.Refused reply) = (r : Refusal)
    × (too_many_ids (who.ids + 1) ≡ Some r) × (string_bytes reply ≡ no_text r)
