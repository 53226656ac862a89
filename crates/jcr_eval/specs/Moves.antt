-- The causes of a reply by the commands that move the base of a session: they alone are told behind
-- the move.
use Rattle.std.specs.Prelude.{◌≡◌, ◌⊎◌, ℕ, Bool, cond, not, ◌&&◌, List, Option, None, Some, is_none, is_some, option_map, IsTrue}
use Rattle.jr_path.specs.Lists.{Text}
use Rattle.jr_rev.specs.declared.vector.RevVec.{RevVec}
use Rattle.jr_items.specs.Refusals.{out_of_memory}
use Rattle.oak_machine.specs.History.{History}
use Rattle.oak_machine.specs.Sessions.{base_of, is_drawing, refreshed_since, since}
use Rattle.jcr_trans.specs.Answers.{ShowsVector}
use Rattle.jcr_trans.specs.Texts.{answer_text}
use Rattle.jcr_trans.specs.declared.command.Command.{Command}
use Rattle.jcr_trans.specs.declared.command.Command.TheVariants as command
use Rattle.jcr_law.specs.Law.{no_text}
use Rattle.jcr_law.specs.Since.{came, detached_among}
use Rattle.jcr_past.specs.Shown.{attaches}

-- a vector as a reply
abbrev pub vector_reply : RevVec → List ℕ
vector_reply v = answer_text (ShowsVector v)

-- s was attached to the checkpoint, and the text shows its base
abbrev pub AttachCause : History → ℕ → Text → List ℕ → Type 0
AttachCause h s id text = IsTrue (came s (λ earlier e. attaches s id e) h.past)
    × (option_map vector_reply (base_of h.past s) ≡ Some text)

-- the base of s moved, but its checkpoint isn't left, and nothing of s is in flight
abbrev pub is_half_detached : History → ℕ → Bool
is_half_detached h s = not (is_drawing h.past s)
    && (is_some (refreshed_since h.past s) && is_none (detached_among (since h.past s) s))

-- the reply of a `detach` where memory was wanted behind the move of the base
abbrev pub half_detached_reply : History → ℕ → Option (List ℕ)
half_detached_reply h s = cond (is_half_detached h s) (Some (no_text out_of_memory)) None

-- the text shows the head for which s left its checkpoint; or memory was wanted behind the move
abbrev pub DetachCause : History → ℕ → List ℕ → Type 0
DetachCause h s text =
    (option_map vector_reply (detached_among (since h.past s) s) ≡ Some text)
    ⊎ (half_detached_reply h s ≡ Some text)

-- what a command that moves the base is answered with: a refresh with the base to which it moved,
-- `attach` and `detach` as they say
abbrev pub MoveCause : History → ℕ → Command → List ℕ → Type 0
MoveCause h s (command.Refresh keep) text =
    option_map vector_reply (refreshed_since h.past s) ≡ Some text
MoveCause h s (command.Attach id) text = AttachCause h s id text
MoveCause h s command.Detach text = DetachCause h s text
MoveCause h s m text = ⊥
