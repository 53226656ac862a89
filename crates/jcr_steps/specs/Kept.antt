-- What is kept of a task for its reply, and what the reply is once the task has ended.
use Rattle.std.specs.Prelude.{◌≡◌, ℕ, [], length, max, string_bytes, Option, ⊤}
use Rattle.jr_path.specs.Lists.{Text}
use Rattle.oak_port.specs.Ports.{HasRoom}
use Rattle.jcr_trans.specs.Answers.{Done, ShowsRevision, ShowsVector}
use Rattle.jcr_trans.specs.Texts.{answer_text}
use Rattle.jcr_steps.specs.declared.errand.Errand.{Errand}
use Rattle.jcr_steps.specs.declared.errand.Errand.TheVariants as errand
use Rattle.jcr_steps.specs.declared.errand.Told.{Told}
use Rattle.jcr_steps.specs.declared.errand.Told.TheVariants as told
use Rattle.jcr_steps.specs.declared.limits.TheConstants.{VECTOR_REPLY_BYTES}

-- the text that is kept
abbrev pub kept_for : Errand → Text
kept_for (errand.Checkpoint reply) = string_bytes reply
kept_for (errand.Release reply) = string_bytes reply
kept_for (errand.Events reply) = string_bytes reply
kept_for _ = []

-- the text of what was told, where that is a text
abbrev pub kept_of : Told → Text
kept_of (told.Text reply) = string_bytes reply
kept_of _ = []

-- the reply once the task has ended
abbrev pub reply_of : Told → Text
reply_of (told.Published r) = answer_text (ShowsRevision r)
reply_of (told.Learnt v) = answer_text (ShowsVector v)
reply_of (told.Swept r) = answer_text (ShowsRevision r)
reply_of told.Done = answer_text Done
reply_of (told.Observed filter) = answer_text Done
reply_of (told.Text reply) = string_bytes reply

-- the place of the reply has room for a vector, and for the text that is kept
pub record HasPlace (room : Option ℕ) (text : Text) : Type 0 where
  pub told : HasRoom room VECTOR_REPLY_BYTES
  pub text_is : HasRoom room (length text)

-- the bytes of a reply's place: just what the longer needs of the text that is kept and of a vector
abbrev pub place_bytes : Text → ℕ
place_bytes text = max (length text) VECTOR_REPLY_BYTES

-- a vector that is told has eight entries
abbrev pub IsEight : Told → Type 0
IsEight (told.Learnt v) = length v ≡ 8
IsEight _ = ⊤
