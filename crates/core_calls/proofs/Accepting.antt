-- Which replies accept, by how their text begins.
use Rattle.std.proofs.Common.{◌≡◌, refl, true}
use Rattle.std.specs.Prelude.{not}
use Rattle.serde_json.specs.Data.{Data}
use Rattle.jcr_trans.specs.Answers.{Answer, Done, Refused, ShowsItems, ShowsNames, ShowsNothing, ShowsProperties, ShowsProperty, ShowsRevision, ShowsText, ShowsVector}
use Rattle.jcr_trans.specs.Texts.{answer_text, ok_text}
use Rattle.jcr_law.specs.State.{is_ok_text}
use Rattle.core_calls.specs.Replies.{is_refusing}

pub shown_accepts : (d : Data) → is_ok_text (ok_text d) ≡ true
shown_accepts d = refl

pub answer_accepts : (a : Answer) → is_ok_text (answer_text a) ≡ not (is_refusing a)
answer_accepts Done = refl
answer_accepts (ShowsProperty p) = refl
answer_accepts (ShowsNames ns) = refl
answer_accepts (ShowsRevision r) = refl
answer_accepts (ShowsVector v) = refl
answer_accepts ShowsNothing = refl
answer_accepts (ShowsProperties ps) = refl
answer_accepts (ShowsText t) = refl
answer_accepts (ShowsItems is) = refl
answer_accepts (Refused n ds) = refl
