-- Replies, computed.
use Rattle.std.proofs.Common.{◌≡◌, [], ◌∷◌, pos, refl}
use Rattle.std.specs.Prelude.{codes}
use Rattle.std.specs.Fmt.{digits}
use Rattle.serde_json.proofs.OnLiterals.{serde_json_on_literals}
use Rattle.jr_value.specs.declared.value.Property.TheVariants.{Single}
use Rattle.jr_value.specs.declared.value.Value.TheVariants.{Long}
use Rattle.jr_tree.specs.declared.shared.Datum.TheVariants as datum
use Rattle.jcr_trans.specs.Answers.{Done, ShowsNames, ShowsProperty, ShowsRevision, ShowsNothing, Refused}
use Rattle.jcr_trans.specs.Texts.{answer_text}
use Rattle.jcr_trans.specs.Views.{too_many_nodes}

done : answer_text Done ≡ codes "ok"
done = refl

property : answer_text (ShowsProperty (Single (Long (pos 1)))) ≡ codes "ok 1"
unfolding digits serde_json_on_literals
property = refl

listed : answer_text (ShowsNames (codes "a" ∷ codes "jcr:system" ∷ [])) ≡ codes "ok [\"a\",\"jcr:system\"]"
unfolding serde_json_on_literals
listed = refl

no_item : answer_text (Refused 1 (datum.Path (codes "b" ∷ []) ∷ [])) ≡ codes "no 1 [\"/b\"]"
unfolding digits serde_json_on_literals
no_item = refl

root : answer_text (Refused 1 (datum.Path [] ∷ [])) ≡ codes "no 1 [\"/\"]"
unfolding digits serde_json_on_literals
root = refl

committed : answer_text (ShowsRevision (record { time = 1; counter = 0; cluster = 1 })) ≡ codes "ok \"r1-0-1\""
unfolding digits serde_json_on_literals
committed = refl

nothing : answer_text ShowsNothing ≡ codes "ok null"
nothing = refl

memory : answer_text (Refused 16 []) ≡ codes "no 16 []"
unfolding digits serde_json_on_literals
memory = refl

too_many : answer_text too_many_nodes ≡ codes "no 15 [\"nodes\",100000]"
unfolding digits serde_json_on_literals
too_many = refl
