use Rattle.std.proofs.Common.{string_bytes, codes, ◌∙◌, ap, rules, ◌≡◌}
use Rattle.serde_json.specs.View.{view, members_view}
use Rattle.serde_json.specs.Data.{string}
use Rattle.jr_value.specs.Words.{all_kinds, kind_named}
use Rattle.jr_json.proofs.Empties.{view-String, word_found}
use Rattle.jr_json.proofs.reading.kind_of_none.Goals as goal

pub returns-in-String : goal.returns-in-String
returns-in-String c =
    let tag : string_bytes c.in_ok-tag.tag.now ≡ codes "empty" = search rules in
    let is : view c.in_ok-tag.content.now ≡ string (string_bytes c.in-String.word) = ap view c.in-String.is ∙ view-String c.in-String.word in
    let found : c.from_word.result ≡ kind_named all_kinds (string_bytes c.in-String.word) = c.from_word.ensures ∙ ap (kind_named all_kinds) c.as_str-in-String.ensures.value in
    word_found (members_view c.args.members.now.entries) (string_bytes c.in_ok-tag.tag.now, view c.in_ok-tag.content.now) (string_bytes c.in-String.word) c.from_word.result c.in_ok-tag.ensures tag is found
