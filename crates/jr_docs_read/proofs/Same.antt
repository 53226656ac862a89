-- Two values with one text are the same, where one of them has no float and isn't too deep to be read.
use Rattle.std.proofs.Common.{◌≡◌, ◌≤◌, ◌+◌, ℕ, suc, false, List, [], ◌++◌, Some, refl, sym, ap, subst, ◌∙◌, arith}
use Rattle.json.specs.Json as json
use Rattle.json.specs.Tree as tree
use Rattle.json.specs.Token.{Token}
use Rattle.json.proofs.Printed.Trees.{value-json_tokens}
use Rattle.serde_json.specs.Data.{Data, Items, Members, null, boolean, number, string, array, object, no_items, item, no_members, member, depth, items_depth, members_depth}
use Rattle.serde_json.specs.Read.{read, max_depth}
use Rattle.std.specs.Prelude.{◌↔◌, Bool, IsTrue}
use Rattle.jr_docs.specs.Documents.{document_data}
use Rattle.jr_docs.proofs.NoFloat.{document_plain}
use Rattle.jr_docs_read.proofs.Shallow.{document_shallow}
use Rattle.oak_doc.specs.declared.document.Document.{Document}
use Rattle.serde_json.specs.Written.{IsInOrder, compact_text, blank, blank_items, blank_members, has_float, items_outline, members_outline, outline}
use Rattle.serde_json.proofs.Texts.{tokens_from_order}

mutual
  depth_outline : (d : Data) → tree.depth (outline d) ≡ depth d
  depth_outline null = refl
  depth_outline (boolean b) = refl
  depth_outline (number n) = refl
  depth_outline (string s) = refl
  depth_outline (array ds) = ap suc (depth_items ds)
  depth_outline (object ms) = ap suc (depth_members ms)

  depth_items : (ds : Items) → tree.items_depth (items_outline ds) ≡ items_depth ds
  depth_items no_items = refl
  depth_items (item d ds) = rw (depth_outline d, depth_items ds) refl

  depth_members : (ms : Members) → tree.members_depth (members_outline ms) ≡ members_depth ms
  depth_members no_members = refl
  depth_members (member k d ms) = rw (depth_outline d, depth_members ms) refl

mutual
  depth_blank : (j : json.Json) → tree.depth (blank j) ≡ tree.depth j
  depth_blank json.null = refl
  depth_blank (json.boolean b) = refl
  depth_blank (json.number s) = refl
  depth_blank (json.string s) = refl
  depth_blank (json.array js) = ap suc (blank_items_depth js)
  depth_blank (json.object ms) = ap suc (blank_members_depth ms)

  blank_items_depth : (js : json.Items) → tree.items_depth (blank_items js) ≡ tree.items_depth js
  blank_items_depth json.no_items = refl
  blank_items_depth (json.item j js) = rw (depth_blank j, blank_items_depth js) refl

  blank_members_depth : (ms : json.Members) → tree.members_depth (blank_members ms) ≡ tree.members_depth ms
  blank_members_depth json.no_members = refl
  blank_members_depth (json.member k j ms) = rw (depth_blank j, blank_members_depth ms) refl

some_same : {A : Type 0} (x y : A) → Some x ≡ Some y → x ≡ y
some_same x y e = cc

-- JSON of the same tokens is the same
one_json : (i j : json.Json) → tree.json_tokens i ≡ tree.json_tokens j → i ≡ j
one_json i j e =
    let a = value-json_tokens i (tree.depth i + tree.depth j) [] (omega arith) in
    let b = value-json_tokens j (tree.depth i + tree.depth j) [] (omega arith) in
    ap (λ (x : json.Json × List Token). x.0) (some_same (i, []) (j, []) (sym a ∙ (ap (λ (ts : List Token). json.value (tree.depth i + tree.depth j) (ts ++ [])) e ∙ b)))

pub same_data : (text : List ℕ) (d e : Data) → depth d ≤ max_depth → has_float d ≡ false → IsInOrder text d → IsInOrder text e
    → (depth d ≤ max_depth → read text ≡ Some d) → (depth e ≤ max_depth → read text ≡ Some e) → d ≡ e
same_data text d e shallow plain ordered (j, spelled, seen) first second =
    let same : j ≡ outline d = one_json j (outline d) (sym spelled ∙ tokens_from_order text d ordered plain) in
    let deep : depth e ≡ depth d = sym (depth_outline e) ∙ (ap tree.depth (sym seen) ∙ (depth_blank j ∙ (ap tree.depth same ∙ depth_outline d))) in
    let fits : depth e ≤ max_depth = subst (λ (n : ℕ). n ≤ max_depth) (sym deep) shallow in
    some_same d e (sym (first shallow) ∙ second fits)

-- the texts of two values are the same exactly where the values are
pub same_texts : (s t : List ℕ) (d e : Data) → depth d ≤ max_depth → has_float d ≡ false → (has_float d ≡ false → s ≡ compact_text d) → IsInOrder s d → (depth d ≤ max_depth → read s ≡ Some d)
    → (has_float e ≡ false → t ≡ compact_text e) → IsInOrder t e → (depth e ≤ max_depth → read t ≡ Some e) → (s ≡ t) ↔ (d ≡ e)
same_texts s t d e shallow plain text ordered back other_text other_ordered other_back = (
  (λ same. same_data t d e shallow plain (subst (λ (u : List ℕ). IsInOrder u d) same ordered) other_ordered (λ h. subst (λ (u : List ℕ). read u ≡ Some d) same (back h)) other_back),
  (λ same. text plain ∙ (ap compact_text same ∙ sym (other_text (subst (λ (x : Data). has_float x ≡ false) same plain)))),
)

-- the text of a document's JSON is that of a value exactly where the value is the document's JSON
pub told : (r : Bool) (s t : List ℕ) (doc : Document) (d e : Data) → IsTrue r ↔ (s ≡ t) → d ≡ document_data doc → (has_float d ≡ false → s ≡ compact_text d) → IsInOrder s d → (depth d ≤ max_depth → read s ≡ Some d)
    → (has_float e ≡ false → t ≡ compact_text e) → IsInOrder t e → (depth e ≤ max_depth → read t ≡ Some e) → IsTrue r ↔ (document_data doc ≡ e)
told r s t doc d e tests is text ordered back other_text other_ordered other_back =
    let plain : has_float d ≡ false = ap has_float is ∙ document_plain doc in
    let shallow : depth d ≤ max_depth = subst (λ (x : Data). depth x ≤ max_depth) (sym is) (document_shallow doc) in
    let both : (s ≡ t) ↔ (d ≡ e) = same_texts s t d e shallow plain text ordered back other_text other_ordered other_back in
    ((λ h. sym is ∙ both.0 (tests.0 h)), (λ h. tests.1 (both.1 (is ∙ h))))
