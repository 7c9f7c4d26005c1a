-- The sample's format, made of the laws of each part.
use Rattle.std.proofs.Common.{◌≡◌, ℕ, Bool, true, false, List, [], ◌∷◌, Some, Ok, refl, sym, subst}
use Rattle.std.specs.Prelude.{codes}
use Rattle.std.specs.List.{All}
use Rattle.std.specs.Bool.{⊤}
use Rattle.std.proofs.lemmas.Bool.{eqb-true}
use Rattle.pc_document_format.specs.Lines.{feeds_in}
use Rattle.pc_document_format.specs.Formats.{Lines, IsFormat, IsLine, IsTextOf, Tells, AreTrees, Ends, any, read_bytes, read_line, read_many, read_nodes, read_spelled, found_in, nodes_text, first_line}
use Rattle.pc_document_format.specs.Samples.{Body, nothing, notes, tree, Tag, no_more, some_notes, one_tree, tag_text, tags, tag_of, note_text, is_note, IsNote, likely_note, begins_note, notes_text, node_text, is_split, IsNode, rest_text, IsTagged, BodyFollows, read_tagged, IsBody, body_text, read_body, end_text, sample_text, read_sample}
use Rattle.pc_document_format.proofs.OneLine.{line_format, none_format}
use Rattle.pc_document_format.proofs.Joined.{joined_format, then_format}
use Rattle.pc_document_format.proofs.As.{as_format}
use Rattle.pc_document_format.proofs.Many.{many_format}
use Rattle.pc_document_format.proofs.Nodes.{nodes_format}
use Rattle.pc_document_format.proofs.Spelled.{spelled_line, one_of_line}
use Rattle.pc_document_format.proofs.Whole.{reads_back, tells}

tags_found : (tag : Tag) → found_in tag_text tags (tag_text tag) ≡ Some tag
unfolding found_in
tags_found no_more = refl
tags_found some_notes = refl
tags_found one_tree = refl

tags_plain : (tag : Tag) → feeds_in (tag_text tag) ≡ 0
unfolding feeds_in
tags_plain no_more = refl
tags_plain some_notes = refl
tags_plain one_tree = refl

tag_line : IsLine (λ tag. ⊤) tag_text (found_in tag_text tags)
tag_line = one_of_line tag_text tags no_more (λ tag. tt) tags_found tags_plain

nodes_found : (node : Bool) → found_in node_text (true ∷ false ∷ []) (node_text node) ≡ Some node
unfolding found_in
nodes_found true = refl
nodes_found false = refl

nodes_plain : (node : Bool) → feeds_in (node_text node) ≡ 0
unfolding feeds_in
nodes_plain true = refl
nodes_plain false = refl

node_line : IsLine IsNode node_text (found_in node_text (true ∷ false ∷ []))
node_line = one_of_line node_text (true ∷ false ∷ []) false (λ node. tt) nodes_found nodes_plain

end_found : (mark : ⊤) → found_in end_text (tt ∷ []) (end_text mark) ≡ Some mark
unfolding found_in
end_found mark = refl

end_plain : (mark : ⊤) → feeds_in (end_text mark) ≡ 0
unfolding feeds_in
end_plain mark = refl

end_line : IsLine (λ mark. ⊤) end_text (found_in end_text (tt ∷ []))
end_line = one_of_line end_text (tt ∷ []) tt (λ mark. tt) end_found end_plain

no_note : IsNote []
unfolding feeds_in
no_note = refl

note_plain : (note : List ℕ) → IsNote note → feeds_in (note_text note) ≡ 0
unfolding feeds_in
note_plain note good = eqb-true (feeds_in note) 0 good

note_line : IsLine IsNote note_text (read_spelled note_text is_note likely_note)
note_line = spelled_line note_text is_note likely_note (record {
  some = [];
  some_good = no_note;
  tested = λ note good. good;
  holds = λ line note likely good. good;
  plain = note_plain;
  back = λ note good. refl;
})

notes_format : IsFormat (All IsNote) notes_text (Ends begins_note) (read_many begins_note (read_line (read_spelled note_text is_note likely_note)))
notes_format = many_format begins_note (line_format note_line) (λ note good. refl)

tree_format : IsFormat (AreTrees IsNode is_split 1) (nodes_text node_text) any (read_nodes is_split (found_in node_text (true ∷ false ∷ [])) 1)
tree_format = nodes_format is_split node_line false tt refl 1

tagged_format : (tag : Tag) → IsFormat (IsTagged tag) rest_text BodyFollows (read_tagged tag)
tagged_format no_more = none_format nothing refl (λ body is. is) refl (λ line. tt)
tagged_format some_notes = as_format notes_format (record {
  made = λ ns good. (good, refl);
  follows = λ ns line good follows. follows;
  parts = notes_parts;
  back_follows = λ ns line good follows. follows;
})
  where
    notes_parts : (body : Body) → IsTagged some_notes body → (ns : List (List ℕ)) × All IsNote ns × (notes ns ≡ body)
    notes_parts nothing good = absurd good
    notes_parts (notes ns) good = (ns, good, refl)
    notes_parts (tree nodes) good = absurd good
tagged_format one_tree = as_format tree_format (record {
  made = λ nodes good. (good, refl);
  follows = λ nodes line good follows. tt;
  parts = tree_parts;
  back_follows = λ nodes line good follows. tt;
})
  where
    tree_parts : (body : Body) → IsTagged one_tree body → (nodes : List Bool) × AreTrees IsNode is_split 1 nodes × (tree nodes ≡ body)
    tree_parts nothing good = absurd good
    tree_parts (notes ns) good = absurd good
    tree_parts (tree nodes) good = (nodes, good, refl)

body_format : IsFormat IsBody body_text BodyFollows read_body
body_format = joined_format (line_format tag_line) (λ tag good. tagged_format tag) (record {
  made = made;
  follows = λ tag body line tagged good follows. follows;
  parts = λ body good. (tag_of body, body, tt, good, refl);
  back_follows = λ tag body line tagged good follows. follows;
  fits = λ tag body rest tagged good follows. tt;
})
  where
    made : (tag : Tag) (body : Body) → ⊤ → IsTagged tag body → IsBody body × (body_text body ≡ tag_text tag ∷ rest_text body)
    made no_more body tagged good = subst (λ (b : Body). IsBody b × (body_text b ≡ tag_text no_more ∷ rest_text b)) (sym good) (refl, refl)
    made some_notes nothing tagged good = absurd good
    made some_notes (notes ns) tagged good = (good, refl)
    made some_notes (tree nodes) tagged good = absurd good
    made one_tree nothing tagged good = absurd good
    made one_tree (notes ns) tagged good = absurd good
    made one_tree (tree nodes) tagged good = (good, refl)

end_follows : (body : Body) (rest : Lines) → IsBody body → BodyFollows body (first_line (codes "end" ∷ rest))
end_follows nothing rest good = tt
end_follows (notes ns) rest good = refl
end_follows (tree nodes) rest good = tt

sample_format : IsFormat IsBody sample_text any read_sample
unfolding read_sample
sample_format = as_format (then_format body_format (λ body good. line_format end_line) (λ body mark rest good marked follows. end_follows body rest good)) (record {
  made = λ p good. (good.0, refl);
  follows = λ p line good follows. tt;
  parts = λ body good. ((body, tt), (good, tt), refl);
  back_follows = λ p line good follows. tt;
})

pub sample_reads_back : (bytes : List ℕ) (body : Body) → IsTextOf IsBody sample_text bytes body → read_bytes read_sample bytes ≡ Ok body
sample_reads_back = reads_back sample_format (λ body good. tt)

pub sample_tells : (bytes : List ℕ) → Tells IsBody sample_text bytes (read_bytes read_sample bytes)
sample_tells = tells sample_format (λ body good. tt)
