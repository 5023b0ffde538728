-- The text of a timeline, or of contents, tells its parts: JSON reads back, and so do the texts of ids and instants.
use Rattle.std.proofs.Common.{◌&&◌, ◌++◌, ◌∷◌, ◌≡◌, ◌≤◌, ◌∙◌, List, Some, [], ap, arith, drop, map, refl, sym, take, true, ℕ, ℤ}
use Rattle.std.specs.List.{list_all}
use Rattle.std.proofs.lemmas.Bool.{and_parts}
use Rattle.std.proofs.lemmas.List.{drop_at, take_at}
use Rattle.json.specs.Json as json
use Rattle.json.specs.Json.{document}
use Rattle.json.specs.Tree.{HasNumbers, ItemsHaveNumbers, depth, items_depth}
use Rattle.json.proofs.Printed.Trees.{document-print}
use Rattle.serde_json.specs.Data.{Data}
use Rattle.serde_json.specs.View.{items_of}
use Rattle.serde_json.specs.Written.{compact_text, items_outline, outline}
use Rattle.serde_json.proofs.Texts.{print-outline}
use Rattle.iv_time.specs.Civil.{instant_text}
use Rattle.iv_time.specs.Range.{is_instant}
use Rattle.iv_time.specs.Texts.{instant_of}
use Rattle.iv_time.proofs.RoundTrip.{reads_back}
use Rattle.iv_span.specs.Extent.{Extent}
use Rattle.seg_names.specs.IdTexts.{id_of, id_text, is_seg_id}
use Rattle.seg_names.specs.declared.seg_id.SegId.{SegId}
use Rattle.seg_names.proofs.IdAgain.{id_again}
use Rattle.seg_names.proofs.Instants.{instant_in}
use Rattle.book_rows.specs.Fits.{span_fits}
use Rattle.book_rows.specs.declared.replies.ContentsPart.{ContentsPart}
use Rattle.book_rows.specs.declared.replies.Reply.{Reply}
use Rattle.book_rows.specs.declared.replies.Reply.TheVariants as Replies
use Rattle.book_rows.specs.declared.replies.TimelinePart.{TimelinePart}
use Rattle.reply_text.specs.Lines.{TextOf, data_of}
use Rattle.reply_text.specs.Objects.{contents_data, id_data, span_text, timeline_data}
use Rattle.laws_chunks.proofs.Spans.{extents}
use Rattle.laws_parts.proofs.Unique.{some_same}
use Rattle.laws_runs.specs.ToldParts.{TextsTellContents, TextsTellTimelines, has_texts, have_root_texts}

-- ---- what stands in a value

abbrev string_in : json.Json → List ℕ
string_in (json.string s) = s
string_in _ = []

abbrev items_in : json.Json → json.Items
items_in (json.array js) = js
items_in _ = json.no_items

abbrev first_in : json.Items → json.Json
first_in json.no_items = json.null
first_in (json.item j js) = j

abbrev rest_in : json.Items → json.Items
rest_in json.no_items = json.no_items
rest_in (json.item j js) = js

abbrev first_value : json.Members → json.Json
first_value json.no_members = json.null
first_value (json.member k j ms) = j

abbrev second_value : json.Members → json.Json
second_value json.no_members = json.null
second_value (json.member k j ms) = first_value ms

abbrev third_value : json.Members → json.Json
third_value json.no_members = json.null
third_value (json.member k j ms) = second_value ms

abbrev members_in : json.Json → json.Members
members_in (json.object ms) = ms
members_in _ = json.no_members

-- ---- texts of values

instants_same : (a b : ℤ) → is_instant a ≡ true → is_instant b ≡ true → instant_text a ≡ instant_text b → a ≡ b
instants_same a b h k e = some_same a b (sym (reads_back a (instant_in a h)) ∙ ap instant_of e ∙ reads_back b (instant_in b k))

spans_same : (a b : Extent) → span_fits a ≡ true → span_fits b ≡ true → span_text a ≡ span_text b → a ≡ b
spans_same a b h k e =
    let fa = and_parts (is_instant a.start) (is_instant a.end) h in
    let fb = and_parts (is_instant b.start) (is_instant b.end) k in
    let starts : instant_text a.start ≡ instant_text b.start =
    sym (take_at (instant_text a.start) (47 ∷ instant_text a.end) 24 refl) ∙ ap (take 24) e ∙ take_at (instant_text b.start) (47 ∷ instant_text b.end) 24 refl in
    let ends : 47 ∷ instant_text a.end ≡ 47 ∷ instant_text b.end =
    sym (drop_at (instant_text a.start) (47 ∷ instant_text a.end) 24 refl) ∙ ap (drop 24) e ∙ drop_at (instant_text b.start) (47 ∷ instant_text b.end) 24 refl in
    extents (instants_same a.start b.start fa.0 fb.0 starts) (instants_same a.end b.end fa.1 fb.1 (ap (drop 1) ends))

ids_same : (as' bs : List SegId) → list_all is_seg_id as' ≡ true → list_all is_seg_id bs ≡ true → items_outline (items_of (map id_data as')) ≡ items_outline (items_of (map id_data bs)) → as' ≡ bs
ids_same [] [] h k e = refl
ids_same [] (b ∷ bs) h k e = absurd (cc)
ids_same (a ∷ as') [] h k e = absurd (cc)
ids_same (a ∷ as') (b ∷ bs) h k e =
    let ha = and_parts (is_seg_id a) (list_all is_seg_id as') h in
    let hb = and_parts (is_seg_id b) (list_all is_seg_id bs) k in
    let text : id_text a ≡ id_text b = ap (λ (js : json.Items). string_in (first_in js)) e in
    rw (some_same a b (sym (id_again a ha.0) ∙ ap id_of text ∙ id_again b hb.0), ids_same as' bs ha.1 hb.1 (ap rest_in e)) refl

-- ---- parts

timeline_whole : (p q : TimelinePart) → p.span ≡ q.span → p.version ≡ q.version → p.ids ≡ q.ids → p ≡ q
timeline_whole p q e f g =
    ap (λ (x : Extent). record p { span = x }) e
    ∙ ap (λ (x : ℤ). record p { span = q.span; version = x }) f
    ∙ ap (λ (x : List SegId). record q { ids = x }) g

timeline_same : (p q : TimelinePart) → has_texts p ≡ true → has_texts q ≡ true → outline (timeline_data p) ≡ outline (timeline_data q) → p ≡ q
timeline_same p q h k e =
    let hp = and_parts (list_all is_seg_id p.ids && span_fits p.span) (is_instant p.version) h in
    let hq = and_parts (list_all is_seg_id q.ids && span_fits q.span) (is_instant q.version) k in
    let ip = and_parts (list_all is_seg_id p.ids) (span_fits p.span) hp.0 in
    let iq = and_parts (list_all is_seg_id q.ids) (span_fits q.span) hq.0 in
    timeline_whole p q
    (spans_same p.span q.span ip.1 iq.1 (ap (λ (j : json.Json). string_in (second_value (members_in j))) e))
    (instants_same p.version q.version hp.1 hq.1 (ap (λ (j : json.Json). string_in (third_value (members_in j))) e))
    (ids_same p.ids q.ids ip.0 iq.0 (ap (λ (j : json.Json). items_in (first_value (members_in j))) e))

timelines_same : (ps qs : List TimelinePart) → list_all has_texts ps ≡ true → list_all has_texts qs ≡ true → items_outline (items_of (map timeline_data ps)) ≡ items_outline (items_of (map timeline_data qs)) → ps ≡ qs
timelines_same [] [] h k e = refl
timelines_same [] (q ∷ qs) h k e = absurd (cc)
timelines_same (p ∷ ps) [] h k e = absurd (cc)
timelines_same (p ∷ ps) (q ∷ qs) h k e =
    let hp = and_parts (has_texts p) (list_all has_texts ps) h in
    let hq = and_parts (has_texts q) (list_all has_texts qs) k in
    rw (timeline_same p q hp.0 hq.0 (ap first_in e), timelines_same ps qs hp.1 hq.1 (ap rest_in e)) refl

contents_same : (p q : ContentsPart) → have_root_texts p ≡ true → have_root_texts q ≡ true → outline (contents_data p) ≡ outline (contents_data q) → p ≡ q
contents_same p q h k e =
    let hp = and_parts (list_all is_seg_id p.roots) (span_fits p.span) h in
    let hq = and_parts (list_all is_seg_id q.roots) (span_fits q.span) k in
    ap (λ (x : Extent). record p { span = x }) (spans_same p.span q.span hp.1 hq.1 (ap (λ (j : json.Json). string_in (second_value (members_in j))) e))
    ∙ ap (λ (x : List SegId). record q { roots = x }) (ids_same p.roots q.roots hp.0 hq.0 (ap (λ (j : json.Json). items_in (first_value (members_in j))) e))

all_contents_same : (ps qs : List ContentsPart) → list_all have_root_texts ps ≡ true → list_all have_root_texts qs ≡ true → items_outline (items_of (map contents_data ps)) ≡ items_outline (items_of (map contents_data qs)) → ps ≡ qs
all_contents_same [] [] h k e = refl
all_contents_same [] (q ∷ qs) h k e = absurd (cc)
all_contents_same (p ∷ ps) [] h k e = absurd (cc)
all_contents_same (p ∷ ps) (q ∷ qs) h k e =
    let hp = and_parts (have_root_texts p) (list_all have_root_texts ps) h in
    let hq = and_parts (have_root_texts q) (list_all have_root_texts qs) k in
    rw (contents_same p q hp.0 hq.0 (ap first_in e), all_contents_same ps qs hp.1 hq.1 (ap rest_in e)) refl

-- ---- their JSON has no numbers, and nests four deep

ids_have_numbers : (ids : List SegId) → ItemsHaveNumbers (items_outline (items_of (map id_data ids)))
ids_have_numbers [] = tt
ids_have_numbers (a ∷ ids) = (tt, ids_have_numbers ids)

ids_are_flat : (ids : List SegId) → items_depth (items_outline (items_of (map id_data ids))) ≤ 0
ids_are_flat [] = omega arith
ids_are_flat (a ∷ ids) = let rest = ids_are_flat ids in omega (arith, rest)

timelines_have_numbers : (ps : List TimelinePart) → ItemsHaveNumbers (items_outline (items_of (map timeline_data ps)))
timelines_have_numbers [] = tt
timelines_have_numbers (p ∷ ps) = ((ids_have_numbers p.ids, (tt, (tt, tt))), timelines_have_numbers ps)

timelines_nest : (ps : List TimelinePart) → items_depth (items_outline (items_of (map timeline_data ps))) ≤ 2
timelines_nest [] = omega arith
timelines_nest (p ∷ ps) = let flat = ids_are_flat p.ids in let rest = timelines_nest ps in omega (arith, flat, rest)

contents_have_numbers : (ps : List ContentsPart) → ItemsHaveNumbers (items_outline (items_of (map contents_data ps)))
contents_have_numbers [] = tt
contents_have_numbers (p ∷ ps) = ((ids_have_numbers p.roots, (tt, tt)), contents_have_numbers ps)

contents_nest : (ps : List ContentsPart) → items_depth (items_outline (items_of (map contents_data ps))) ≤ 2
contents_nest [] = omega arith
contents_nest (p ∷ ps) = let flat = ids_are_flat p.roots in let rest = contents_nest ps in omega (arith, flat, rest)

-- ---- lines

abbrev without_last : List ℕ → List ℕ
without_last [] = []
without_last (x ∷ []) = []
without_last (x ∷ y ∷ xs) = x ∷ without_last (y ∷ xs)

last_off : (xs : List ℕ) (x : ℕ) → without_last (xs ++ x ∷ []) ≡ xs
last_off [] x = refl
last_off (y ∷ []) x = refl
last_off (y ∷ z ∷ xs) x = ap (λ (ys : List ℕ). y ∷ ys) (last_off (z ∷ xs) x)

read_back : (d : Data) → HasNumbers (outline d) → depth (outline d) ≤ json.max_depth → document (compact_text d) ≡ Some (outline d)
read_back d numbers shallow = ap document (sym (print-outline d)) ∙ document-print (outline d) numbers shallow

-- two replies of one text are one as JSON
lines_same : (r q : Reply) → HasNumbers (outline (data_of r)) → depth (outline (data_of r)) ≤ json.max_depth → HasNumbers (outline (data_of q)) → depth (outline (data_of q)) ≤ json.max_depth
    → TextOf r ≡ TextOf q → outline (data_of r) ≡ outline (data_of q)
lines_same r q rn rd qn qd e =
    let text : compact_text (data_of r) ≡ compact_text (data_of q) = sym (last_off (compact_text (data_of r)) 10) ∙ ap without_last e ∙ last_off (compact_text (data_of q)) 10 in
    some_same (outline (data_of r)) (outline (data_of q)) (sym (read_back (data_of r) rn rd) ∙ ap document text ∙ read_back (data_of q) qn qd)

pub texts_tell_timelines : TextsTellTimelines
texts_tell_timelines ps qs source other h k e =
    let nests_p = timelines_nest ps in
    let nests_q = timelines_nest qs in
    let same = lines_same (Replies.Timeline ps source) (Replies.Timeline qs other) (tt, (timelines_have_numbers ps, (tt, tt))) (omega (arith, nests_p)) (tt, (timelines_have_numbers qs, (tt, tt))) (omega (arith, nests_q)) e in (
      timelines_same ps qs h k (ap (λ (j : json.Json). items_in (second_value (members_in j))) same),
      ap (λ (j : json.Json). string_in (third_value (members_in j))) same,
    )

pub texts_tell_contents : TextsTellContents
texts_tell_contents ps qs source other h k e =
    let nests_p = contents_nest ps in
    let nests_q = contents_nest qs in
    let same = lines_same (Replies.Contents ps source) (Replies.Contents qs other) (tt, (contents_have_numbers ps, (tt, tt))) (omega (arith, nests_p)) (tt, (contents_have_numbers qs, (tt, tt))) (omega (arith, nests_q)) e in (
      all_contents_same ps qs h k (ap (λ (j : json.Json). items_in (second_value (members_in j))) same),
      ap (λ (j : json.Json). string_in (third_value (members_in j))) same,
    )
