-- The bytes of a batch as it grows.
use Rattle.std.proofs.Common.{◌≡◌, ℕ, ◌+◌, ◌-◌, ◌<◌, ◌≤◌, ◌^◌, List, [], ◌∷◌, ◌++◌, length, take, drop, replicate, refl, sym, ap, ◌∙◌, arith, append_assoc, length-append, length-take}
use Rattle.std.proofs.lemmas.List.{take_at, take-append-drop}
use Rattle.ipc_model.specs.store.Store.{closed_gate}
use Rattle.words.specs.Words.{word, long_word}
use Rattle.words.specs.WordLaws.{same_word}
use Rattle.journal.specs.Batch.{BatchValue, body_of, content_of, padded, value_of, with_encoding, without_last, IsWhole}

-- the elements before the last one
front_of_one : (all front last : List ℕ) → all ≡ front ++ last → length last ≡ 1 → take (length all - 1) all ≡ front
front_of_one all front last is one =
    let begins : length all - 1 ≡ length front = omega (arith, ap length is, length-append front last) in
    (λ i. take (begins i) (is i)) ∙ take_at front last (length front) refl

-- the body of a batch's bytes is the body that was encoded
pub body_back : (count : ℕ) (body : List ℕ)
    → body_of (content_of (record { count = count; body = body }) ++ closed_gate ∷ []) ≡ body
unfolding content_of
body_back count body =
    let content : List ℕ = word count ++ (long_word (length body) ++ body) in
    ap (λ (l : List ℕ). drop 12 l) (front_of_one (content ++ closed_gate ∷ []) content (closed_gate ∷ []) refl refl)

pub whole_of : (count : ℕ) (body encoding : List ℕ)
    → encoding ≡ content_of (record { count = count; body = body }) ++ closed_gate ∷ [] → IsWhole count encoding
whole_of count body encoding is =
    let back : body_of encoding ≡ body = ap body_of is ∙ body_back count body in
    is ∙ ap (λ (b : List ℕ). content_of (record { count = count; body = b }) ++ closed_gate ∷ []) (sym back)

pub whole_long : (count : ℕ) (encoding : List ℕ) → IsWhole count encoding
    → length encoding ≡ length (body_of encoding) + 13
unfolding content_of
whole_long count encoding whole = omega (arith, ap length whole, length-append (body_of encoding) (closed_gate ∷ []))

pub pushed_long : (count : ℕ) (encoding more pushed : List ℕ) → IsWhole count encoding
    → pushed ≡ take (length encoding - 1) encoding ++ (more ++ closed_gate ∷ []) → 13 ≤ length pushed
pushed_long count encoding more pushed whole is =
    omega (
      arith,
      whole_long count encoding whole,
      ap length is,
      length-append (take (length encoding - 1) encoding) (more ++ closed_gate ∷ []),
      length-append more (closed_gate ∷ []),
      length-take (length encoding - 1) encoding,
    )

-- one more record before the gate; then count and length are updated
pub more_encoding : (count : ℕ) (encoding more pushed new : List ℕ) → IsWhole count encoding
    → pushed ≡ take (length encoding - 1) encoding ++ (more ++ closed_gate ∷ [])
    → new ≡ word (count + 1) ++ (long_word (length pushed - 13) ++ drop 12 pushed)
    → new ≡ content_of (with_encoding (value_of count encoding) more) ++ closed_gate ∷ []
unfolding content_of
more_encoding count encoding more pushed new whole is_pushed is_new =
    let body = body_of encoding in
    let content : List ℕ = word count ++ (long_word (length body) ++ body) in
    let front : take (length encoding - 1) encoding ≡ content =
    front_of_one encoding content (closed_gate ∷ []) whole refl in
    let parts : pushed ≡ content ++ (more ++ closed_gate ∷ []) =
    is_pushed ∙ ap (λ (l : List ℕ). l ++ (more ++ closed_gate ∷ [])) front in
    let beyond : drop 12 pushed ≡ body ++ (more ++ closed_gate ∷ []) = ap (λ (l : List ℕ). drop 12 l) parts in
    let long : length pushed - 13 ≡ length (body ++ more) =
    omega (
      arith,
      ap length parts,
      length-append body (more ++ closed_gate ∷ []),
      length-append more (closed_gate ∷ []),
      length-append body more,
    ) in
    is_new ∙ (λ i. word (count + 1) ++ (long_word (long i) ++ beyond i))
    ∙ ap (λ (l : List ℕ). word (count + 1) ++ (long_word (length (body ++ more)) ++ l))
    (sym (append_assoc body more (closed_gate ∷ [])))

-- the last record before the gate is removed; then count and length are updated
pub cut_encoding : (count size : ℕ) (encoding cut new : List ℕ) → IsWhole count encoding
    → size ≤ length (body_of encoding) → cut ≡ take (length encoding - 1 - size) encoding ++ closed_gate ∷ []
    → new ≡ word (count - 1) ++ (long_word (length cut - 13) ++ drop 12 cut)
    → new ≡ content_of (without_last (value_of count encoding) size) ++ closed_gate ∷ []
unfolding content_of
cut_encoding count size encoding cut new whole within is_cut is_new =
    let body = body_of encoding in
    let left = length body - size in
    let front : List ℕ = word count ++ (long_word (length body) ++ take left body) in
    let beyond : List ℕ = drop left body ++ closed_gate ∷ [] in
    let whole_body : body ++ closed_gate ∷ [] ≡ take left body ++ beyond =
    ap (λ (l : List ℕ). l ++ closed_gate ∷ []) (sym (take-append-drop left body))
    ∙ append_assoc (take left body) (drop left body) (closed_gate ∷ []) in
    let parts : encoding ≡ front ++ beyond =
    whole ∙ ap (λ (l : List ℕ). word count ++ (long_word (length body) ++ l)) whole_body in
    let long : length encoding - 1 - size ≡ length front =
    omega (arith, whole_long count encoding whole, within, length-take left body) in
    let begun : take (length encoding - 1 - size) encoding ≡ front =
    (λ i. take (long i) (parts i)) ∙ take_at front beyond (length front) refl in
    let is : cut ≡ front ++ closed_gate ∷ [] = is_cut ∙ ap (λ (l : List ℕ). l ++ closed_gate ∷ []) begun in
    let counted : length cut - 13 ≡ length (take left body) =
    omega (arith, ap length is, length-append (take left body) (closed_gate ∷ [])) in
    let rest : drop 12 cut ≡ take left body ++ closed_gate ∷ [] = ap (λ (l : List ℕ). drop 12 l) is in
    is_new ∙ (λ i. word (count - 1) ++ (long_word (counted i) ++ rest i))

pub value_back : (count : ℕ) (encoding : List ℕ) (batch : BatchValue) → encoding ≡ content_of batch ++ closed_gate ∷ []
    → batch.count ≡ count → value_of count encoding ≡ batch
value_back count encoding batch is counted =
    let back : body_of encoding ≡ batch.body = ap body_of is ∙ body_back batch.count batch.body in
    λ i. record { count = sym counted i; body = back i }

none_encoding : replicate 13 0 ≡ content_of (record { count = 0; body = [] }) ++ closed_gate ∷ []
unfolding content_of
none_encoding = refl

-- no bytes mean a batch without records
pub none_whole : (encoding : List ℕ) → encoding ≡ [] → IsWhole 0 (padded encoding)
none_whole encoding is = whole_of 0 [] (padded encoding) (ap padded is ∙ none_encoding)

-- padding leaves bytes unchanged unless there are none
pub padded_some : (encoding : List ℕ) → 0 < length encoding → padded encoding ≡ encoding
padded_some [] some = absurd (omega arith)
padded_some (x ∷ encoding) some = refl

pub whole_padded : (encoding : List ℕ) (batch : BatchValue) → encoding ≡ content_of batch ++ closed_gate ∷ []
    → padded encoding ≡ encoding
whole_padded encoding batch is =
    padded_some encoding (omega (arith, ap length is, length-append (content_of batch) (closed_gate ∷ [])))

none_counted : (count : ℕ) (encoding : List ℕ) → encoding ≡ [] → IsWhole count (padded encoding) → count < 2 ^ 32
    → count ≡ 0
unfolding content_of
none_counted count encoding is whole fits =
    let body = body_of (padded encoding) in
    sym (same_word 0 count (replicate 9 0) ((long_word (length body) ++ body) ++ closed_gate ∷ []) (omega arith) fits
    (sym (ap padded is) ∙ whole))

pub counted_some : (count : ℕ) (encoding : List ℕ) → IsWhole count (padded encoding) → 0 < count → count < 2 ^ 32
    → padded encoding ≡ encoding
counted_some count [] whole some fits = absurd (omega (arith, none_counted count [] refl whole fits))
counted_some count (x ∷ encoding) whole some fits = refl
