use Rattle.std.proofs.Common.{◌≡◌, ◌<◌, ◌≤◌, ◌+◌, ◌-◌, ◌^◌, ℕ, List, sym, ap, subst, arith, ◌∙◌, ◌++◌, ◌∷◌, [], length, length-append, length-take, take, drop}
use Rattle.ipc_model.specs.store.Store.{closed_gate}
use Rattle.words.specs.Words.{word, long_word}
use Rattle.journal.specs.Batch.{BatchValue, IsWhole, content_of, padded, value_of, without_last}
use Rattle.journal.proofs.Whole.{counted_some, cut_encoding, value_back, whole_long, whole_of, whole_padded}
use Rattle.journal.proofs.batch.Batch.remove_last.Goals as goal

-- the bytes are a batch with at least one record
record IsBatch (count : ℕ) (encoding : List ℕ) (now : BatchValue) : Type 0 where
  pub whole : IsWhole count encoding
  pub value : value_of count encoding ≡ now
  pub long : length encoding ≡ length now.body + 13

is_batch : (count : ℕ) (encoding : List ℕ) (now : BatchValue) → IsWhole count (padded encoding)
    → value_of count (padded encoding) ≡ now → 0 < now.count → now.count < 2 ^ 32 → IsBatch count encoding now
is_batch count encoding now whole is some fits =
    let counted : count ≡ now.count = ap (λ (b : BatchValue). b.count) is in
    let there : padded encoding ≡ encoding =
    counted_some count encoding whole (omega (arith, counted, some)) (omega (arith, counted, fits)) in
    let is_whole : IsWhole count encoding = subst (IsWhole count) there whole in
    let value : value_of count encoding ≡ now = ap (value_of count) (sym there) ∙ is in
    record {
      whole = is_whole;
      value = value;
      long = omega (arith, whole_long count encoding is_whole, ap (λ (b : BatchValue). length b.body) value);
    }

pub cut_before_gate-requires : goal.cut_before_gate-requires
cut_before_gate-requires c =
    let here =
    is_batch c.self.inside.count c.self.inside.encoding.items c.args.self.now c.self.invariant c.self.view_is
    c.requires.some (omega (arith, c.count-count.ensures, c.count-count.type_inv)) in
    omega (arith, here.long, c.requires.within)

pub write_header-requires : goal.write_header-requires
write_header-requires c =
    let encoding = c.self.inside.encoding.items in
    let here =
    is_batch c.self.inside.count encoding c.args.self.now c.self.invariant c.self.view_is c.requires.some
    (omega (arith, c.count-count.ensures, c.count-count.type_inv)) in
    omega (
      arith,
      here.long,
      c.requires.within,
      ap length c.cut_before_gate.ensures,
      length-append (take (length encoding - 1 - c.args.size) encoding) (closed_gate ∷ []),
      length-take (length encoding - 1 - c.args.size) encoding,
    )

-- the batch after the removal
left : (count seen size : ℕ) (encoding cut new : List ℕ) (now : BatchValue) → IsBatch count encoding now
    → seen ≡ now.count → size ≤ length now.body → cut ≡ take (length encoding - 1 - size) encoding ++ closed_gate ∷ []
    → new ≡ word (seen - 1) ++ (long_word (length cut - 13) ++ drop 12 cut)
    → new ≡ content_of (without_last now size) ++ closed_gate ∷ []
left count seen size encoding cut new now here seen_is within is_cut is_new =
    let counted : seen ≡ count = seen_is ∙ sym (ap (λ (b : BatchValue). b.count) here.value) in
    cut_encoding count size encoding cut new here.whole
    (omega (arith, within, ap (λ (b : BatchValue). length b.body) here.value)) is_cut
    (is_new ∙ ap (λ (n : ℕ). word (n - 1) ++ (long_word (length cut - 13) ++ drop 12 cut)) counted)
    ∙ ap (λ (b : BatchValue). content_of (without_last b size) ++ closed_gate ∷ []) here.value

pub invariant_of-self : goal.invariant_of-self
invariant_of-self c =
    let seen = c.count-count.result in
    let encoding = c.self.inside.encoding.items in
    let now = c.args.self.now in
    let new = c.write_header.new.encoding.items in
    let here =
    is_batch c.self.inside.count encoding now c.self.invariant c.self.view_is c.requires.some
    (omega (arith, c.count-count.ensures, c.count-count.type_inv)) in
    let is =
    left c.self.inside.count seen c.args.size encoding c.cut_before_gate.new.encoding.items new now here
    c.count-count.ensures c.requires.within c.cut_before_gate.ensures c.write_header.ensures in
    let batch = without_last now c.args.size in
    subst (IsWhole (seen - 1)) (sym (whole_padded new batch is))
    (whole_of (seen - 1) batch.body new
    (is ∙ ap (λ (n : ℕ). content_of (record { count = n - 1; body = batch.body }) ++ closed_gate ∷ [])
    (sym c.count-count.ensures)))

pub returns : goal.returns
returns c =
    let seen = c.count-count.result in
    let encoding = c.self.inside.encoding.items in
    let now = c.args.self.now in
    let new = c.write_header.new.encoding.items in
    let here =
    is_batch c.self.inside.count encoding now c.self.invariant c.self.view_is c.requires.some
    (omega (arith, c.count-count.ensures, c.count-count.type_inv)) in
    let is =
    left c.self.inside.count seen c.args.size encoding c.cut_before_gate.new.encoding.items new now here
    c.count-count.ensures c.requires.within c.cut_before_gate.ensures c.write_header.ensures in
    let batch = without_last now c.args.size in
    ap (value_of (seen - 1)) (whole_padded new batch is)
    ∙ value_back (seen - 1) new batch is (ap (λ (n : ℕ). n - 1) (sym c.count-count.ensures))
