use Rattle.std.proofs.Common.{◌≡◌, ◌∷◌, [], ◌++◌, ◌∙◌, All, List, ap, sym, subst, flat_map, length, length-append, arith}
use Rattle.image.specs.Fitting.{FitsRow}
use Rattle.image.specs.Kept.{leads_no_space, leads_space, length-rows, one_more_kept, same_rows}
use Rattle.image.specs.Rows.{Row, row_encoding_of, rows_of}
use Rattle.image.specs.Taking.{all_taken, too_few}
use Rattle.image.proofs.spaces.take_all.Goals as goal

pub returns-in_default-clause-only : goal.returns-in_default-clause-only
returns-in_default-clause-only c = λ spaces kept rest fit long long_too is.
    too_few (row_encoding_of c.args.version) (FitsRow c.args.version) c.args.bytes.now c.args.count
    (rows_of c.loop.spaces.items c.loop.all_kept.items) c.loop.rest.now
    (omega (arith, c.loop-test.true, c.loop.invariant.0.1)) c.loop.invariant.0.0
    (leads_no_space c.args.version c.loop.rest.now c.in_ok-space.field-0 c.in_default.is
    (c.in_ok-space.ensures.found, c.in_ok-space.ensures.only)) (rows_of spaces kept) rest
    (fit, length-rows spaces kept ∙ long, is)

pub loop-preserved : goal.loop-preserved
loop-preserved c = (
  one_more_kept c.args.version c.args.bytes.now c.args.count c.loop.spaces.items c.loop.all_kept.items
      c.push.new.self.items c.push-in-loop.new.self.items c.loop.rest.now c.in-Some.space c.in-Some.kept
      c.in-Some.beyond.now c.loop.counter c.loop-test.true c.loop.invariant.1 c.in_ok-push.ensures.items
      c.in_ok-push-2.ensures.items c.loop.invariant.0
      (leads_space c.args.version c.loop.rest.now c.in_ok-space.field-0 c.in-Some.space c.in-Some.kept
      c.in-Some.beyond c.in-Some.is (c.in_ok-space.ensures.found, c.in_ok-space.ensures.only)),
  omega (
    arith,
    ap length c.in_ok-push.ensures.items,
    ap length c.in_ok-push-2.ensures.items,
    length-append c.loop.spaces.items (c.in-Some.space ∷ []),
    length-append c.loop.all_kept.items (c.in-Some.kept ∷ []),
    c.loop.invariant.1,
  ),
)

pub returns-clause-found : goal.returns-clause-found
returns-clause-found c =
    let taken = c.loop.invariant.0.0 in
    let rows : rows_of c.new.result c.new-2.result ≡ rows_of c.loop.spaces.items c.loop.all_kept.items =
    λ i. rows_of (c.new.ensures i) (c.new-2.ensures i) in
    let many : length c.loop.spaces.items ≡ c.args.count =
    omega (
      arith,
      c.loop-test.false,
      c.loop.auto.counter-end,
      c.loop.invariant.0.1,
      length-rows c.loop.spaces.items c.loop.all_kept.items,
    ) in (
      taken.joined
          ∙ ap (λ (l : List Row). flat_map (row_encoding_of c.args.version) l ++ c.loop.rest.now) (sym rows),
      ap length c.new.ensures ∙ many,
      ap length c.new-2.ensures ∙ c.loop.invariant.1 ∙ many,
      subst (All (FitsRow c.args.version)) (sym rows) taken.fit,
    )

pub returns-clause-only : goal.returns-clause-only
returns-clause-only c = λ spaces kept rest fit long long_too is.
    let counted : length (rows_of c.loop.spaces.items c.loop.all_kept.items) ≡ c.args.count =
    omega (arith, c.loop-test.false, c.loop.auto.counter-end, c.loop.invariant.0.1) in
    let all =
    all_taken (row_encoding_of c.args.version) (FitsRow c.args.version) c.args.bytes.now c.args.count
    (rows_of c.loop.spaces.items c.loop.all_kept.items) c.loop.rest.now counted c.loop.invariant.0.0
    (rows_of spaces kept) rest (fit, length-rows spaces kept ∙ long, is) in
    let same =
    same_rows c.loop.spaces.items spaces c.loop.all_kept.items kept c.loop.invariant.1 (long_too ∙ sym long) all.0 in
    (c.new.ensures ∙ same.0, c.new-2.ensures ∙ same.1, all.1)
