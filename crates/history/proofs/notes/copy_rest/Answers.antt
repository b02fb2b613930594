use Rattle.std.proofs.Common.{◌+◌, ◌++◌, ◌∷◌, [], drop, length, slice_get, ap, sym, ◌∙◌, arith, length-append}
use Rattle.history.proofs.Places.{copy_next}
use Rattle.history.proofs.notes.copy_rest.Goals as goal

pub loop-at-preserved : goal.loop-at-preserved
loop-at-preserved g c =
    let so_far = c.loop-at.invariant in
    let one = c.again_at.result in
    let grown = c.push_reserved.ensures.items in (
      c.again_at.ensures.same ∙ so_far.0,
      c.push_reserved.ensures.capacity ∙ so_far.1,
      omega (arith, ap length grown, length-append c.loop-at.notes.items (one ∷ []), so_far.2),
      ap (λ l. l ++ drop (c.loop-at.at + 1) c.args.others.now.items) grown
          ∙ copy_next c.loop-at.notes.items c.args.others.now.items _ c.loop-at.at one
          (ap (λ l. slice_get l c.loop-at.at) (sym so_far.0) ∙ c.again_at.ensures.note) so_far.3,
    )
