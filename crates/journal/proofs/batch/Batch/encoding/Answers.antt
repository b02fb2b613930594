use Rattle.std.proofs.Common.{◌<◌, ◌^◌, ◌∷◌, ◌++◌, [], ◌∙◌, sym, ap, subst}
use Rattle.ipc_model.specs.store.Store.{closed_gate}
use Rattle.journal.specs.Batch.{content_of}
use Rattle.journal.proofs.Whole.{counted_some}
use Rattle.journal.proofs.batch.Batch.encoding.Goals as goal

pub returns : goal.returns
returns c =
    let encoding = c.self.inside.encoding.items in
    c.as_slice.ensures.value ∙ sym
    (counted_some c.self.inside.count encoding c.self.invariant
    (subst (λ b. 0 < b.count) (sym c.self.view_is) c.requires)
    (subst (λ n. n < 2 ^ 32) (c.count-count.ensures ∙ sym (ap (λ b. b.count) c.self.view_is))
    c.count-count.type_inv))
    ∙ c.self.invariant ∙ ap (λ b. content_of b ++ closed_gate ∷ []) c.self.view_is
