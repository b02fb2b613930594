use Rattle.std.proofs.Common.{ℕ, ◌++◌, ◌∙◌, ap}
use Rattle.ipc_model.specs.encodings.Encodings.{record_encoding}
use Rattle.journal.proofs.read.record_at.Goals as goal

pub returns-clause-found : goal.returns-clause-found
returns-clause-found c =
    (rw c.in-Some.is at c.in_ok-found.ensures.found).0 ∙ ap
    (λ (n : ℕ). record_encoding n c.in-Some.entry ++ c.in-Some.rest.now) c.if-found-number.false
