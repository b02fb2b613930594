use Rattle.std.proofs.Common.{subst}
use Rattle.codes.specs.declared.limits.TheConstants.{MAX_RECORDS}
use Rattle.std.specs.Prelude.{◌≤◌, ℕ}
use Rattle.system.specs.Halves.{KernelValue}
use Rattle.system.proofs.Making.{learns_nothing}
use Rattle.system.proofs.kernel_half.KernelHalf.submit_with_witness.Goals as goal

pub returns-then-length-ge-MAX_RECORDS-clause-learned : goal.returns-then-length-ge-MAX_RECORDS-clause-learned
returns-then-length-ge-MAX_RECORDS-clause-learned g c =
    learns_nothing c.submit_without_room.result c.args.self.now c.submit_without_room.new.self c.args.space
    c.args.call.now
    (λ ticket. g.W.Witness.learned c.args.witness c.args.space c.args.call.now ticket.answer c.args.witness)
    (subst (λ (k : KernelValue). MAX_RECORDS ≤ k.log.length) c.self.view_is
    (subst (λ (n : ℕ). MAX_RECORDS ≤ n) c.len-length.ensures c.if-length-ge-MAX_RECORDS.true))
    c.submit_without_room.ensures.given
