use Rattle.std.proofs.Common.{Err, ap, ◌∙◌}
use Rattle.std.proofs.lemmas.Result.{err_from_is_err_and}
use Rattle.relay.proofs.Going.{begun, ends_telling, goes_on}
use Rattle.relay.proofs.exchange.relay.Goals as goal

pub loop-init : goal.loop-init
loop-init g c = begun _ _

pub loop-preserved : goal.loop-preserved
loop-preserved g c =
    let asked = rw c.in-Some.is at c.in_ok-request.ensures.found in
    goes_on _ _ _ _ _ _ c.loop.counter c.in-Some.request.content c.in_ok-reply.reply.content c.loop.invariant asked
    c.in_ok-send.ensures.ok c.in_ok-send.ensures.flushed c.in_ok-reply.ensures.found c.in_ok-send-2.ensures.ok
    c.in_ok-send-2.ensures.flushed

pub returns-in_err-send-2 : goal.returns-in_err-send-2
returns-in_err-send-2 g c = record {
  ended =
      let p = err_from_is_err_and c.from_residual-in_err-send-2.result c.from_residual-in_err-send-2.ensures.1 in
      let asked = rw c.in-Some.is at c.in_ok-request.ensures.found in
      ends_telling _ _ _ _ _ _ c.loop.counter c.in-Some.request.content c.in_ok-reply.reply.content _ _ c.loop.invariant
      asked c.in_ok-send.ensures.ok c.in_ok-send.ensures.flushed c.in_ok-reply.ensures.found
      c.in_err-send-2.ensures.part c.in_err-send-2.ensures.err (p.1 ∙ ap Err p.2);
}
