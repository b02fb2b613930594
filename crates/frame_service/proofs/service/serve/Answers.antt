use Rattle.std.proofs.Common.{ℕ, List, Option, ◌++◌, Some, Err, refl, ap, subst, ◌∙◌, arith}
use Rattle.std.proofs.lemmas.Result.{err_from_is_err_and}
use Rattle.ipc_model.specs.encodings.Encodings.{reply_encoding}
use Rattle.wire.specs.Writing.{AppendsPart}
use Rattle.wire.specs.declared.fault.WireFault.TheVariants.{Device}
use Rattle.words.specs.Words.{frame_encoding}
use Rattle.frame_service.specs.Serving.{replies_encoding}
use Rattle.frame_service.proofs.Going.{begun, goes_on, ended_whole, frame_read, end_read, appends_is, keeps_is, both_known}
use Rattle.frame_service.proofs.Ended.{ends_at_most, ends_calling, ends_reading, ends_resting, ends_writing, part_whole}
use Rattle.frame_service.proofs.service.serve.Goals as goal

pub loop-init : goal.loop-init
loop-init g c = record {
  room = c.in-Ok.ensures.room;
  going =
      λ input before read written. begun g.C.Caller.answers g.C.Caller.rests c.args.caller.now input before _ _ read
      written;
}

pub loop-preserved : goal.loop-preserved
loop-preserved g c = record {
  room = omega (arith, c.loop.invariant.room, c.answer.ensures.room);
  going = λ input before read written.
      let so_far = c.loop.invariant.going input before read written in
      let front =
      frame_read _ _ so_far.rest c.in-Some.request.content so_far.rest_is
      (rw c.in-Some.is at c.in_ok-request.ensures.found) in
      let answered = c.in_ok-answer.ensures.answered in
      let out = before ++ replies_encoding so_far.exchanges in
      let sent =
      appends_is out (frame_encoding c.answer.new.reply.content) _ _ so_far.replies c.in_ok-write_frame.ensures.ok
      in
      let kept = keeps_is _ _ _ sent c.flush.ensures.bytes in
      goes_on g.C.Caller.answers g.C.Caller.rests c.args.caller.now c.loop.caller c.answer.new.caller c.rest.new.self
      input before c.in-Some.request.content front.0 answered.0 _ _ _ _ c.loop.counter so_far front.1 front.2
      answered.2 c.in_ok-rest.ensures.rests
      (kept ∙ ap (λ l. Some (out ++ frame_encoding l)) answered.1);
}

pub returns-in_err-request : goal.returns-in_err-request
returns-in_err-request g c = record {
  ended = both_known _ _ _ (λ input before read written.
      let p = err_from_is_err_and c.from_residual.result c.from_residual.ensures.1 in
      ends_reading g.C.Caller.answers g.C.Caller.fails g.C.Caller.rests g.C.Caller.breaks c.args.caller.now input before
      c.loop.caller _ _ _ c.loop.counter _ c.from_residual.result
      (c.loop.invariant.going input before read written) c.in_err-request.ensures.exact (p.1 ∙ ap Err p.2));
}

pub returns-in_default-2 : goal.returns-in_default-2
returns-in_default-2 g c = record {
  ended = both_known _ _ _ (λ input before read written.
      let so_far = c.loop.invariant.going input before read written in
      ended_whole g.C.Caller.answers g.C.Caller.rests c.args.caller.now c.loop.caller input before _ _ _ c.loop.counter
      so_far (end_read _ _ so_far.rest so_far.rest_is (rw c.in_default-2.is at c.in_ok-request.ensures.exact)));
}

pub returns-in_err-answer : goal.returns-in_err-answer
returns-in_err-answer g c = record {
  ended = both_known _ _ _ (λ input before read written.
      let p = err_from_is_err_and c.from_residual-in_err-answer.result c.from_residual-in_err-answer.ensures.1 in
      let so_far = c.loop.invariant.going input before read written in
      let front =
      frame_read _ _ so_far.rest c.in-Some.request.content so_far.rest_is
      (rw c.in-Some.is at c.in_ok-request.ensures.found) in
      ends_calling g.C.Caller.answers g.C.Caller.fails g.C.Caller.rests g.C.Caller.breaks c.args.caller.now input before
      c.loop.caller c.answer.new.caller _ _ _ c.loop.counter c.in-Some.request.content front.0 _
      c.from_residual-in_err-answer.result so_far front.1 front.2 c.in_err-answer.ensures.failed
      (p.1 ∙ ap Err p.2));
}

pub returns-in_err-write_frame : goal.returns-in_err-write_frame
returns-in_err-write_frame g c = record {
  ended = both_known _ _ _ (λ input before read written.
      let p =
      err_from_is_err_and c.from_residual-in_err-write_frame.result c.from_residual-in_err-write_frame.ensures.1 in
      let so_far = c.loop.invariant.going input before read written in
      let front =
      frame_read _ _ so_far.rest c.in-Some.request.content so_far.rest_is
      (rw c.in-Some.is at c.in_ok-request.ensures.found) in
      let answered = c.in_ok-answer.ensures.answered in
      let part =
      subst (λ (o : Option (List ℕ)). AppendsPart o (g.W.Write.contents c.write_frame.new.writer)
      (frame_encoding (reply_encoding answered.0))) so_far.replies
      (subst (λ (l : List ℕ). AppendsPart (g.W.Write.contents c.loop.writer)
      (g.W.Write.contents c.write_frame.new.writer) (frame_encoding l)) answered.1
      c.in_err-write_frame.ensures.part) in
      ends_writing g.C.Caller.answers g.C.Caller.fails g.C.Caller.rests g.C.Caller.breaks c.args.caller.now input before
      c.loop.caller c.answer.new.caller _ _ _ _ c.loop.counter c.in-Some.request.content front.0 answered.0 _
      c.from_residual-in_err-write_frame.result so_far front.1 front.2 answered.2 part
      c.in_err-write_frame.ensures.err (p.1 ∙ ap Err p.2));
}

pub returns-then-is_err : goal.returns-then-is_err
returns-then-is_err g c = record {
  ended = both_known _ _ _ (λ input before read written.
      let so_far = c.loop.invariant.going input before read written in
      let front =
      frame_read _ _ so_far.rest c.in-Some.request.content so_far.rest_is
      (rw c.in-Some.is at c.in_ok-request.ensures.found) in
      let answered = c.in_ok-answer.ensures.answered in
      let out = before ++ replies_encoding so_far.exchanges in
      let sent =
      appends_is out (frame_encoding c.answer.new.reply.content) _ _ so_far.replies c.in_ok-write_frame.ensures.ok
      in
      let kept = keeps_is _ _ _ sent c.flush.ensures.bytes ∙ ap (λ l. Some (out ++ frame_encoding l)) answered.1 in
      ends_writing g.C.Caller.answers g.C.Caller.fails g.C.Caller.rests g.C.Caller.breaks c.args.caller.now input before
      c.loop.caller c.answer.new.caller _ _ _ _ c.loop.counter c.in-Some.request.content front.0 answered.0 Device _
      so_far front.1 front.2 answered.2
      (part_whole out (frame_encoding (reply_encoding answered.0)) _ kept) refl refl);
}

pub returns-in_err-rest : goal.returns-in_err-rest
returns-in_err-rest g c = record {
  ended = both_known _ _ _ (λ input before read written.
      let p = err_from_is_err_and c.from_residual-in_err-rest.result c.from_residual-in_err-rest.ensures.1 in
      let so_far = c.loop.invariant.going input before read written in
      let front =
      frame_read _ _ so_far.rest c.in-Some.request.content so_far.rest_is
      (rw c.in-Some.is at c.in_ok-request.ensures.found) in
      let answered = c.in_ok-answer.ensures.answered in
      let out = before ++ replies_encoding so_far.exchanges in
      let sent =
      appends_is out (frame_encoding c.answer.new.reply.content) _ _ so_far.replies c.in_ok-write_frame.ensures.ok
      in
      let kept = keeps_is _ _ _ sent c.flush.ensures.bytes ∙ ap (λ l. Some (out ++ frame_encoding l)) answered.1 in
      ends_resting g.C.Caller.answers g.C.Caller.fails g.C.Caller.rests g.C.Caller.breaks c.args.caller.now input before
      c.loop.caller c.answer.new.caller c.rest.new.self _ _ _ _ c.loop.counter c.in-Some.request.content front.0
      answered.0 _ c.from_residual-in_err-rest.result so_far front.1 front.2 answered.2
      c.in_err-rest.ensures.breaks kept (p.1 ∙ ap Err p.2));
}

pub returns : goal.returns
returns g c = record {
  ended = both_known _ _ _ (λ input before read written.
      ends_at_most g.C.Caller.answers g.C.Caller.fails g.C.Caller.rests g.C.Caller.breaks c.args.caller.now input before
      c.loop.caller _ _ c.loop.counter (c.loop.invariant.going input before read written)
      (omega (arith, c.loop-test.false, c.loop.auto.counter-end)));
}
