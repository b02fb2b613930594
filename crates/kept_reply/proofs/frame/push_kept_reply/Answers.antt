use Rattle.std.proofs.Common.{ap, length, arith, length-append}
use Rattle.ipc_model.specs.encodings.Encodings.{numbered_encoding}
use Rattle.kept_reply.proofs.KeptLaws.{short_kept}
use Rattle.kept_reply.proofs.frame.push_kept_reply.Goals as goal

pub push_numbered_reply-requires : goal.push_numbered_reply-requires
push_numbered_reply-requires c =
    omega (arith, short_kept c.args.kept.now (c.may_be_kept.ensures.0 c.if-not-may_be_kept.false))

pub overflow_cast-len : goal.overflow_cast-len
overflow_cast-len c =
    omega (
      arith,
      c.len.ensures,
      ap length c.in_ok-push_numbered_reply.ensures.ok,
      length-append c.new-content.result.items (numbered_encoding c.args.kept.now),
      ap length c.new-content.ensures.items,
      short_kept c.args.kept.now (c.may_be_kept.ensures.0 c.if-not-may_be_kept.false),
    )
