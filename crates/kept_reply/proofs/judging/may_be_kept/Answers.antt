use Rattle.std.proofs.Common.{◌<◌, ◌^◌, []}
use Rattle.ipc_laws.specs.EncodingReading.{all_head}
use Rattle.kept_reply.proofs.KeptLaws.{kept_by_kind}
use Rattle.kept_reply.proofs.judging.may_be_kept.Goals as goal

pub returns : goal.returns
returns c =
    kept_by_kind c.args.kept.now c.is_of_numbered.result c.if-kept-eq0.false
    (all_head (λ number. number < 2 ^ 32) c.args.kept.now.request [] c.numbers.ensures) c.in_range.ensures
    c.is_of_numbered.ensures.yes c.is_of_numbered.ensures.no
