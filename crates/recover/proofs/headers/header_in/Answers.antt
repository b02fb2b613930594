use Rattle.std.proofs.Common.{arith}
use Rattle.recover.proofs.headers.header_in.Goals as goal

pub returns-in-None : goal.returns-in-None
returns-in-None c =
    let is_open = c.is_open.ensures.0 c.if-not-is_open.false in (
      is_open,
      λ other. absurd (cc (c.is_other_version.ensures.1 other, c.if-is_other_version.false)),
      λ number epoch is. c.in-None.ensures.none (omega (arith, is_open.0, c.requires)) number epoch is,
    )
