use Rattle.msg_header.specs.HeaderLaws.{written_back}
use Rattle.msg_header.proofs.laws.written_headers_are_read.Goals as goal

pub returns : goal.returns
returns c = written_back
