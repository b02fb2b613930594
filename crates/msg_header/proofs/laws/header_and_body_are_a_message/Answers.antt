use Rattle.msg_header.specs.HeaderLaws.{header_and_body}
use Rattle.msg_header.proofs.laws.header_and_body_are_a_message.Goals as goal

pub returns : goal.returns
returns c = header_and_body
