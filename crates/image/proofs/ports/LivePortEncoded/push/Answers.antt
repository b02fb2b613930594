use Rattle.image.specs.Parts.{added}
use Rattle.ipc_model.specs.encodings.Images.{port_encoding}
use Rattle.words.specs.Words.{long_word}
use Rattle.image.proofs.ports.LivePortEncoded.push.Goals as goal

pub returns : goal.returns
returns c =
    added c.args.out.now.items c.push_long_word.new.out.items (long_word c.args.self.now.serial)
    (port_encoding c.args.self.now.state) c.push_port.new.out.items
    c.in_ok-push_long_word.ensures.ok c.in_ok-push_port.ensures
