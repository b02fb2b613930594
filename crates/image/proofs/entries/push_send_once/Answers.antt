use Rattle.std.proofs.Common.{[], ◌∷◌, ◌++◌}
use Rattle.image.specs.Parts.{added}
use Rattle.ipc_model.specs.encodings.Images.{number_or_0}
use Rattle.words.specs.Words.{long_word}
use Rattle.image.proofs.entries.push_send_once.Goals as goal

pub returns : goal.returns
returns c =
    let target = long_word (number_or_0 c.args.target) in
    let end = c.push_target.new.out.items in
    added c.args.out.now.items c.push_byte.new.out.items (2 ∷ [])
    (long_word c.args.port ++ target) end c.in_ok-push_byte.ensures
    (added c.push_byte.new.out.items c.push_long_word.new.out.items
    (long_word c.args.port) target end c.in_ok-push_long_word.ensures.ok c.in_ok-push_target.ensures)
