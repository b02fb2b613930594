use Rattle.image.proofs.OneEntry.{rights_added}
use Rattle.image.proofs.entries.push_entry.Goals as goal

pub returns-in_ok-push_word-in-Port : goal.returns-in_ok-push_word-in-Port
returns-in_ok-push_word-in-Port c =
    rights_added c.push_target.result c.args.entry c.in-Port.rights c.args.out.now.items c.push_byte.new.out.items
    c.push_long_word.new.out.items c.push_byte-in-Port.new.out.items c.push_word.new.out.items
    c.push_target.new.out.items c.byte_of.result c.in-Port.is
    c.in_ok-push_byte-in-Port.ensures c.in_ok-push_long_word-in-Port.ensures.ok c.byte_of.ensures
    c.in_ok-push_byte-in-Port-2.ensures c.in_ok-push_word-in-Port.ensures.ok c.push_target.ensures
