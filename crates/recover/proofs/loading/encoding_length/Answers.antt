use Rattle.std.proofs.Common.{refl}
use Rattle.disk.specs.Slots.{slot_of}
use Rattle.recover.proofs.Texts.{word_read}
use Rattle.recover.proofs.loading.encoding_length.Goals as goal

pub returns-in-Some-clause-length : goal.returns-in-Some-clause-length
returns-in-Some-clause-length g c = λ honest.
    word_read (slot_of (g.D.Disk.view c.args.disk.now).seen c.args.slot) c.read.new.buffer _ c.in-Some.field-0-1.now
    c.in_ok-read.field-0 c.in-Some.size (c.requires honest).0 refl
    (c.in_ok-read.ensures.count honest) (c.in_ok-read.ensures.bytes honest) c.in-Some.ensures.found
