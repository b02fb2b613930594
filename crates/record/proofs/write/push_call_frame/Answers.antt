use Rattle.std.proofs.Common.{length, ap, arith, length-append}
use Rattle.words.specs.Words.{word}
use Rattle.ipc_model.specs.encodings.Encodings.{call_encoding, canonical_call}
use Rattle.ipc_laws.specs.CanonicalRecords.{canonical_call_long}
use Rattle.record.proofs.write.push_call_frame.Goals as goal

pub set_length-requires-clause-fits : goal.set_length-requires-clause-fits
set_length-requires-clause-fits c =
    let encoding = call_encoding (canonical_call c.args.call.now) in
    omega (
      arith,
      c.requires,
      c.len-at.ensures,
      ap length c.in_ok-push_word.ensures.ok,
      length-append c.args.out.now.items (word 0),
      ap length c.in_ok-push_canonical_call.ensures.ok,
      length-append c.push_word.new.out.items encoding,
      canonical_call_long c.args.call.now,
    )
