use Rattle.ipc_laws.specs.CanonicalRecords.{canonical_is_record}
use Rattle.ipc_model.specs.declared.record.Record.{Record}
use Rattle.record.proofs.ranges.in_range.Goals as goal

pub returns : goal.returns
returns c = λ whole number results recorded calls replies.
    let entry : Record = record { space = c.args.space; call = c.args.call.now; reply = c.args.reply.now } in
    canonical_is_record entry c.ranges.space.fits c.call_in_range.ensures whole
    (record {
      fits = c.reply_in_range.ensures number results recorded;
      of_one_call = number;
      results = results;
      recorded = recorded;
    }) calls replies
