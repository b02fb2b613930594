use Rattle.system.proofs.Making.{record_out}
use Rattle.system.proofs.witness.WitnessedRecorder.write.Goals as goal

pub returns-in-Err : goal.returns-in-Err
returns-in-Err g c =
    let log =
    record_out c.args.self.now.log c.push.new.self c.remove_last.new.self c.args.space c.args.call.now
    c.args.reply.now c.in_ok-size.size c.in_ok-size.ensures.ok.0 c.in_ok-size.ensures.size c.remove_last.ensures
    in
    record { ok = tt; err = λ i. record { log = log i; witness = c.in-Err.ensures.err i } }
