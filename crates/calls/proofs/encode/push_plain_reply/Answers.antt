use Rattle.std.proofs.Common.{length, arith, ap}
use Rattle.calls.proofs.Lengths.{few_names, few_members}
use Rattle.calls.proofs.encode.push_plain_reply.Goals as goal

pub push_names-requires : goal.push_names-requires
push_names-requires c =
    let few = few_names c.args.reply.now c.in-Names.names 0xffff_ffff c.in-Names.is (omega (arith, c.requires)) in
    omega (arith, few, ap length c.as_slice.ensures)

pub overflow_cast-members : goal.overflow_cast-members
overflow_cast-members c =
    let few =
    few_members c.args.reply.now c.in-SetStatus.members 0xffff_ffff c.in-SetStatus.is (omega (arith, c.requires)) in
    omega (arith, few, ap length c.as_slice-members.ensures)
