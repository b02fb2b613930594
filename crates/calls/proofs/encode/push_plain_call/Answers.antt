use Rattle.ipc_model.specs.declared.plain_call.PlainCall.TheVariants as call
use Rattle.ipc_model.specs.encodings.PlainCalls.{call_encoding}
use Rattle.std.specs.Vec.{vec_len, vec_capacity}
use Rattle.calls.proofs.Encoded.{encoded, encoded_full}
use Rattle.calls.proofs.encode.push_plain_call.Goals as goal

pub returns-in-Attach : goal.returns-in-Attach
unfolding call_encoding
returns-in-Attach c =
    record {
      ok = encoded c.push_two.result c.args.call.now
          (call.Attach c.in-Attach.space) c.args.out.now.items c.push_two.new.out.items c.in-Attach.is
          c.push_two.ensures.ok;
      full = encoded_full c.push_two.result c.args.call.now (call.Attach c.in-Attach.space) (vec_capacity c.args.out.now) (vec_len c.args.out.now) c.in-Attach.is c.push_two.ensures.full;
      room = c.push_two.ensures.room;
    }

pub returns-in-Type : goal.returns-in-Type
unfolding call_encoding
returns-in-Type c =
    record {
      ok = encoded c.push_two-in-Type.result c.args.call.now
          (call.Type c.in-Type.name) c.args.out.now.items c.push_two-in-Type.new.out.items c.in-Type.is
          c.push_two-in-Type.ensures.ok;
      full = encoded_full c.push_two-in-Type.result c.args.call.now (call.Type c.in-Type.name) (vec_capacity c.args.out.now) (vec_len c.args.out.now) c.in-Type.is c.push_two-in-Type.ensures.full;
      room = c.push_two-in-Type.ensures.room;
    }

pub returns-in-Rename : goal.returns-in-Rename
unfolding call_encoding
returns-in-Rename c =
    record {
      ok = encoded c.push_three.result c.args.call.now
          (call.Rename c.in-Rename.from c.in-Rename.to) c.args.out.now.items c.push_three.new.out.items c.in-Rename.is
          c.push_three.ensures.ok;
      full = encoded_full c.push_three.result c.args.call.now (call.Rename c.in-Rename.from c.in-Rename.to) (vec_capacity c.args.out.now) (vec_len c.args.out.now) c.in-Rename.is c.push_three.ensures.full;
      room = c.push_three.ensures.room;
    }

pub returns-in-AllocateName : goal.returns-in-AllocateName
unfolding call_encoding
returns-in-AllocateName c =
    record {
      ok = encoded c.push_three-in-AllocateName.result c.args.call.now
          (call.AllocateName c.in-AllocateName.right c.in-AllocateName.name) c.args.out.now.items
          c.push_three-in-AllocateName.new.out.items c.in-AllocateName.is c.push_three-in-AllocateName.ensures.ok;
      full = encoded_full c.push_three-in-AllocateName.result c.args.call.now (call.AllocateName c.in-AllocateName.right c.in-AllocateName.name) (vec_capacity c.args.out.now) (vec_len c.args.out.now) c.in-AllocateName.is c.push_three-in-AllocateName.ensures.full;
      room = c.push_three-in-AllocateName.ensures.room;
    }

pub returns-in-Allocate : goal.returns-in-Allocate
unfolding call_encoding
returns-in-Allocate c =
    record {
      ok = encoded c.push_two-in-Allocate.result c.args.call.now
          (call.Allocate c.in-Allocate.right) c.args.out.now.items c.push_two-in-Allocate.new.out.items c.in-Allocate.is
          c.push_two-in-Allocate.ensures.ok;
      full = encoded_full c.push_two-in-Allocate.result c.args.call.now (call.Allocate c.in-Allocate.right) (vec_capacity c.args.out.now) (vec_len c.args.out.now) c.in-Allocate.is c.push_two-in-Allocate.ensures.full;
      room = c.push_two-in-Allocate.ensures.room;
    }

pub returns-in-Destroy : goal.returns-in-Destroy
unfolding call_encoding
returns-in-Destroy c =
    record {
      ok = encoded c.push_two-in-Destroy.result c.args.call.now
          (call.Destroy c.in-Destroy.name) c.args.out.now.items c.push_two-in-Destroy.new.out.items c.in-Destroy.is
          c.push_two-in-Destroy.ensures.ok;
      full = encoded_full c.push_two-in-Destroy.result c.args.call.now (call.Destroy c.in-Destroy.name) (vec_capacity c.args.out.now) (vec_len c.args.out.now) c.in-Destroy.is c.push_two-in-Destroy.ensures.full;
      room = c.push_two-in-Destroy.ensures.room;
    }

pub returns-in-Deallocate : goal.returns-in-Deallocate
unfolding call_encoding
returns-in-Deallocate c =
    record {
      ok = encoded c.push_two-in-Deallocate.result c.args.call.now
          (call.Deallocate c.in-Deallocate.name) c.args.out.now.items c.push_two-in-Deallocate.new.out.items
          c.in-Deallocate.is c.push_two-in-Deallocate.ensures.ok;
      full = encoded_full c.push_two-in-Deallocate.result c.args.call.now (call.Deallocate c.in-Deallocate.name) (vec_capacity c.args.out.now) (vec_len c.args.out.now) c.in-Deallocate.is c.push_two-in-Deallocate.ensures.full;
      room = c.push_two-in-Deallocate.ensures.room;
    }

pub returns-in-GetRefs : goal.returns-in-GetRefs
unfolding call_encoding
returns-in-GetRefs c =
    record {
      ok = encoded c.push_three-in-GetRefs.result c.args.call.now
          (call.GetRefs c.in-GetRefs.name c.in-GetRefs.right) c.args.out.now.items c.push_three-in-GetRefs.new.out.items
          c.in-GetRefs.is c.push_three-in-GetRefs.ensures.ok;
      full = encoded_full c.push_three-in-GetRefs.result c.args.call.now (call.GetRefs c.in-GetRefs.name c.in-GetRefs.right) (vec_capacity c.args.out.now) (vec_len c.args.out.now) c.in-GetRefs.is c.push_three-in-GetRefs.ensures.full;
      room = c.push_three-in-GetRefs.ensures.room;
    }

pub returns-in-ModRefs : goal.returns-in-ModRefs
unfolding call_encoding
returns-in-ModRefs c =
    record {
      ok = encoded c.push_four.result c.args.call.now
          (call.ModRefs c.in-ModRefs.name c.in-ModRefs.right c.in-ModRefs.delta) c.args.out.now.items
          c.push_four.new.out.items c.in-ModRefs.is c.push_four.ensures.ok;
      full = encoded_full c.push_four.result c.args.call.now (call.ModRefs c.in-ModRefs.name c.in-ModRefs.right c.in-ModRefs.delta) (vec_capacity c.args.out.now) (vec_len c.args.out.now) c.in-ModRefs.is c.push_four.ensures.full;
      room = c.push_four.ensures.room;
    }

pub returns-in-SetQlimit : goal.returns-in-SetQlimit
unfolding call_encoding
returns-in-SetQlimit c =
    record {
      ok = encoded c.push_three-in-SetQlimit.result c.args.call.now
          (call.SetQlimit c.in-SetQlimit.name c.in-SetQlimit.limit) c.args.out.now.items
          c.push_three-in-SetQlimit.new.out.items c.in-SetQlimit.is c.push_three-in-SetQlimit.ensures.ok;
      full = encoded_full c.push_three-in-SetQlimit.result c.args.call.now (call.SetQlimit c.in-SetQlimit.name c.in-SetQlimit.limit) (vec_capacity c.args.out.now) (vec_len c.args.out.now) c.in-SetQlimit.is c.push_three-in-SetQlimit.ensures.full;
      room = c.push_three-in-SetQlimit.ensures.room;
    }

pub returns-in-SetMscount : goal.returns-in-SetMscount
unfolding call_encoding
returns-in-SetMscount c =
    record {
      ok = encoded c.push_three-in-SetMscount.result c.args.call.now
          (call.SetMscount c.in-SetMscount.name c.in-SetMscount.count) c.args.out.now.items
          c.push_three-in-SetMscount.new.out.items c.in-SetMscount.is c.push_three-in-SetMscount.ensures.ok;
      full = encoded_full c.push_three-in-SetMscount.result c.args.call.now (call.SetMscount c.in-SetMscount.name c.in-SetMscount.count) (vec_capacity c.args.out.now) (vec_len c.args.out.now) c.in-SetMscount.is c.push_three-in-SetMscount.ensures.full;
      room = c.push_three-in-SetMscount.ensures.room;
    }

pub returns-in-SetSeqno : goal.returns-in-SetSeqno
unfolding call_encoding
returns-in-SetSeqno c =
    record {
      ok = encoded c.push_three-in-SetSeqno.result c.args.call.now
          (call.SetSeqno c.in-SetSeqno.name c.in-SetSeqno.seqno) c.args.out.now.items
          c.push_three-in-SetSeqno.new.out.items c.in-SetSeqno.is c.push_three-in-SetSeqno.ensures.ok;
      full = encoded_full c.push_three-in-SetSeqno.result c.args.call.now (call.SetSeqno c.in-SetSeqno.name c.in-SetSeqno.seqno) (vec_capacity c.args.out.now) (vec_len c.args.out.now) c.in-SetSeqno.is c.push_three-in-SetSeqno.ensures.full;
      room = c.push_three-in-SetSeqno.ensures.room;
    }

pub returns-in-GetReceiveStatus : goal.returns-in-GetReceiveStatus
unfolding call_encoding
returns-in-GetReceiveStatus c =
    record {
      ok = encoded c.push_two-in-GetReceiveStatus.result c.args.call.now
          (call.GetReceiveStatus c.in-GetReceiveStatus.name) c.args.out.now.items
          c.push_two-in-GetReceiveStatus.new.out.items c.in-GetReceiveStatus.is
          c.push_two-in-GetReceiveStatus.ensures.ok;
      full = encoded_full c.push_two-in-GetReceiveStatus.result c.args.call.now (call.GetReceiveStatus c.in-GetReceiveStatus.name) (vec_capacity c.args.out.now) (vec_len c.args.out.now) c.in-GetReceiveStatus.is c.push_two-in-GetReceiveStatus.ensures.full;
      room = c.push_two-in-GetReceiveStatus.ensures.room;
    }

pub returns-in-GetSetStatus : goal.returns-in-GetSetStatus
unfolding call_encoding
returns-in-GetSetStatus c =
    record {
      ok = encoded c.push_two-in-GetSetStatus.result c.args.call.now
          (call.GetSetStatus c.in-GetSetStatus.name) c.args.out.now.items c.push_two-in-GetSetStatus.new.out.items
          c.in-GetSetStatus.is c.push_two-in-GetSetStatus.ensures.ok;
      full = encoded_full c.push_two-in-GetSetStatus.result c.args.call.now (call.GetSetStatus c.in-GetSetStatus.name) (vec_capacity c.args.out.now) (vec_len c.args.out.now) c.in-GetSetStatus.is c.push_two-in-GetSetStatus.ensures.full;
      room = c.push_two-in-GetSetStatus.ensures.room;
    }

pub returns-in-MoveMember : goal.returns-in-MoveMember
unfolding call_encoding
returns-in-MoveMember c =
    record {
      ok = encoded c.push_three-in-MoveMember.result c.args.call.now
          (call.MoveMember c.in-MoveMember.member c.in-MoveMember.after) c.args.out.now.items
          c.push_three-in-MoveMember.new.out.items c.in-MoveMember.is c.push_three-in-MoveMember.ensures.ok;
      full = encoded_full c.push_three-in-MoveMember.result c.args.call.now (call.MoveMember c.in-MoveMember.member c.in-MoveMember.after) (vec_capacity c.args.out.now) (vec_len c.args.out.now) c.in-MoveMember.is c.push_three-in-MoveMember.ensures.full;
      room = c.push_three-in-MoveMember.ensures.room;
    }

pub returns-in-InsertRight : goal.returns-in-InsertRight
unfolding call_encoding
returns-in-InsertRight c =
    record {
      ok = encoded c.push_four-in-InsertRight.result c.args.call.now
          (call.InsertRight c.in-InsertRight.name c.in-InsertRight.right_name c.in-InsertRight.disposition)
          c.args.out.now.items c.push_four-in-InsertRight.new.out.items c.in-InsertRight.is
          c.push_four-in-InsertRight.ensures.ok;
      full = encoded_full c.push_four-in-InsertRight.result c.args.call.now (call.InsertRight c.in-InsertRight.name c.in-InsertRight.right_name c.in-InsertRight.disposition) (vec_capacity c.args.out.now) (vec_len c.args.out.now) c.in-InsertRight.is c.push_four-in-InsertRight.ensures.full;
      room = c.push_four-in-InsertRight.ensures.room;
    }

pub returns-in-ExtractRight : goal.returns-in-ExtractRight
unfolding call_encoding
returns-in-ExtractRight c =
    record {
      ok = encoded c.push_three-in-ExtractRight.result c.args.call.now
          (call.ExtractRight c.in-ExtractRight.name c.in-ExtractRight.disposition) c.args.out.now.items
          c.push_three-in-ExtractRight.new.out.items c.in-ExtractRight.is c.push_three-in-ExtractRight.ensures.ok;
      full = encoded_full c.push_three-in-ExtractRight.result c.args.call.now (call.ExtractRight c.in-ExtractRight.name c.in-ExtractRight.disposition) (vec_capacity c.args.out.now) (vec_len c.args.out.now) c.in-ExtractRight.is c.push_three-in-ExtractRight.ensures.full;
      room = c.push_three-in-ExtractRight.ensures.room;
    }

pub returns-in-SpaceCreate : goal.returns-in-SpaceCreate
unfolding call_encoding
returns-in-SpaceCreate c =
    record {
      ok = encoded c.push_three-in-SpaceCreate.result c.args.call.now
          (call.SpaceCreate c.in-SpaceCreate.name c.in-SpaceCreate.disposition) c.args.out.now.items
          c.push_three-in-SpaceCreate.new.out.items c.in-SpaceCreate.is c.push_three-in-SpaceCreate.ensures.ok;
      full = encoded_full c.push_three-in-SpaceCreate.result c.args.call.now (call.SpaceCreate c.in-SpaceCreate.name c.in-SpaceCreate.disposition) (vec_capacity c.args.out.now) (vec_len c.args.out.now) c.in-SpaceCreate.is c.push_three-in-SpaceCreate.ensures.full;
      room = c.push_three-in-SpaceCreate.ensures.room;
    }
