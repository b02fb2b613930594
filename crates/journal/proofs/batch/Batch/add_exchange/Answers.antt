use Rattle.std.proofs.Common.{◌+◌, List, ℕ, refl, sym, ap, subst, ◌∙◌}
use Rattle.ipc_model.specs.encodings.Encodings.{record_encoding}
use Rattle.journal.specs.Batch.{IsWhole, with_encoding, value_of}
use Rattle.journal.proofs.Room.{entry_of}
use Rattle.journal.proofs.Whole.{more_encoding, pushed_long, value_back, whole_of, whole_padded}
use Rattle.journal.proofs.batch.Batch.add_exchange.Goals as goal

pub write_header-requires : goal.write_header-requires
write_header-requires c =
    let count = c.self.inside.count in
    let encoding = c.reserve.new.self.items in
    pushed_long count encoding
    (record_encoding c.args.number (entry_of c.args.space c.args.call.now c.args.reply.now))
    c.push_before_gate-size.new.encoding.items
    (subst (IsWhole count) (sym (c.reserve.ensures.items ∙ c.in_ok-write_front.ensures.ok)) c.self.invariant)
    c.push_before_gate-size.ensures.encoding

pub invariant_of-self-2 : goal.invariant_of-self-2
invariant_of-self-2 c =
    let count = c.self.inside.count in
    let encoding = c.reserve.new.self.items in
    let more : List ℕ =
    record_encoding c.args.number (entry_of c.args.space c.args.call.now c.args.reply.now) in
    let batch = with_encoding (value_of count encoding) more in
    let new = c.write_header.new.encoding.items in
    let is = more_encoding count encoding more c.push_before_gate-size.new.encoding.items new
    (subst (IsWhole count) (sym (c.reserve.ensures.items ∙ c.in_ok-write_front.ensures.ok)) c.self.invariant)
    c.push_before_gate-size.ensures.encoding c.write_header.ensures in
    subst (IsWhole (count + 1)) (sym (whole_padded new batch is)) (whole_of batch.count batch.body new is)

pub returns-clause-ok : goal.returns-clause-ok
returns-clause-ok c =
    let count = c.self.inside.count in
    let encoding = c.reserve.new.self.items in
    let more : List ℕ =
    record_encoding c.args.number (entry_of c.args.space c.args.call.now c.args.reply.now) in
    let batch = with_encoding (value_of count encoding) more in
    let new = c.write_header.new.encoding.items in
    let is = more_encoding count encoding more c.push_before_gate-size.new.encoding.items new
    (subst (IsWhole count) (sym (c.reserve.ensures.items ∙ c.in_ok-write_front.ensures.ok)) c.self.invariant)
    c.push_before_gate-size.ensures.encoding c.write_header.ensures in
    ap (value_of (count + 1)) (whole_padded new batch is) ∙ value_back (count + 1) new batch is refl
    ∙ ap (λ items. with_encoding (value_of count items) more)
    (c.reserve.ensures.items ∙ c.in_ok-write_front.ensures.ok) ∙ ap (λ b. with_encoding b more) c.self.view_is
